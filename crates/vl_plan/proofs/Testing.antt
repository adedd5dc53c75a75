-- The tests of a plan: their columns exist, and their values are of the columns' types.
use Rattle.std.proofs.Common.{◌≡◌, ℕ, ◌<◌, ◌⊎◌, inl, inr, Bool, true, false, cond, List, [], ◌∷◌, ◌++◌, length, get_or, Option, Some, None, Result, Ok, Err, map, refl, sym, ap, ◌∙◌, subst, arith}
use Rattle.std.specs.Prelude.{Contains, filter, nat_lt, not, slice_get, unwrap_or, is_none}
use Rattle.std.specs.List.{flat_map, position_or_len}
use Rattle.std.specs.Option.{option_map_or}
use Rattle.std.specs.Str.{bytes_eq}
use Rattle.std.proofs.lemmas.List.Elements.{All-contains, All-contains_itself, All-filter, filter_passes}
use Rattle.std.proofs.lemmas.Bool.{ltb-true}
use Rattle.std.proofs.lemmas.Option.{cond_some}
use Rattle.vl_values.specs.declared.cause.Cause.{Cause}
use Rattle.vl_values.specs.declared.cause.Cause.TheVariants.{UnknownColumn}
use Rattle.vl_values.specs.declared.col_type.ColType.{ColType}
use Rattle.vl_values.specs.declared.value.Value.{Value}
use Rattle.vl_values.specs.declared.value.Value.TheVariants.{Null, Int, Uint, Bytes}
use Rattle.vl_values.specs.Fit.{fitted, is_held, is_of_type}
use Rattle.vl_values.specs.Value.{is_null}
use Rattle.vl_values.proofs.Fitting.{fitted_is_held}
use Rattle.vl_catalog.specs.declared.catalog.Catalog.{Catalog}
use Rattle.vl_catalog.specs.declared.column.Column.{Column}
use Rattle.vl_catalog.specs.declared.table.Table.{Table}
use Rattle.vl_catalog.specs.Build.{Names, column_number}
use Rattle.vl_sql.specs.declared.test.Test.{Test as Written}
use Rattle.vl_model.specs.Columns.{column_tested, compared, is_numbered, literals, test_compared}
use Rattle.vl_model.specs.Refusals.{faults, unknown_among}
use Rattle.vl_rules.proofs.Passed.{at_number, not_true}
use Rattle.vl_values.specs.declared.test.Test.{Test}
use Rattle.vl_catalog.specs.Fitting.{IsTestOf}
use Rattle.vl_plan.specs.Planned.{in_order, number_in, number_of, test_of, values_of}
use Rattle.vl_plan.proofs.Sorting.{here, in_order_ascending, in_order_from, no_member, pairs_ascending, split_member, there}
use Rattle.vl_plan.proofs.Storing.{empty_parts, passed_one, taken_parts}

-- ---- members

pub kept_member : {X : Type 0} (p : X → Bool) (xs : List X) (w : X) → Contains (filter p xs) w → (p w ≡ true) × Contains xs w
kept_member {X} p xs w h = (
  All-contains (λ (x : X). p x ≡ true) (filter p xs) w (filter_passes p xs) h,
  All-contains (Contains xs) (filter p xs) w (All-filter p (Contains xs) xs (All-contains_itself xs)) h,
)

taken_step : {X : Type 0} (f : X → Result Value Cause) (x : X) (xs : List X) (v w : Value) → f x ≡ Ok v → ((v : Value) → Contains (values_of (map f xs)) v → (x : X) × (f x ≡ Ok v))
    → (v ≡ w) ⊎ Contains (values_of (map f xs)) w → (x : X) × (f x ≡ Ok w)
taken_step f x xs v w e rest (inl same) = (x, e ∙ ap Ok same)
taken_step f x xs v w e rest (inr h) = rest w h

pub taken_member : {X : Type 0} (f : X → Result Value Cause) (xs : List X) → faults (map f xs) ≡ [] → (w : Value) → Contains (values_of (map f xs)) w → (x : X) × (f x ≡ Ok w)
taken_member f [] none w h = absurd (no_member w h)
taken_member {X} f (x ∷ xs) none w h =
    let parts = passed_one (f x) (map f xs) none in
    let among : Contains (parts.0 ∷ values_of (map f xs)) w = subst (λ (r : Result Value Cause). Contains (values_of (r ∷ map f xs)) w) parts.1 h in
    taken_step f x xs parts.0 w parts.1 (taken_member f xs parts.2) (split_member parts.0 (values_of (map f xs)) w among)

-- ---- columns

pub record IsKnown (columns : List Column) (name : List ℕ) : Type 0 where
  pub number : ℕ
  pub column : Column
  pub is_number : column_number columns name ≡ Some number
  pub within : number < length columns
  pub is_column : slice_get columns number ≡ Some column

number_known : (columns : List Column) (name : List ℕ) (n : ℕ) → column_number columns name ≡ Some n → IsKnown columns name
number_known columns name n e =
    let test : Column → Bool = λ column. bytes_eq column.name name in
    let parts = cond_some (nat_lt (position_or_len test columns) (length columns)) (position_or_len test columns) n e in
    let lt = ltb-true (position_or_len test columns) (length columns) parts.0 in
    let within : n < length columns = subst (λ (m : ℕ). m < length columns) parts.1 lt in
    let column = at_number columns n within in
    record { number = n; column = column.0; is_number = e; within = within; is_column = column.1 }

known_by : (columns : List Column) (name : List ℕ) (rest : Names) (o : Option ℕ) → column_number columns name ≡ o
    → map (λ (it : List ℕ). UnknownColumn it) (cond (is_none o) (name ∷ rest) rest) ≡ [] → IsKnown columns name × (map (λ (it : List ℕ). UnknownColumn it) rest ≡ [])
known_by columns name rest None e h = cc
known_by columns name rest (Some n) e h = (number_known columns name n e, h)

pub known_first : (columns : List Column) (name : List ℕ) (names : Names) → unknown_among columns (name ∷ names) ≡ [] → IsKnown columns name × (unknown_among columns names ≡ [])
known_first columns name names h =
    known_by columns name (filter (λ (it : List ℕ). is_none (column_number columns it)) names) (column_number columns name) refl h

-- each name that is known is the number of a column
pub names_within : (columns : List Column) (names : Names) → unknown_among columns names ≡ [] → (n : ℕ) → Contains (map (number_in columns) names) n → n < length columns
names_within columns [] known n h = absurd (no_member n h)
names_within columns (name ∷ names) known n h =
    let first = known_first columns name names known in
    elim (split_member (number_in columns name) (map (number_in columns) names) n h) [
      | inl same ↦ subst (λ (m : ℕ). m < length columns) (sym (ap (λ (o : Option ℕ). unwrap_or o 0) first.0.is_number) ∙ same) first.0.within
      | inr rest ↦ names_within columns names first.1 n rest
    ]

-- ---- tests

compared_known : (catalog : Catalog) (table : Table) (test : Written) (known : IsKnown table.columns (column_tested test))
    → test_compared catalog table test ≡ map (compared catalog table known.number known.column) (literals test)
compared_known catalog table test known =
    ap (λ (o : Option ℕ). option_map_or (λ (n : ℕ). option_map_or (λ (it : Column). map (compared catalog table n it) (literals test)) (slice_get table.columns n) []) o []) known.is_number
    ∙ ap (λ (o : Option Column). option_map_or (λ (it : Column). map (compared catalog table known.number it) (literals test)) o []) known.is_column

of_type : (ty : ColType) (v : Value) → is_null v ≡ false → is_held ty true v ≡ true → is_of_type ty v ≡ true
of_type ty Null some held = cc
of_type ty (Int z) some held = held
of_type ty (Uint n) some held = held
of_type ty (Bytes s) some held = held

compared_typed : (catalog : Catalog) (table : Table) (n : ℕ) (column : Column) (given : List Value) → faults (map (compared catalog table n column) given) ≡ []
    → (w : Value) → Contains (in_order (values_of (map (compared catalog table n column) given))) w → is_of_type column.ty w ≡ true
compared_typed catalog table n column given none w h =
    let kept = kept_member (λ (v : Value). not (is_null v)) (values_of (map (compared catalog table n column) given)) w (in_order_from (values_of (map (compared catalog table n column) given)) w h) in
    let from = taken_member (compared catalog table n column) given none w kept.1 in
    let fits = (taken_parts false (is_numbered catalog table n) column (fitted from.0 column.ty true) w from.1).fits in
    of_type column.ty w (not_true (is_null w) kept.0) (fitted_is_held column.ty true from.0 w fits)

pub test_fits : (catalog : Catalog) (table : Table) (test : Written) → IsKnown table.columns (column_tested test) → faults (test_compared catalog table test) ≡ [] → IsTestOf table (test_of catalog table test)
test_fits catalog table test known none =
    let same = compared_known catalog table test known in
    let number : number_of table (column_tested test) ≡ known.number = ap (λ (o : Option ℕ). unwrap_or o 0) known.is_number in
    record {
      column = known.column;
      is_column = ap (slice_get table.columns) number ∙ known.is_column;
      typed = λ w h.
          compared_typed catalog table known.number known.column (literals test) (sym (ap faults same) ∙ none) w
          (subst (λ (rs : List (Result Value Cause)). Contains (in_order (values_of rs)) w) same h);
      ascending = pairs_ascending (in_order (values_of (test_compared catalog table test))) (in_order_ascending (values_of (test_compared catalog table test)));
    }

tests_step : (catalog : Catalog) (table : Table) (test : Written) (it : Test) (rest : List Test) → IsTestOf table (test_of catalog table test) → ((other : Test) → Contains rest other → IsTestOf table other)
    → (test_of catalog table test ≡ it) ⊎ Contains rest it → IsTestOf table it
tests_step catalog table test it rest first others (inl same) = subst (λ (other : Test). IsTestOf table other) same first
tests_step catalog table test it rest first others (inr h) = others it h

pub tests_fit : (catalog : Catalog) (table : Table) (tests : List Written) → unknown_among table.columns (map column_tested tests) ≡ []
    → flat_map (λ (test : Written). faults (test_compared catalog table test)) tests ≡ [] → (it : Test) → Contains (map (test_of catalog table) tests) it → IsTestOf table it
tests_fit catalog table [] known none it h = absurd (no_member it h)
tests_fit catalog table (test ∷ tests) known none it h =
    let first = known_first table.columns (column_tested test) (map column_tested tests) known in
    let parts = empty_parts (faults (test_compared catalog table test)) (flat_map (λ (other : Written). faults (test_compared catalog table other)) tests) none in
    tests_step catalog table test it (map (test_of catalog table) tests) (test_fits catalog table test first.0 parts.0) (tests_fit catalog table tests first.1 parts.1)
    (split_member (test_of catalog table test) (map (test_of catalog table) tests) it h)
