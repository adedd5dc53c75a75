-- The entry of a row: its values, column by column.
use Rattle.std.proofs.Common.{◌≡◌, ◌≢◌, ◌⊎◌, inl, inr, ℕ, zero, suc, ◌+◌, ◌<◌, ◌≤◌, Bool, true, false, cond, List, [], ◌∷◌, length, get_or, map, Option, Some, None, refl, sym, ap, ◌∙◌, subst, arith}
use Rattle.std.specs.Prelude.{◌==◌, position, slice_get, nat_le, nat_lt}
use Rattle.std.specs.List.{position_or_len, range_with_len}
use Rattle.std.specs.Option.{option_map_or}
use Rattle.std.proofs.lemmas.Bool.{eqb-true, eq-eqb, le-leb, leb-true, ltb-false, ne_eqb}
use Rattle.std.proofs.lemmas.List.{ext_get_or, get_or-map, length-map}
use Rattle.std.proofs.lemmas.List.FromFn.{get_or-range_with_len, length-map-range_with_len, length-range_with_len}
use Rattle.std.proofs.lemmas.List.Quantifiers.{position-Some}
use Rattle.std.proofs.lemmas.List.Sums.{fails_before_first}
use Rattle.std.proofs.lemmas.Option.{get_or_from_slice_get, same_Some, slice_get-get_or, slice_get_within}
use Rattle.vl_values.specs.declared.col_type.ColType.{ColType}
use Rattle.vl_values.specs.declared.col_type.ColType.TheVariants as types
use Rattle.vl_values.specs.declared.value.Value.{Value}
use Rattle.vl_values.specs.declared.value.Value.TheVariants.{Null, Int, Uint, Bytes}
use Rattle.vl_values.specs.Fit.{is_held, is_of_type}
use Rattle.vl_values.specs.Value.{is_null}
use Rattle.vl_catalog.specs.declared.column.Column.{Column}
use Rattle.vl_catalog.specs.declared.table.Table.{Table}
use Rattle.vl_catalog.specs.Fitting.{IsRowOf}
use Rattle.vl_rules.specs.Kept.{HaveOneType, IsIn}
use Rattle.vl_rules.specs.Lookups.{is_wide, is_wide_column}
use Rattle.vl_port.specs.View.{Values}
use Rattle.vl_lookup.specs.Entry.{at, entry_row, entry_value, given_at}
use Rattle.vl_lookup.proofs.Matching.{AreWhole}

-- the columns of an entry: where the row's values go, and where the keyspace id does
pub record Fitting (row : Values) (owner table : Table) (columns from : List ℕ) (to : ℕ) (ksid : List ℕ) : Type 0 where
  pub each : (k : ℕ) → k < length from → position (λ m. m == get_or from k 0) from ≡ Some k
  pub long : length from ≡ length columns
  pub types : (k m n : ℕ) → slice_get from k ≡ Some m → slice_get columns k ≡ Some n → HaveOneType table.columns owner.columns m n
  pub off : IsIn from to → ⊥
  pub wide : is_wide_column table.columns to ≡ true
  pub besides : (n : ℕ) (column : Column) → slice_get table.columns n ≡ Some column → (IsIn from n → ⊥) → (n ≢ to) → column.nullable ≡ true
  pub fits : IsRowOf owner row
  pub whole : AreWhole row columns
  pub short : length ksid ≤ 16

entry_at : (row : Values) (columns from : List ℕ) (to : ℕ) (ksid : List ℕ) (width n : ℕ) → n < width → at (entry_row row columns from to ksid width) n ≡ entry_value row columns from to ksid n
entry_at row columns from to ksid width n within =
    let f = entry_value row columns from to ksid in
    get_or-map f (range_with_len 0 width) n 0 Null (omega (arith, within, length-range_with_len 0 width))
    ∙ ap f (omega (arith, get_or-range_with_len 0 width n 0 within))

-- ---- the column for the keyspace id

at_to : (row : Values) (columns from : List ℕ) (to : ℕ) (ksid : List ℕ) → entry_value row columns from to ksid to ≡ Bytes ksid
at_to row columns from to ksid =
    ap (λ (b : Bool). cond b (Bytes ksid) (option_map_or (given_at row columns) (position (λ m. m == to) from) Null)) (eq-eqb to to refl)

wide_within : (columns : List Column) (o : Option Column) (to : ℕ) → slice_get columns to ≡ o → option_map_or (λ (column : Column). is_wide column.ty) o false ≡ true → to < length columns
wide_within columns None to is wide = absurd (cc)
wide_within columns (Some column) to is wide = slice_get_within columns to column is

pub to_within : (columns : List Column) (to : ℕ) → is_wide_column columns to ≡ true → to < length columns
to_within columns to wide = wide_within columns (slice_get columns to) to refl wide

pub named_to : (row : Values) (columns from : List ℕ) (to : ℕ) (ksid : List ℕ) (width : ℕ) → to < width → at (entry_row row columns from to ksid width) to ≡ Bytes ksid
named_to row columns from to ksid width within = entry_at row columns from to ksid width to within ∙ at_to row columns from to ksid

-- ---- the `from` columns

not_to : (row : Values) (columns from : List ℕ) (to : ℕ) (ksid : List ℕ) (n : ℕ) → n ≢ to → entry_value row columns from to ksid n ≡ option_map_or (given_at row columns) (position (λ m. m == n) from) Null
not_to row columns from to ksid n other =
    ap (λ (b : Bool). cond b (Bytes ksid) (option_map_or (given_at row columns) (position (λ m. m == n) from) Null)) (ne_eqb n to other)

given_is : (row : Values) (columns : List ℕ) (k : ℕ) → k < length columns → given_at row columns k ≡ at row (get_or columns k 0)
given_is row columns k within = ap (λ (o : Option ℕ). option_map_or (at row) o Null) (slice_get-get_or columns k 0 within)

from_value : {row : Values} {owner table : Table} {columns from : List ℕ} {to : ℕ} {ksid : List ℕ} → Fitting row owner table columns from to ksid → (k : ℕ) → k < length from
    → entry_value row columns from to ksid (get_or from k 0) ≡ at row (get_or columns k 0)
from_value {row} {owner} {table} {columns} {from} {to} {ksid} f k within =
    let n = get_or from k 0 in
    let other : n ≢ to = λ is. f.off (k, slice_get-get_or from k 0 within ∙ ap Some is) in
    not_to row columns from to ksid n other
    ∙ ap (λ (o : Option ℕ). option_map_or (given_at row columns) o Null) (f.each k within)
    ∙ given_is row columns k (omega (arith, within, f.long))

from_within : {row : Values} {owner table : Table} {columns from : List ℕ} {to : ℕ} {ksid : List ℕ} → Fitting row owner table columns from to ksid → (k : ℕ) → k < length from → get_or from k 0 < length table.columns
from_within {row} {owner} {table} {columns} {from} f k within =
    let types = f.types k (get_or from k 0) (get_or columns k 0) (slice_get-get_or from k 0 within) (slice_get-get_or columns k 0 (omega (arith, within, f.long))) in
    slice_get_within table.columns (get_or from k 0) types.a types.is_a

-- the entry has the row's values in them
pub from_values : {row : Values} {owner table : Table} {columns from : List ℕ} {to : ℕ} {ksid : List ℕ} → Fitting row owner table columns from to ksid
    → map (at (entry_row row columns from to ksid (length table.columns))) from ≡ map (at row) columns
from_values {row} {owner} {table} {columns} {from} {to} {ksid} f =
    let entry = entry_row row columns from to ksid (length table.columns) in
    ext_get_or Null (map (at entry) from) (map (at row) columns) (length-map from (at entry) ∙ f.long ∙ sym (length-map columns (at row)))
    (λ k within.
    let below : k < length from = omega (arith, within, length-map from (at entry)) in
    get_or-map (at entry) from k 0 Null below
    ∙ entry_at row columns from to ksid (length table.columns) (get_or from k 0) (from_within f k below)
    ∙ from_value f k below
    ∙ sym (get_or-map (at row) columns k 0 Null (omega (arith, below, f.long))))

-- ---- each value is one that its column may hold

held_of_type : (ty : ColType) (nullable : Bool) (v : Value) → is_of_type ty v ≡ true → is_held ty nullable v ≡ true
held_of_type types.BigInt nullable Null typed = absurd (cc typed)
held_of_type types.BigUint nullable Null typed = absurd (cc typed)
held_of_type types.Int nullable Null typed = absurd (cc typed)
held_of_type types.Uint32 nullable Null typed = absurd (cc typed)
held_of_type (types.VarChar m) nullable Null typed = absurd (cc typed)
held_of_type (types.VarBinary m) nullable Null typed = absurd (cc typed)
held_of_type ty nullable (Int z) typed = typed
held_of_type ty nullable (Uint n) typed = typed
held_of_type ty nullable (Bytes s) typed = typed

pub type_of_held : (ty : ColType) (nullable : Bool) (v : Value) → is_null v ≡ false → is_held ty nullable v ≡ true → is_of_type ty v ≡ true
type_of_held ty nullable Null some held = absurd (cc some)
type_of_held ty nullable (Int z) some held = held
type_of_held ty nullable (Uint n) some held = held
type_of_held ty nullable (Bytes s) some held = held

wide_holds : (ty : ColType) (ksid : List ℕ) → is_wide ty ≡ true → length ksid ≤ 16 → is_of_type ty (Bytes ksid) ≡ true
wide_holds types.BigInt ksid wide short = absurd (cc wide)
wide_holds types.BigUint ksid wide short = absurd (cc wide)
wide_holds types.Int ksid wide short = absurd (cc wide)
wide_holds types.Uint32 ksid wide short = absurd (cc wide)
wide_holds (types.VarChar m) ksid wide short = absurd (cc wide)
wide_holds (types.VarBinary m) ksid wide short = le-leb (length ksid) m (omega (arith, leb-true 16 m wide, short))

whole_at : (row : Values) (columns : List ℕ) (k n : ℕ) → AreWhole row columns → slice_get columns k ≡ Some n → is_null (at row n) ≡ false
whole_at row [] k n whole is = absurd (cc is)
whole_at row (m ∷ columns) zero n whole is = ap (λ (x : ℕ). is_null (at row x)) (sym (same_Some m n is)) ∙ whole.0
whole_at row (m ∷ columns) (suc k) n whole is = whole_at row columns k n whole.1 is

-- the row's value in a column of the owner is of that column's type
pub given_typed : {row : Values} {owner table : Table} {columns from : List ℕ} {to : ℕ} {ksid : List ℕ} → Fitting row owner table columns from to ksid → (k m n : ℕ) → slice_get from k ≡ Some m → slice_get columns k ≡ Some n
    → (b : Column) × (slice_get owner.columns n ≡ Some b) × (is_of_type b.ty (at row n) ≡ true)
given_typed {row} {owner} {table} {columns} f k m n is_m is_n =
    let types = f.types k m n is_m is_n in
    let within : n < length row = omega (arith, slice_get_within owner.columns n types.b types.is_b, f.fits.whole) in
    (types.b, types.is_b, type_of_held types.b.ty types.b.nullable (at row n) (whole_at row columns k n f.whole is_n) (f.fits.held n types.b (at row n) types.is_b (slice_get-get_or row n Null within)))

found_at : (from : List ℕ) (n : ℕ) (o : Option ℕ) → position (λ m. m == n) from ≡ o → ((k : ℕ) × (o ≡ Some k) × (k < length from) × (get_or from k 0 ≡ n)) ⊎ (o ≡ None)
found_at from n None is = inr refl
found_at from n (Some k) is = let it = position-Some (λ (m : ℕ). m == n) from k 0 is in inl (k, refl, it.0, eqb-true (get_or from k 0) n it.1)

ne_when : (a b : ℕ) → (a == b) ≡ false → a ≢ b
ne_when a b apart is = absurd (cc (apart, eq-eqb a b is))

none_from : (b : Bool) (m : ℕ) → cond b (Some m) None ≡ None → b ≡ false
none_from true m none = absurd (cc none)
none_from false m none = refl

none_among : (from : List ℕ) (n : ℕ) → position (λ m. m == n) from ≡ None → IsIn from n → ⊥
none_among from n none among =
    let p : ℕ → Bool = λ m. m == n in
    let past = none_from (nat_lt (position_or_len p from) (length from)) (position_or_len p from) none in
    let below = slice_get_within from among.0 n among.1 in
    let fails = fails_before_first p from among.0 0 (omega (arith, below, ltb-false (position_or_len p from) (length from) past)) in
    absurd (cc (fails, eq-eqb (get_or from among.0 0) n (get_or_from_slice_get from among.0 n 0 among.1)))

besides_held : {row : Values} {owner table : Table} {columns from : List ℕ} {to : ℕ} {ksid : List ℕ} → Fitting row owner table columns from to ksid → (n : ℕ) (column : Column) → slice_get table.columns n ≡ Some column → n ≢ to
    → ((k : ℕ) × (position (λ m. m == n) from ≡ Some k) × (k < length from) × (get_or from k 0 ≡ n)) ⊎ (position (λ m. m == n) from ≡ None) → is_held column.ty column.nullable (entry_value row columns from to ksid n) ≡ true
besides_held {row} {owner} {table} {columns} {from} {to} {ksid} f n column is other (inl it) =
    let k = it.0 in
    let from_is : slice_get from k ≡ Some n = slice_get-get_or from k 0 it.2 ∙ ap Some it.3 in
    let below : k < length columns = omega (arith, it.2, f.long) in
    let types = f.types k n (get_or columns k 0) from_is (slice_get-get_or columns k 0 below) in
    let typed = given_typed f k n (get_or columns k 0) from_is (slice_get-get_or columns k 0 below) in
    let b_is : typed.0 ≡ types.b = same_Some typed.0 types.b (sym typed.1 ∙ types.is_b) in
    let a_is : types.a ≡ column = same_Some types.a column (sym types.is_a ∙ is) in
    let type_is : typed.0.ty ≡ column.ty = ap (λ (c : Column). c.ty) b_is ∙ sym types.same ∙ ap (λ (c : Column). c.ty) a_is in
    let value_is : entry_value row columns from to ksid n ≡ at row (get_or columns k 0) =
    ap (entry_value row columns from to ksid) (sym it.3) ∙ from_value f k it.2 in
    subst (λ (v : Value). is_held column.ty column.nullable v ≡ true) (sym value_is)
    (held_of_type column.ty column.nullable (at row (get_or columns k 0)) (subst (λ (ty : ColType). is_of_type ty (at row (get_or columns k 0)) ≡ true) type_is typed.2))
besides_held {row} {owner} {table} {columns} {from} {to} {ksid} f n column is other (inr none) =
    let value_is : entry_value row columns from to ksid n ≡ Null =
    not_to row columns from to ksid n other ∙ ap (λ (o : Option ℕ). option_map_or (given_at row columns) o Null) none in
    subst (λ (v : Value). is_held column.ty column.nullable v ≡ true) (sym value_is) (f.besides n column is (λ among. none_among from n none among) other)

value_held : {row : Values} {owner table : Table} {columns from : List ℕ} {to : ℕ} {ksid : List ℕ} → Fitting row owner table columns from to ksid → (n : ℕ) (column : Column) (b : Bool) → slice_get table.columns n ≡ Some column → (n == to) ≡ b
    → is_held column.ty column.nullable (entry_value row columns from to ksid n) ≡ true
value_held {row} {owner} {table} {columns} {from} {to} {ksid} f n column true is same =
    let n_is = eqb-true n to same in
    let wide : is_wide column.ty ≡ true = ap (λ (o : Option Column). option_map_or (λ (c : Column). is_wide c.ty) o false) (sym is ∙ ap (slice_get table.columns) n_is) ∙ f.wide in
    subst (λ (v : Value). is_held column.ty column.nullable v ≡ true) (sym (ap (entry_value row columns from to ksid) n_is ∙ at_to row columns from to ksid))
    (held_of_type column.ty column.nullable (Bytes ksid) (wide_holds column.ty ksid wide f.short))
value_held {row} {owner} {table} {columns} {from} {to} {ksid} f n column false is apart =
    besides_held f n column is (ne_when n to apart) (found_at from n (position (λ m. m == n) from) refl)

pub entry_fits : {row : Values} {owner table : Table} {columns from : List ℕ} {to : ℕ} {ksid : List ℕ} → Fitting row owner table columns from to ksid → IsRowOf table (entry_row row columns from to ksid (length table.columns))
entry_fits {row} {owner} {table} {columns} {from} {to} {ksid} f =
    let entry = entry_row row columns from to ksid (length table.columns) in
    record {
      whole = length-map-range_with_len (entry_value row columns from to ksid) 0 (length table.columns);
      held = λ n column value is value_is.
          let within = slice_get_within table.columns n column is in
          let value_at : entry_value row columns from to ksid n ≡ value = sym (entry_at row columns from to ksid (length table.columns) n within) ∙ get_or_from_slice_get entry n value Null value_is in
          subst (λ (v : Value). is_held column.ty column.nullable v ≡ true) value_at (value_held f n column (n == to) is refl);
    }

-- ---- the loop that looks at each place

last_or_before : (n i : ℕ) → n < i + 1 → (n ≡ i) ⊎ (n < i)
last_or_before n i below = grind (arith, below)

each_at : (from : List ℕ) (i k : ℕ) → (k ≡ i) ⊎ (k < i) → position (λ m. m == get_or from i 0) from ≡ Some i
    → ((j : ℕ) → j < i → position (λ m. m == get_or from j 0) from ≡ Some j) → position (λ m. m == get_or from k 0) from ≡ Some k
each_at from i k (inr earlier) here before = before k earlier
each_at from i k (inl last) here before = subst (λ (x : ℕ). position (λ m. m == get_or from x 0) from ≡ Some x) (sym last) here

pub each_more : (from : List ℕ) (i : ℕ) → position (λ m. m == get_or from i 0) from ≡ Some i
    → ((k : ℕ) → k < i → position (λ m. m == get_or from k 0) from ≡ Some k) → (k : ℕ) → k < i + 1 → position (λ m. m == get_or from k 0) from ≡ Some k
each_more from i here before k below = each_at from i k (last_or_before k i below) here before

pub at_found : (from : List ℕ) (k n : ℕ) → slice_get from k ≡ Some n → position (λ m. m == n) from ≡ Some k → position (λ m. m == get_or from k 0) from ≡ Some k
at_found from k n is found = subst (λ (x : ℕ). position (λ m. m == x) from ≡ Some k) (sym (get_or_from_slice_get from k n 0 is)) found
