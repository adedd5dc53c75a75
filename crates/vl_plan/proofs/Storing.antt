-- What is stored in a row, column by column, and that the row has a place.
use Rattle.std.proofs.Common.{◌≡◌, ℕ, suc, zero, ◌+◌, ◌<◌, ◌⊎◌, inl, inr, Bool, true, false, eqb, ℤ, pos, negsuc, List, [], ◌∷◌, ◌++◌, length, get_or, Option, Some, None, Result, Ok, Err, map, refl, sym, ap, ◌∙◌, subst, arith, rules, eq-eqb}
use Rattle.std.specs.Prelude.{◌&&◌, ◌||◌, ◌==◌, if◌then◌else◌, not, slice_get, slice_index_or}
use Rattle.std.specs.List.{list_any}
use Rattle.std.specs.Option.{option_map, option_map_or}
use Rattle.std.proofs.lemmas.Option.{get_or_from_slice_get, none-some, same_Some}
use Rattle.vl_values.specs.declared.cause.Cause.{Cause}
use Rattle.vl_values.specs.declared.cause.Cause.TheVariants as causes
use Rattle.vl_values.specs.declared.fit_fault.FitFault.{FitFault}
use Rattle.vl_values.specs.declared.col_type.ColType.{ColType}
use Rattle.vl_values.specs.declared.value.Value.{Value}
use Rattle.vl_values.specs.declared.value.Value.TheVariants.{Null, Int, Uint, Bytes}
use Rattle.vl_values.specs.Fit.{fitted, is_held}
use Rattle.vl_values.specs.Value.{is_null}
use Rattle.vl_values.proofs.Fitting.{fitted_is_held}
use Rattle.vl_catalog.specs.declared.catalog.Catalog.{Catalog}
use Rattle.vl_catalog.specs.declared.column.Column.{Column}
use Rattle.vl_catalog.specs.declared.table.Table.{Table}
use Rattle.vl_catalog.specs.Build.{Names}
use Rattle.vl_model.specs.Columns.{is_negative, is_numbered, misfit, needs_value, row_stored, stored, taken, value_named}
use Rattle.vl_model.specs.Refusals.{faults}
use Rattle.vl_plan.specs.Planned.{values_of}

pub empty_parts : {X : Type 0} (xs ys : List X) → xs ++ ys ≡ [] → (xs ≡ []) × (ys ≡ [])
empty_parts [] ys e = (refl, e)
empty_parts (x ∷ xs) ys e = cc

-- ---- a value that is taken

chosen : (b : Bool) (c : Cause) (w v : Value) → (let r : Result Value Cause = if b then Err c else Ok w in r) ≡ Ok v → (b ≡ false) × (w ≡ v)
chosen true c w v e = cc
chosen false c w v e = (refl, cc)

pub record IsTaken (needs numbered : Bool) (fit : Result Value FitFault) (v : Value) : Type 0 where
  pub fits : fit ≡ Ok v
  pub value : needs ≡ true → is_null v ≡ false
  pub number : numbered ≡ true → is_negative v ≡ false

not_both : (a b : Bool) → (a && b) ≡ false → a ≡ true → b ≡ false
not_both true b e f = e
not_both false b e f = cc

of_null : (needs numbered : Bool) (column : Column) (v : Value) → taken needs numbered column (Ok Null) ≡ Ok v → IsTaken needs numbered (Ok Null) v
of_null needs numbered column v e =
    let parts = chosen needs (causes.NotNull column.name) Null v e in
    subst (λ (w : Value). IsTaken needs numbered (Ok Null) w) parts.1
    (record { fits = refl; value = λ (f : needs ≡ true). (let no : needs ≡ false = parts.0 in cc); number = λ (f : numbered ≡ true). refl })

of_value : (needs numbered : Bool) (c : Cause) (w v : Value) → is_null w ≡ false → (let r : Result Value Cause = if numbered && is_negative w then Err c else Ok w in r) ≡ Ok v → IsTaken needs numbered (Ok w) v
of_value needs numbered c w v some e =
    let parts = chosen (numbered && is_negative w) c w v e in
    subst (λ (u : Value). IsTaken needs numbered (Ok w) u) parts.1
    (record { fits = refl; value = λ (f : needs ≡ true). some; number = λ (f : numbered ≡ true). not_both numbered (is_negative w) parts.0 f })

pub taken_parts : (needs numbered : Bool) (column : Column) (fit : Result Value FitFault) (v : Value) → taken needs numbered column fit ≡ Ok v → IsTaken needs numbered fit v
taken_parts needs numbered column (Err fault) v e = cc
taken_parts needs numbered column (Ok Null) v e = of_null needs numbered column v e
taken_parts needs numbered column (Ok (Int z)) v e = of_value needs numbered (causes.OutOfRange column.name) (Int z) v refl e
taken_parts needs numbered column (Ok (Uint n)) v e = of_value needs numbered (causes.OutOfRange column.name) (Uint n) v refl e
taken_parts needs numbered column (Ok (Bytes s)) v e = of_value needs numbered (causes.OutOfRange column.name) (Bytes s) v refl e

pub stored_held : (catalog : Catalog) (table : Table) (n : ℕ) (column : Column) (given v : Value) → stored catalog table n column given ≡ Ok v → is_held column.ty column.nullable v ≡ true
stored_held catalog table n column given v e =
    fitted_is_held column.ty column.nullable given v (taken_parts (needs_value catalog table n) (is_numbered catalog table n) column (fitted given column.ty column.nullable) v e).fits

-- ---- a row

pub passed_one : (r : Result Value Cause) (rest : List (Result Value Cause)) → faults (r ∷ rest) ≡ [] → (v : Value) × (r ≡ Ok v) × (faults rest ≡ [])
passed_one (Ok v) rest e = (v, refl, e)
passed_one (Err c) rest e = cc

-- the column of number k, from number n on, has a value that is stored there
abbrev pub IsStoredAt : Catalog → Table → Names → List Value → ℕ → List Column → List Value → Type 0
IsStoredAt catalog table names row n columns values =
    (k m : ℕ) (column : Column) → m ≡ n + k → slice_get columns k ≡ Some column
    → (v : Value) × (slice_get values k ≡ Some v) × (stored catalog table m column (value_named names row column.name) ≡ Ok v)

first_stored : (catalog : Catalog) (table : Table) (names : Names) (row : List Value) (n m : ℕ) (column other : Column) (v : Value) (values : List Value) → m ≡ n → column ≡ other
    → stored catalog table n column (value_named names row column.name) ≡ Ok v
    → (w : Value) × (slice_get (v ∷ values) 0 ≡ Some w) × (stored catalog table m other (value_named names row other.name) ≡ Ok w)
first_stored catalog table names row n m column other v values at same e =
    (v, refl, subst (λ (it : Column). stored catalog table m it (value_named names row it.name) ≡ Ok v) same (subst (λ (k : ℕ). stored catalog table k column (value_named names row column.name) ≡ Ok v) (sym at) e))

stored_by_cons : (catalog : Catalog) (table : Table) (names : Names) (row : List Value) (n : ℕ) (column : Column) (columns : List Column) (v : Value) (values : List Value)
    → stored catalog table n column (value_named names row column.name) ≡ Ok v → IsStoredAt catalog table names row (n + 1) columns values
    → IsStoredAt catalog table names row n (column ∷ columns) (v ∷ values)
stored_by_cons catalog table names row n column columns v values e rest zero m other at same =
    first_stored catalog table names row n m column other v values (omega arith) (same_Some column other same) e
stored_by_cons catalog table names row n column columns v values e rest (suc k) m other at same = rest k m other (omega arith) same

pub record IsStoredRow (catalog : Catalog) (table : Table) (names : Names) (row : List Value) (n : ℕ) (columns : List Column) (values : List Value) : Type 0 where
  pub whole : length values ≡ length columns
  pub each : IsStoredAt catalog table names row n columns values

row_by_cons : (catalog : Catalog) (table : Table) (names : Names) (row : List Value) (n : ℕ) (column : Column) (columns : List Column) (v : Value) (values : List Value)
    → stored catalog table n column (value_named names row column.name) ≡ Ok v → IsStoredRow catalog table names row (n + 1) columns values
    → IsStoredRow catalog table names row n (column ∷ columns) (v ∷ values)
row_by_cons catalog table names row n column columns v values e rest =
    record { whole = ap suc rest.whole; each = stored_by_cons catalog table names row n column columns v values e rest.each }

pub row_is_stored : (catalog : Catalog) (table : Table) (names : Names) (row : List Value) (n : ℕ) (columns : List Column)
    → faults (row_stored catalog table names row n columns) ≡ [] → IsStoredRow catalog table names row n columns (values_of (row_stored catalog table names row n columns))
row_is_stored catalog table names row n [] e = record { whole = refl; each = λ k m column at same. absurd (none-some column same) }
row_is_stored catalog table names row n (column ∷ columns) e =
    let parts = passed_one (stored catalog table n column (value_named names row column.name)) (row_stored catalog table names row (n + 1) columns) e in
    let rest = row_is_stored catalog table names row (n + 1) columns parts.2 in
    subst (λ (r : Result Value Cause). IsStoredRow catalog table names row n (column ∷ columns) (values_of (r ∷ row_stored catalog table names row (n + 1) columns))) (sym parts.1)
    (row_by_cons catalog table names row n column columns parts.0 (values_of (row_stored catalog table names row (n + 1) columns)) parts.1 rest)
