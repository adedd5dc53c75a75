-- The table's columns, for the rows of INSERT.
use Rattle.std.proofs.Common.{◌≡◌, ℕ, ◌+◌, ◌<◌, ◌≤◌, Bool, List, [], ◌∷◌, ◌++◌, length, get_or, drop, Option, Result, map, refl, sym, ap, ◌∙◌, append_assoc, arith}
use Rattle.std.specs.Prelude.{option_and_then, position, slice_get, unwrap_or}
use Rattle.std.specs.List.{flat_map}
use Rattle.std.specs.Str.{bytes_eq}
use Rattle.std.proofs.Math.Seq.{drop-length}
use Rattle.std.proofs.lemmas.List.{append-nil, map-append}
use Rattle.vl_values.specs.declared.cause.Cause.{Cause}
use Rattle.vl_values.specs.declared.value.Value.{Value}
use Rattle.vl_values.specs.declared.value.Value.TheVariants.{Null}
use Rattle.vl_values.specs.Fit.{fitted}
use Rattle.vl_catalog.specs.declared.catalog.Catalog.{Catalog}
use Rattle.vl_catalog.specs.declared.column.Column.{Column}
use Rattle.vl_catalog.specs.declared.table.Table.{Table}
use Rattle.vl_catalog.specs.Build.{Names}
use Rattle.vl_model.specs.Columns.{is_numbered, needs_value, row_stored, taken}
use Rattle.vl_plan.specs.declared.target.Target.{Target}
use Rattle.vl_plan.specs.Targets.{stored_by}
use Rattle.vl_plan.proofs.Firsts.{rest_at}

pub target_is : (catalog : Catalog) (table : Table) (names : Names) (row : List Value) (n : ℕ) (column : Column) (needs numbered : Bool) (p : Option ℕ)
    → needs ≡ needs_value catalog table n → numbered ≡ is_numbered catalog table n → p ≡ position (λ (m : List ℕ). bytes_eq m column.name) names
    → taken needs numbered column (fitted (unwrap_or (option_and_then (slice_get row) p) Null) column.ty column.nullable) ∷ [] ≡ row_stored catalog table names row n (column ∷ [])
target_is catalog table names row n column needs numbered p e f g =
    λ i. taken (e i) (f i) column (fitted (unwrap_or (option_and_then (slice_get row) (g i)) Null) column.ty column.nullable) ∷ []

pub targets_more : (catalog : Catalog) (table : Table) (names : Names) (row : List Value) (columns : List Column) (i : ℕ) (column : Column) (ts after : List Target) (t : Target)
    → i < length columns → column ≡ get_or columns i column
    → map (stored_by row) ts ++ row_stored catalog table names row i (drop i columns) ≡ row_stored catalog table names row 0 columns
    → stored_by row t ∷ [] ≡ row_stored catalog table names row i (column ∷ [])
    → after ≡ ts ++ t ∷ []
    → map (stored_by row) after ++ row_stored catalog table names row (i + 1) (drop (i + 1) columns) ≡ row_stored catalog table names row 0 columns
targets_more catalog table names row columns i column ts after t lt at so_far one pushed =
    let rest : List (Result Value Cause) = row_stored catalog table names row (i + 1) (drop (i + 1) columns) in
    ap (λ (zs : List Target). map (stored_by row) zs ++ rest) pushed
    ∙ ap (λ (zs : List (Result Value Cause)). zs ++ rest) (map-append (stored_by row) ts (t ∷ []))
    ∙ append_assoc (map (stored_by row) ts) (stored_by row t ∷ []) rest
    ∙ ap (λ (zs : List (Result Value Cause)). map (stored_by row) ts ++ (zs ++ rest)) one
    ∙ ap (λ (zs : List Column). map (stored_by row) ts ++ row_stored catalog table names row i zs) (sym (rest_at columns i column lt at))
    ∙ so_far

pub targets_all : (catalog : Catalog) (table : Table) (names : Names) (row : List Value) (columns : List Column) (i : ℕ) (ts : List Target)
    → columns ≡ table.columns → i ≡ length columns
    → map (stored_by row) ts ++ row_stored catalog table names row i (drop i columns) ≡ row_stored catalog table names row 0 columns
    → map (stored_by row) ts ≡ row_stored catalog table names row 0 table.columns
targets_all catalog table names row columns i ts same ends all =
    sym (append-nil (map (stored_by row) ts))
    ∙ ap (λ (zs : List Column). map (stored_by row) ts ++ row_stored catalog table names row i zs) (sym (ap (λ (n : ℕ). drop n columns) ends ∙ drop-length columns))
    ∙ all
    ∙ ap (row_stored catalog table names row 0) same

-- the same of all rows
pub same_rows : (ts : List Target) (slice : List Target) (stored : List Value → List (Result Value Cause)) (rows : List (List Value)) (h : List (Result Value Cause) → List Cause) → slice ≡ ts
    → ((row : List Value) → map (stored_by row) ts ≡ stored row)
    → flat_map (λ (row : List Value). h (map (stored_by row) slice)) rows ≡ flat_map (λ (row : List Value). h (stored row)) rows
same_rows ts slice stored rows h same each =
    λ i. flat_map (λ (row : List Value). h ((ap (map (stored_by row)) same ∙ each row) i)) rows

pub same_values : {X : Type 0} (ts : List Target) (slice : List Target) (stored : List Value → List (Result Value Cause)) (rows : List (List Value)) (h : List (Result Value Cause) → X) → slice ≡ ts
    → ((row : List Value) → map (stored_by row) ts ≡ stored row)
    → map (λ (row : List Value). h (map (stored_by row) slice)) rows ≡ map (λ (row : List Value). h (stored row)) rows
same_values ts slice stored rows h same each =
    λ i. map (λ (row : List Value). h ((ap (map (stored_by row)) same ∙ each row) i)) rows
