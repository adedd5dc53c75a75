-- Each row of INSERT is one of the table, and has a place.
use Rattle.std.proofs.Common.{◌≡◌, ℕ, ◌+◌, ◌<◌, ◌⊎◌, inl, inr, Bool, true, false, eqb, ℤ, pos, negsuc, List, [], ◌∷◌, ◌++◌, length, Option, Some, None, Result, Ok, Err, map, refl, sym, ap, ◌∙◌, subst, arith, eq-eqb}
use Rattle.std.specs.Prelude.{◌&&◌, ◌||◌, ◌==◌, Contains, not, option_and_then, slice_get, slice_index_or}
use Rattle.std.specs.List.{flat_map, list_any}
use Rattle.std.specs.Option.{option_map, option_map_or}
use Rattle.std.proofs.lemmas.Option.{get_or_from_slice_get, none-some, same_Some}
use Rattle.vl_values.specs.declared.cause.Cause.{Cause}
use Rattle.vl_values.specs.declared.col_type.ColType.{ColType}
use Rattle.vl_values.specs.declared.col_type.ColType.TheVariants as types
use Rattle.vl_values.specs.declared.value.Value.{Value}
use Rattle.vl_values.specs.declared.value.Value.TheVariants.{Null, Int, Uint, Bytes}
use Rattle.vl_values.specs.Fit.{fitted, is_held}
use Rattle.vl_values.specs.Value.{is_null}
use Rattle.vl_catalog.specs.declared.catalog.Catalog.{Catalog}
use Rattle.vl_catalog.specs.declared.column.Column.{Column}
use Rattle.vl_catalog.specs.declared.lookup.Lookup.{Lookup}
use Rattle.vl_catalog.specs.declared.primary.Primary.{Primary}
use Rattle.vl_catalog.specs.declared.table.Table.{Table}
use Rattle.vl_catalog.specs.declared.vindex.Vindex.{Vindex}
use Rattle.vl_catalog.specs.declared.vindex.Vindex.TheVariants.{Numeric, BinaryMd5}
use Rattle.vl_catalog.specs.Build.{Names, table_at}
use Rattle.vl_catalog.specs.Place.{place, place_by, place_in, shard_in}
use Rattle.vl_catalog.specs.Vindex.{ksid_of_value}
use Rattle.vl_model.specs.Columns.{is_mapped_by, is_negative, is_numbered, is_numeric, lookups_on, needs_value, row_stored, value_named}
use Rattle.vl_model.specs.Refusals.{faults}
use Rattle.vl_rules.specs.ColumnVindexes.{is_sharded}
use Rattle.vl_rules.specs.Kept.{HasPrimary, IsKeptTable}
use Rattle.vl_rules.specs.Tables as rules
use Rattle.vl_rules.proofs.Lists.{among_is_in}
use Rattle.vl_rules.proofs.Passed.{at_number, not_false}
use Rattle.vl_catalog.specs.Fitting.{IsRowOf}
use Rattle.vl_plan.specs.Planned.{values_of}
use Rattle.vl_plan.proofs.Sorting.{no_member, split_member}
use Rattle.vl_plan.proofs.Storing.{IsStoredRow, IsTaken, empty_parts, row_is_stored, stored_held, taken_parts}

-- ---- a row of the table

pub row_fits : (catalog : Catalog) (table : Table) (names : Names) (row values : List Value) → IsStoredRow catalog table names row 0 table.columns values → IsRowOf table values
row_fits catalog table names row values is = record {
  whole = is.whole;
  held = λ n column value at here.
      let it = is.each n n column (omega arith) at in
      subst (λ (v : Value). is_held column.ty column.nullable v ≡ true) (same_Some it.0 value (sym it.1 ∙ here))
      (stored_held catalog table n column (value_named names row column.name) it.0 it.2);
}

-- ---- its place

md5_exists : (v : Value) → is_null v ≡ false → (ksid : List ℕ) × (ksid_of_value BinaryMd5 v ≡ Some ksid)
md5_exists Null some = cc
md5_exists (Int n) some = (_, refl)
md5_exists (Uint n) some = (_, refl)
md5_exists (Bytes s) some = (_, refl)

no_bytes : (ty : ColType) (nullable : Bool) (s : List ℕ) → rules.is_number_type ty ≡ true → is_held ty nullable (Bytes s) ≡ true → ⊥
no_bytes types.BigInt nullable s number held = cc
no_bytes types.BigUint nullable s number held = cc
no_bytes types.Int nullable s number held = cc
no_bytes types.Uint32 nullable s number held = cc
no_bytes (types.VarChar n) nullable s number held = cc
no_bytes (types.VarBinary n) nullable s number held = cc

numeric_exists : (ty : ColType) (nullable : Bool) (v : Value) → is_null v ≡ false → is_negative v ≡ false → rules.is_number_type ty ≡ true → is_held ty nullable v ≡ true
    → (ksid : List ℕ) × (ksid_of_value Numeric v ≡ Some ksid)
numeric_exists ty nullable Null some least number held = cc
numeric_exists ty nullable (Int (pos n)) some least number held = (_, refl)
numeric_exists ty nullable (Int (negsuc n)) some least number held = cc
numeric_exists ty nullable (Uint n) some least number held = (_, refl)
numeric_exists ty nullable (Bytes s) some least number held = absurd (no_bytes ty nullable s number held)

pub ksid_exists : (vindex : Vindex) (ty : ColType) (nullable : Bool) (v : Value) → is_null v ≡ false → (is_numeric vindex ≡ true → is_negative v ≡ false)
    → (is_numeric vindex ≡ true → rules.is_number_type ty ≡ true) → is_held ty nullable v ≡ true → (ksid : List ℕ) × (ksid_of_value vindex v ≡ Some ksid)
ksid_exists Numeric ty nullable v some least number held = numeric_exists ty nullable v some (least refl) (number refl) held
ksid_exists BinaryMd5 ty nullable v some least number held = md5_exists v some

or_true : (a b : Bool) → a ≡ true → (a || b) ≡ true
or_true true b e = refl
or_true false b e = cc

pub and_true : (a b : Bool) → a ≡ true → b ≡ true → (a && b) ≡ true
and_true true b e f = f
and_true false b e f = cc

numbered_column : (catalog : Catalog) (table : Table) (primary : Primary) → table.primary ≡ Some primary → is_numeric primary.vindex ≡ true → is_numbered catalog table primary.column ≡ true
numbered_column catalog table primary has numeric =
    or_true (option_map_or (λ (p : Primary). (p.column == primary.column) && is_numeric p.vindex) table.primary false)
    (list_any (λ (lookup : Lookup). is_mapped_by (table_at catalog.tables lookup.table)) (lookups_on catalog table primary.column))
    (ap (λ (o : Option Primary). option_map_or (λ (p : Primary). (p.column == primary.column) && is_numeric p.vindex) o false) has
    ∙ and_true (primary.column == primary.column) (is_numeric primary.vindex) (eq-eqb primary.column primary.column refl) numeric)

key_needs_value : (catalog : Catalog) (table : Table) (primary : Primary) → list_any (λ (k : ℕ). k == primary.column) table.pk ≡ true → needs_value catalog table primary.column ≡ true
key_needs_value catalog table primary in_key = or_true (list_any (λ (k : ℕ). k == primary.column) table.pk) _ in_key

number_by : (vindex : Vindex) (o : Option Column) (column : Column) → o ≡ Some column → (rules.is_numeric vindex && not (option_map_or (λ (c : Column). rules.is_number_type c.ty) o false)) ≡ false
    → is_numeric vindex ≡ true → rules.is_number_type column.ty ≡ true
number_by BinaryMd5 o column at fits numeric = cc
number_by Numeric o column at fits numeric =
    let it : not (rules.is_number_type column.ty) ≡ false = subst (λ (p : Option Column). not (option_map_or (λ (c : Column). rules.is_number_type c.ty) p false) ≡ false) at fits in
    not_false (rules.is_number_type column.ty) it

pub number_column : (table : Table) (primary : Primary) (column : Column) → table.primary ≡ Some primary → rules.has_numeric_text table ≡ false → slice_get table.columns primary.column ≡ Some column
    → is_numeric primary.vindex ≡ true → rules.is_number_type column.ty ≡ true
number_column table primary column has fits at numeric =
    number_by primary.vindex (slice_get table.columns primary.column) column at
    (subst (λ (o : Option Primary). option_map_or (λ (p : Primary). rules.is_numeric p.vindex && not (rules.is_number_column table.columns p.column)) o false ≡ false) has fits) numeric

place_primary : (catalog : Catalog) (table : Table) (names : Names) (row values : List Value) → HasPrimary table → IsStoredRow catalog table names row 0 table.columns values
    → (shard : ℕ) × (place_by catalog.rings table.keyspace table.primary values ≡ Some shard)
place_primary catalog table names row values kept is =
    let primary = kept.primary in
    let column = at_number table.columns primary.column kept.within in
    let it = is.each primary.column primary.column column.0 (omega arith) column.1 in
    let parts = taken_parts (needs_value catalog table primary.column) (is_numbered catalog table primary.column) column.0 (fitted (value_named names row column.0.name) column.0.ty column.0.nullable) it.0 it.2 in
    let some = parts.value (key_needs_value catalog table primary (among_is_in table.pk primary.column kept.in_key)) in
    let ksid =
    ksid_exists primary.vindex column.0.ty column.0.nullable it.0 some (λ numeric. parts.number (numbered_column catalog table primary kept.has numeric))
    (λ numeric. number_column table primary column.0 kept.has kept.fits column.1 numeric) (stored_held catalog table primary.column column.0 (value_named names row column.0.name) it.0 it.2) in
    let read : slice_index_or values primary.column Null ≡ it.0 = get_or_from_slice_get values primary.column it.0 Null it.1 in (
      shard_in catalog.rings table.keyspace ksid.0,
      ap (λ (o : Option Primary). place_by catalog.rings table.keyspace o values) kept.has
          ∙ ap (λ (v : Value). option_map (shard_in catalog.rings table.keyspace) (ksid_of_value primary.vindex v)) read
          ∙ ap (option_map (shard_in catalog.rings table.keyspace)) ksid.1,
    )

place_by_kind : (catalog : Catalog) (t : ℕ) (table : Table) (names : Names) (row values : List Value) (b : Bool) → is_sharded catalog table ≡ b → IsKeptTable catalog t table
    → IsStoredRow catalog table names row 0 table.columns values → (shard : ℕ) × (place_by catalog.rings table.keyspace table.primary values ≡ Some shard)
place_by_kind catalog t table names row values true kind kept is = place_primary catalog table names row values (kept.sharded kind) is
place_by_kind catalog t table names row values false kind kept is =
    (_, ap (λ (o : Option Primary). place_by catalog.rings table.keyspace o values) (kept.unsharded kind).primary)

pub row_placed : (catalog : Catalog) (t : ℕ) (table : Table) (names : Names) (row values : List Value) → slice_get catalog.tables t ≡ Some table → IsKeptTable catalog t table
    → IsStoredRow catalog table names row 0 table.columns values → (shard : ℕ) × (place catalog t values ≡ Some shard)
row_placed catalog t table names row values at kept is =
    let found = place_by_kind catalog t table names row values (is_sharded catalog table) refl kept is in
    (found.0, ap (option_and_then (λ (it : Table). place_in catalog it values)) at ∙ found.1)

-- ---- all rows

pub record IsStoredFor (catalog : Catalog) (table : Table) (names : Names) (values : List Value) : Type 0 where
  pub row : List Value
  pub is : IsStoredRow catalog table names row 0 table.columns values

rows_step : (catalog : Catalog) (table : Table) (names : Names) (first it : List Value) (rest : List (List Value)) → IsStoredFor catalog table names first
    → ((other : List Value) → Contains rest other → IsStoredFor catalog table names other) → (first ≡ it) ⊎ Contains rest it → IsStoredFor catalog table names it
rows_step catalog table names first it rest is others (inl same) = subst (λ (values : List Value). IsStoredFor catalog table names values) same is
rows_step catalog table names first it rest is others (inr h) = others it h

pub rows_stored : (catalog : Catalog) (table : Table) (names : Names) (rows : List (List Value)) → flat_map (λ (row : List Value). faults (row_stored catalog table names row 0 table.columns)) rows ≡ []
    → (it : List Value) → Contains (map (λ (row : List Value). values_of (row_stored catalog table names row 0 table.columns)) rows) it → IsStoredFor catalog table names it
rows_stored catalog table names [] none it h = absurd (no_member it h)
rows_stored catalog table names (row ∷ rows) none it h =
    let parts = empty_parts (faults (row_stored catalog table names row 0 table.columns)) (flat_map (λ (other : List Value). faults (row_stored catalog table names other 0 table.columns)) rows) none in
    rows_step catalog table names (values_of (row_stored catalog table names row 0 table.columns)) it (map (λ (other : List Value). values_of (row_stored catalog table names other 0 table.columns)) rows)
    (record { row = row; is = row_is_stored catalog table names row 0 table.columns parts.0 }) (rows_stored catalog table names rows parts.1)
    (split_member (values_of (row_stored catalog table names row 0 table.columns)) (map (λ (other : List Value). values_of (row_stored catalog table names other 0 table.columns)) rows) it h)
