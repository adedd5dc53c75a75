-- A value that is stored in a lookup's column has a place for its entries.
use Rattle.std.proofs.Common.{◌≡◌, ℕ, zero, suc, ◌<◌, Bool, true, false, List, [], ◌∷◌, length, Option, Some, Ok, refl, sym, ap, ◌∙◌, subst, arith}
use Rattle.std.specs.Prelude.{◌&&◌, ◌||◌, ◌==◌, Contains, option_and_then, slice_get, slice_index_or}
use Rattle.std.specs.List.{list_any}
use Rattle.std.specs.Option.{option_map, option_map_or}
use Rattle.std.proofs.lemmas.Option.{get_or_from_slice_get, same_Some, slice_get-get_or}
use Rattle.vl_values.specs.declared.value.Value.{Value}
use Rattle.vl_values.specs.declared.value.Value.TheVariants.{Null}
use Rattle.vl_values.specs.Fit.{fitted}
use Rattle.vl_values.specs.Value.{is_null}
use Rattle.vl_catalog.specs.declared.catalog.Catalog.{Catalog}
use Rattle.vl_catalog.specs.declared.column.Column.{Column}
use Rattle.vl_catalog.specs.declared.lookup.Lookup.{Lookup}
use Rattle.vl_catalog.specs.declared.primary.Primary.{Primary}
use Rattle.vl_catalog.specs.declared.table.Table.{Table}
use Rattle.vl_catalog.specs.Build.{Names, table_at}
use Rattle.vl_catalog.specs.Place.{place_of_value, shard_in, value_place_by}
use Rattle.vl_catalog.specs.Vindex.{ksid_of_value}
use Rattle.vl_model.specs.Columns.{is_mapped_by, is_numbered, is_numeric, is_on, lookups_on, needs_value, stored, value_named}
use Rattle.vl_rules.specs.ColumnVindexes.{is_sharded}
use Rattle.vl_rules.specs.Kept.{IsKeptLookup, IsKeptTable}
use Rattle.vl_rules.specs.Order.{Checked}
use Rattle.vl_rules.specs.Tables as rules
use Rattle.vl_rules.proofs.LookupsKept.{lookup_kept}
use Rattle.vl_rules.proofs.Passed.{at_number, none_passes, that_number_is}
use Rattle.vl_rules.proofs.TablesKept.{table_kept}
use Rattle.vl_plan.specs.Fits.{HasEntryPlace}
use Rattle.vl_plan.proofs.Asking.{numbered_is}
use Rattle.vl_plan.proofs.Placing.{and_true, ksid_exists, number_column}
use Rattle.vl_plan.proofs.Storing.{IsStoredRow, stored_held, taken_parts}

-- ---- a column whose entries `numeric` maps takes no negative number

or_right : (a b : Bool) → b ≡ true → (a || b) ≡ true
or_right true b e = refl
or_right false b e = e

passes_unless : (b : Bool) → (b ≡ false → ⊥) → b ≡ true
passes_unless true never = refl
passes_unless false never = absurd (never refl)

any_passes : (test : ℕ → Bool) (numbers : List ℕ) (n : ℕ) → Contains numbers n → test n ≡ true → list_any test numbers ≡ true
any_passes test numbers n among holds =
    let at : slice_get numbers among.0 ≡ Some n = slice_get-get_or numbers among.0 n among.1 ∙ ap (λ (m : ℕ). Some m) among.2 in
    passes_unless (list_any test numbers) (λ none. (let fails : test n ≡ false = none_passes test numbers among.0 n none at in cc (fails, holds)))

numbered_by_lookup : (catalog : Catalog) (table entries : Table) (l n number : ℕ) (lookup : Lookup) (primary : Primary) → Contains table.lookups l
    → slice_get catalog.lookups l ≡ Some lookup → lookup.column ≡ Some n → lookup.table ≡ Some number → slice_get catalog.tables number ≡ Some entries
    → entries.primary ≡ Some primary → is_numeric primary.vindex ≡ true → is_numbered catalog table n ≡ true
numbered_by_lookup catalog table entries l n number lookup primary listed found on by at has numeric =
    let on_column : is_on n lookup ≡ true = that_number_is n lookup.column on in
    let maps : is_mapped_by (table_at catalog.tables lookup.table) ≡ true =
    ap (λ (o : Option ℕ). is_mapped_by (table_at catalog.tables o)) by ∙ ap is_mapped_by at ∙ ap (λ (o : Option Primary). option_map_or (λ (p : Primary). is_numeric p.vindex) o false) has ∙ numeric in
    let test : ℕ → Bool = λ k. option_map_or (λ (it : Lookup). is_on n it && is_mapped_by (table_at catalog.tables it.table)) (slice_get catalog.lookups k) false in
    let here : test l ≡ true =
    ap (λ (o : Option Lookup). option_map_or (λ (it : Lookup). is_on n it && is_mapped_by (table_at catalog.tables it.table)) o false) found
    ∙ and_true (is_on n lookup) (is_mapped_by (table_at catalog.tables lookup.table)) on_column maps in
    or_right (option_map_or (λ (p : Primary). (p.column == n) && is_numeric p.vindex) table.primary false)
    (list_any (λ (it : Lookup). is_mapped_by (table_at catalog.tables it.table)) (lookups_on catalog table n))
    (sym (numbered_is catalog table n table.lookups refl) ∙ any_passes test table.lookups l listed here)

-- ---- the entries' table: its primary vindex maps a column of the same type

-- the lookup's first `from` column has the type of the column that it holds
record IsFirstFrom (entries : Table) (n : ℕ) (column : Column) : Type 0 where
  it : Column
  is : slice_get entries.columns n ≡ Some it
  same : it.ty ≡ column.ty

first_from : (catalog : Catalog) (t : ℕ) (table : Table) (l n k : ℕ) (lookup : Lookup) (column : Column) (kept : IsKeptLookup catalog l lookup) → slice_get catalog.tables t ≡ Some table
    → Contains table.lookups l → lookup.column ≡ Some n → slice_get table.columns n ≡ Some column → slice_get lookup.from 0 ≡ Some k → IsFirstFrom kept.table k column
first_from catalog t table l n k lookup column kept at listed on here first =
    let among : slice_get table.lookups listed.0 ≡ Some l = slice_get-get_or table.lookups listed.0 l listed.1 ∙ ap (λ (m : ℕ). Some m) listed.2 in
    let owns : t ≡ kept.owner_number = kept.listed_once t table at (listed.0, among) in
    let owner : kept.owner ≡ table = same_Some kept.owner table (sym kept.is_owner ∙ ap (slice_get catalog.tables) (sym owns) ∙ at) in
    let number : kept.column ≡ n = same_Some kept.column n (sym kept.has_column ∙ on) in
    let types = kept.types 0 k kept.column first refl in
    let column_same : types.b ≡ column =
    same_Some types.b column (sym types.is_b ∙ ap (λ (o : Table). slice_get o.columns kept.column) owner ∙ ap (slice_get table.columns) number ∙ here) in
    record { it = types.a; is = types.is_a; same = types.same ∙ ap (λ (c : Column). c.ty) column_same }

placed_by_value : (catalog : Catalog) (k : ℕ) (o : Option Primary) (primary : Primary) (value : Value) (ksid : List ℕ) → o ≡ Some primary → ksid_of_value primary.vindex value ≡ Some ksid
    → (shard : ℕ) × (value_place_by catalog.rings k o value ≡ Some shard)
placed_by_value catalog k o primary value ksid has is = (
  shard_in catalog.rings k ksid,
  ap (λ (p : Option Primary). value_place_by catalog.rings k p value) has ∙ ap (option_map (shard_in catalog.rings k)) is,
)

-- in a keyspace that is sharded, and in one that isn't
placed_in : (catalog : Catalog) (t : ℕ) (table : Table) (l n : ℕ) (lookup : Lookup) (column : Column) (given value : Value) (kept : IsKeptLookup catalog l lookup) (b : Bool)
    → is_sharded catalog kept.table ≡ b → IsKeptTable catalog kept.table_number kept.table → slice_get catalog.tables t ≡ Some table → Contains table.lookups l
    → slice_get catalog.lookups l ≡ Some lookup → lookup.column ≡ Some n → slice_get table.columns n ≡ Some column → stored catalog table n column given ≡ Ok value
    → is_null value ≡ false → (shard : ℕ) × (value_place_by catalog.rings kept.table.keyspace kept.table.primary value ≡ Some shard)
placed_in catalog t table l n lookup column given value kept false kind entries at listed found on here is some =
    (_, ap (λ (o : Option Primary). value_place_by catalog.rings kept.table.keyspace o value) (entries.unsharded kind).primary)
placed_in catalog t table l n lookup column given value kept true kind entries at listed found on here is some =
    let primary = entries.sharded kind in
    let by_from = kept.placed kind in
    let same : by_from.0 ≡ primary.primary = same_Some by_from.0 primary.primary (sym by_from.1 ∙ primary.has) in
    let first : slice_get lookup.from 0 ≡ Some primary.primary.column = by_from.2 ∙ ap (λ (p : Primary). Some p.column) same in
    let from = first_from catalog t table l n primary.primary.column lookup column kept at listed on here first in
    let parts = taken_parts (needs_value catalog table n) (is_numbered catalog table n) column (fitted given column.ty column.nullable) value is in
    let ksid =
    ksid_exists primary.primary.vindex column.ty column.nullable value some
    (λ numeric. parts.number (numbered_by_lookup catalog table kept.table l n kept.table_number lookup primary.primary listed found on kept.has_table kept.is_table primary.has numeric))
    (λ numeric. sym (ap rules.is_number_type from.same) ∙ number_column kept.table primary.primary from.it primary.has primary.fits from.is numeric)
    (stored_held catalog table n column given value is) in
    placed_by_value catalog kept.table.keyspace kept.table.primary primary.primary value ksid.0 primary.has ksid.1

-- ---- a value that is stored

pub entry_placed : (catalog : Catalog) (t : ℕ) (table : Table) (n : ℕ) (column : Column) (given value : Value) → Checked catalog → slice_get catalog.tables t ≡ Some table
    → slice_get table.columns n ≡ Some column → stored catalog table n column given ≡ Ok value → HasEntryPlace catalog table n value
entry_placed catalog t table n column given value checked at here is l lookup entries listed found on by some =
    let kept = lookup_kept catalog l lookup checked found in
    let number : entries ≡ kept.table_number = same_Some entries kept.table_number (sym by ∙ kept.has_table) in
    let placed =
    placed_in catalog t table l n lookup column given value kept (is_sharded catalog kept.table) refl (table_kept catalog kept.table_number kept.table checked kept.is_table) at listed found on here is some in
    (placed.0, ap (λ (o : Option Table). option_and_then (λ (it : Table). value_place_by catalog.rings it.keyspace it.primary value) o) (ap (slice_get catalog.tables) number ∙ kept.is_table) ∙ placed.1)

-- past the end of a row there is no value
not_past : (row : List Value) (n : ℕ) → is_null (slice_index_or row n Null) ≡ false → n < length row
not_past [] n some = cc
not_past (value ∷ row) zero some = omega arith
not_past (value ∷ row) (suc n) some = omega (arith, not_past row n some)

-- each value of a row that is stored
pub row_entries_placed : (catalog : Catalog) (t : ℕ) (table : Table) (names : Names) (row values : List Value) → Checked catalog → slice_get catalog.tables t ≡ Some table
    → IsStoredRow catalog table names row 0 table.columns values → (n : ℕ) → HasEntryPlace catalog table n (slice_index_or values n Null)
row_entries_placed catalog t table names row values checked at is n l lookup entries listed found on by some =
    let within : n < length values = not_past values n some in
    let column = at_number table.columns n (subst (λ (k : ℕ). n < k) is.whole within) in
    let it = is.each n n column.0 (omega arith) column.1 in
    let read : slice_index_or values n Null ≡ it.0 = get_or_from_slice_get values n it.0 Null it.1 in
    let placed = entry_placed catalog t table n column.0 (value_named names row column.0.name) it.0 checked at column.1 it.2 l lookup entries listed found on by (sym (ap is_null read) ∙ some) in
    (placed.0, ap (place_of_value catalog entries) read ∙ placed.1)
