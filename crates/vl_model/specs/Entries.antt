-- Rows, entries, and which entry a row needs, over a catalog.
use Rattle.std.specs.Prelude.{◌≡◌, ℕ, Bool, false, not, List, [], ◌∷◌, ◌++◌, if◌then◌else◌, map, filter, slice_get, slice_index_or, ◌==◌, Option, Some, None}
use Rattle.std.specs.List.{list_any}
use Rattle.vl_values.specs.declared.value.Value.{Value}
use Rattle.vl_values.specs.declared.value.Value.TheVariants.{Null, Int, Uint, Bytes}
use Rattle.vl_values.specs.Value.{is_null}
use Rattle.vl_catalog.specs.declared.catalog.Catalog.{Catalog}
use Rattle.vl_catalog.specs.declared.lookup.Lookup.{Lookup}
use Rattle.vl_catalog.specs.declared.table.Table.{Table}
use Rattle.vl_catalog.specs.Place.{ksid_of}
use Rattle.vl_model.specs.Tables.{Pair, table_of, column}

-- whether the table of this number serves a lookup; every other table is a plain one
abbrev pub is_served_by : ℕ → Option ℕ → Bool
is_served_by table None = false
is_served_by table (Some other) = other == table

abbrev pub is_lookup_table : Catalog → ℕ → Bool
is_lookup_table catalog table = list_any (λ lookup. is_served_by table lookup.table) catalog.lookups

-- a row of a plain table
abbrev pub IsRow : Catalog → Pair → Type 0
IsRow catalog pair = is_lookup_table catalog (table_of pair) ≡ false

-- an entry: a row of the table that serves the lookup
abbrev pub IsEntry : Lookup → Pair → Type 0
IsEntry lookup pair = lookup.table ≡ Some (table_of pair)

-- a row of the lookup's owner that isn't NULL in the lookup's column
pub record IsIndexed (lookup : Lookup) (row : Pair) : Type 0 where
  pub owner : lookup.owner ≡ Some (table_of row)
  pub value : (c : ℕ) × (lookup.column ≡ Some c) × (is_null (column row c) ≡ false)

-- the columns of a primary key but one
abbrev pub key_but : Option ℕ → List ℕ → List ℕ
key_but None key = key
key_but (Some c) key = filter (λ k. not (k == c)) key

-- the owner's columns that an entry holds values of: the lookup's column, and for a lookup of many
-- rows the owner's other primary key columns behind it
abbrev pub first_column : Option ℕ → List ℕ
first_column None = []
first_column (Some c) = c ∷ []

abbrev pub from_columns : Lookup → Table → List ℕ
from_columns lookup owner = first_column lookup.column ++ (if lookup.unique then [] else key_but lookup.column owner.pk)

-- the values that a row's entry has
abbrev pub from_values : Lookup → Table → Pair → List Value
from_values lookup owner row = map (column row) (from_columns lookup owner)

-- the row needs this entry: it has the row's values, and names the row's keyspace id
pub record Needs (catalog : Catalog) (lookup : Lookup) (row entry : Pair) : Type 0 where
  pub indexed : IsIndexed lookup row
  pub is_entry : IsEntry lookup entry
  pub values : (owner : Table) × (slice_get catalog.tables (table_of row) ≡ Some owner) × (map (column entry) lookup.from ≡ from_values lookup owner row)
  pub names : (ksid : List ℕ) × (to : ℕ) × (ksid_of catalog (table_of row) row.1 ≡ Some ksid) × (lookup.to ≡ Some to) × (column entry to ≡ Bytes ksid)

-- ---- what an entry names

-- the keyspace id in a value of the entry's column for it; NULL names none
abbrev pub named_in : Value → Option (List ℕ)
named_in Null = None
named_in (Int n) = None
named_in (Uint n) = None
named_in (Bytes ksid) = Some ksid

abbrev pub named_by : ℕ → List Value → Option (List ℕ)
named_by to row = named_in (slice_index_or row to Null)
