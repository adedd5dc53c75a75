-- What the rules say of a table and of a lookup, each by its number, in a catalog that keeps them.
use Rattle.std.specs.Prelude.{◌≡◌, ℕ, ◌<◌, ◌≤◌, true, false, List, [], length, slice_get, Some, None}
use Rattle.vl_catalog.specs.declared.catalog.Catalog.{Catalog}
use Rattle.vl_catalog.specs.declared.column.Column.{Column}
use Rattle.vl_catalog.specs.declared.lookup.Lookup.{Lookup}
use Rattle.vl_catalog.specs.declared.primary.Primary.{Primary}
use Rattle.vl_catalog.specs.declared.table.Table.{Table}
use Rattle.vl_rules.specs.ColumnVindexes.{is_sharded}
use Rattle.vl_rules.specs.Limits.{is_off_size, row_bytes}
use Rattle.vl_rules.specs.Lookups.{indexed_columns, is_wide_column}
use Rattle.vl_rules.specs.Tables.{has_numeric_text, shards_of}

-- n is a number of the list
abbrev pub IsIn : List ℕ → ℕ → Type 0
IsIn numbers n = (k : ℕ) × (slice_get numbers k ≡ Some n)

-- a sharded table has a primary vindex, whose column is in its primary key; `numeric` maps numbers
pub record HasPrimary (table : Table) : Type 0 where
  pub primary : Primary
  pub has : table.primary ≡ Some primary
  pub in_key : IsIn table.pk primary.column
  pub within : primary.column < length table.columns
  pub fits : has_numeric_text table ≡ false

-- a table of a keyspace that isn't sharded has no vindex, and stands on one shard
pub record IsPlain (catalog : Catalog) (table : Table) : Type 0 where
  pub primary : table.primary ≡ None
  pub lookups : table.lookups ≡ []
  pub one : shards_of catalog table ≡ 1

-- lookup l exists, and the table of number t owns it
abbrev pub Owns : Catalog → ℕ → ℕ → Type 0
Owns catalog t l = (lookup : Lookup) × (slice_get catalog.lookups l ≡ Some lookup) × (lookup.owner ≡ Some t)

-- the table of number t
pub record IsKeptTable (catalog : Catalog) (t : ℕ) (table : Table) : Type 0 where
  pub key : 0 < length table.pk
  pub key_columns : (n : ℕ) → IsIn table.pk n → n < length table.columns
  pub sharded : is_sharded catalog table ≡ true → HasPrimary table
  pub unsharded : is_sharded catalog table ≡ false → IsPlain catalog table
  pub shards : 0 < shards_of catalog table
  pub lookups : (l : ℕ) → IsIn table.lookups l → Owns catalog t l
  -- the schema file has it, and its keyspace has a ring
  pub in_schema : table.in_schema ≡ true
  pub keyspace : table.keyspace < length catalog.rings
  -- limits
  pub few_columns : length table.columns ≤ 64
  pub few_lookups : length table.lookups ≤ 8
  pub sizes : (n : ℕ) (column : Column) → slice_get table.columns n ≡ Some column → is_off_size column.ty ≡ false
  pub row : row_bytes table.columns ≤ 65535

-- the columns m and n exist, and have one type
pub record HaveOneType (left right : List Column) (m n : ℕ) : Type 0 where
  pub a : Column
  pub b : Column
  pub is_a : slice_get left m ≡ Some a
  pub is_b : slice_get right n ≡ Some b
  pub same : a.ty ≡ b.ty

-- a lookup table that is sharded is placed by its first `from` column
abbrev pub IsPlacedByFrom : Lookup → Table → Type 0
IsPlacedByFrom lookup table = (primary : Primary) × (table.primary ≡ Some primary) × (slice_get lookup.from 0 ≡ Some primary.column)

-- the lookup of number l, with its owner and its table and the numbers of both
pub record IsKeptLookup (catalog : Catalog) (l : ℕ) (lookup : Lookup) : Type 0 where
  pub owner_number : ℕ
  pub owner : Table
  pub table_number : ℕ
  pub table : Table
  pub column : ℕ
  pub to : ℕ
  pub has_owner : lookup.owner ≡ Some owner_number
  pub is_owner : slice_get catalog.tables owner_number ≡ Some owner
  pub has_table : lookup.table ≡ Some table_number
  pub is_table : slice_get catalog.tables table_number ≡ Some table
  pub has_column : lookup.column ≡ Some column
  pub has_to : lookup.to ≡ Some to
  -- the owner lists it, and no other table does
  pub listed : IsIn owner.lookups l
  pub listed_once : (t : ℕ) (other : Table) → slice_get catalog.tables t ≡ Some other → IsIn other.lookups l → t ≡ owner_number
  -- its entries: the key, the keyspace id, and nothing besides that may not be NULL
  pub key_is_from : table.pk ≡ lookup.from
  pub wide : is_wide_column table.columns to ≡ true
  pub to_off_from : IsIn lookup.from to → ⊥
  pub nullable : (n : ℕ) (besides : Column) → slice_get table.columns n ≡ Some besides → (IsIn lookup.from n → ⊥) → (lookup.to ≡ Some n → ⊥) → besides.nullable ≡ true
  -- the `from` columns hold the owner's columns
  pub as_many : length lookup.from ≡ length (indexed_columns lookup.unique owner.pk column)
  pub types : (k m n : ℕ) → slice_get lookup.from k ≡ Some m → slice_get (indexed_columns lookup.unique owner.pk column) k ≡ Some n
      → HaveOneType table.columns owner.columns m n
  -- the table serves it alone, owns no lookup, and is placed by its first `from` column
  pub alone : (m : ℕ) (other : Lookup) → slice_get catalog.lookups m ≡ Some other → other.table ≡ Some table_number → m ≡ l
  pub owns_none : (m : ℕ) → Owns catalog table_number m → ⊥
  pub placed : is_sharded catalog table ≡ true → IsPlacedByFrom lookup table
  pub written : lookup.write_only ≡ false
