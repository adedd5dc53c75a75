-- Rows and tests that fit a table, and the key that a row has.
use Rattle.std.specs.Prelude.{◌≡◌, ℕ, true, List, length, map, slice_get, slice_index_or, Some, Contains}
use Rattle.std.specs.List.{AllPairs}
use Rattle.std.specs.declared.cmp.Ordering.TheVariants.{Less}
use Rattle.vl_values.specs.declared.key.Key.{Key}
use Rattle.vl_values.specs.declared.pred.Pred.{Pred}
use Rattle.vl_values.specs.declared.test.Test.{Test}
use Rattle.vl_values.specs.declared.value.Value.{Value}
use Rattle.vl_values.specs.declared.value.Value.TheVariants.{Null}
use Rattle.vl_values.specs.Fit.{is_held, is_of_type}
use Rattle.vl_values.specs.Value.{value_cmp}
use Rattle.vl_catalog.specs.declared.catalog.Catalog.{Catalog}
use Rattle.vl_catalog.specs.declared.column.Column.{Column}
use Rattle.vl_catalog.specs.declared.table.Table.{Table}
use Rattle.vl_catalog.specs.Place.{place}

-- a row of the table: each column has a value that it may hold
pub record IsRowOf (table : Table) (row : List Value) : Type 0 where
  pub whole : length row ≡ length table.columns
  pub held : (n : ℕ) (column : Column) (value : Value) → slice_get table.columns n ≡ Some column → slice_get row n ≡ Some value → is_held column.ty column.nullable value ≡ true

-- a test of a column: values of its type, without NULL, each once and in ascending order
pub record IsTestOf (table : Table) (test : Test) : Type 0 where
  pub column : Column
  pub is_column : slice_get table.columns test.column ≡ Some column
  pub typed : (value : Value) → Contains test.values value → is_of_type column.ty value ≡ true
  pub ascending : AllPairs (λ one other. value_cmp one other ≡ Less) test.values

-- the predicate is of a table, and each of its tests is one of that
pub record FitsPred (catalog : Catalog) (pred : Pred) : Type 0 where
  pub table : Table
  pub is_table : slice_get catalog.tables pred.table ≡ Some table
  pub tests : (test : Test) → Contains pred.tests test → IsTestOf table test

-- the values of the primary key columns, in the key's order
abbrev pub key_values : Table → List Value → List Value
key_values table row = map (λ c. slice_index_or row c Null) table.pk

-- the key of a row of the table of this number
abbrev pub key_of : ℕ → Table → List Value → Key
key_of number table row = record { table = number; pk = key_values table row }

-- a row of the key's table that has the key's values and stands on this shard
pub record IsPlacedRow (catalog : Catalog) (shard : ℕ) (key : Key) (row : List Value) : Type 0 where
  pub table : Table
  pub is_table : slice_get catalog.tables key.table ≡ Some table
  pub fits : IsRowOf table row
  pub keyed : key.pk ≡ key_values table row
  pub placed : place catalog key.table row ≡ Some shard

-- a key that a row on this shard may have
abbrev pub IsPlacedKey : Catalog → ℕ → Key → Type 0
IsPlacedKey catalog shard key = (row : List Value) × IsPlacedRow catalog shard key row
