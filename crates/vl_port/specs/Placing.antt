-- Acts and versions that fit the catalog: keys, rows and tests are of its tables, and rows stand on their shard.
use Rattle.std.specs.Prelude.{◌≡◌, ℕ, true, slice_get, Some}
use Rattle.vl_values.specs.declared.key.Key.{Key}
use Rattle.vl_values.specs.declared.value.Value.{Value}
use Rattle.vl_values.specs.Fit.{is_held}
use Rattle.vl_catalog.specs.declared.catalog.Catalog.{Catalog}
use Rattle.vl_catalog.specs.declared.column.Column.{Column}
use Rattle.vl_catalog.specs.declared.table.Table.{Table}
use Rattle.vl_catalog.specs.Fitting.{FitsPred, IsPlacedKey, IsPlacedRow}
use Rattle.vl_port.specs.declared.act.Act.{Act}
use Rattle.vl_port.specs.declared.act.Act.TheVariants.{Insert, Put, Remove, RemoveIf, Find}
use Rattle.vl_port.specs.declared.change.Change.{Change}
use Rattle.vl_port.specs.View.{View, Values}

-- a value that a column of the table may hold
pub record IsValueIn (catalog : Catalog) (number n : ℕ) (value : Value) : Type 0 where
  pub table : Table
  pub is_table : slice_get catalog.tables number ≡ Some table
  pub column : Column
  pub is_column : slice_get table.columns n ≡ Some column
  pub held : is_held column.ty column.nullable value ≡ true

-- an act on this shard: its key is one that a row there may have, its row is the key's, its tests are of a table
abbrev pub IsActOn : Catalog → ℕ → Act → Type 0
IsActOn catalog shard (Insert key row) = IsPlacedRow catalog shard key row
IsActOn catalog shard (Put key row) = IsPlacedRow catalog shard key row
IsActOn catalog shard (Remove key) = IsPlacedKey catalog shard key
IsActOn catalog shard (RemoveIf key column value) = IsPlacedKey catalog shard key × IsValueIn catalog key.table column value
IsActOn catalog shard (Find pred locking) = FitsPred catalog pred

-- each version of a key is a row of its table, has its values, and stands on this shard; a key that is
-- removed is one that a row there may have
pub record ArePlaced (catalog : Catalog) (shard : ℕ) (view : View) : Type 0 where
  pub committed : (key : Key) (row : Values) → view.committed key ≡ Some row → IsPlacedRow catalog shard key row
  pub pending : (key : Key) (change : Change) (row : Values) → view.pending key ≡ Some change → change.row ≡ Some row → IsPlacedRow catalog shard key row
  pub changed : (key : Key) (change : Change) → view.pending key ≡ Some change → IsPlacedKey catalog shard key
  -- so is a row that may show when the shard comes up
  pub doubted : (key : Key) (row : Values) → view.doubt key ≡ Some (Some row) → IsPlacedRow catalog shard key row
