-- What each program keeps that was made from a plan that fits the catalog.
use Rattle.std.specs.Prelude.{◌≡◌, ◌<◌, ℕ, Some, Contains}
use Rattle.vl_values.specs.declared.key.Key.{Key}
use Rattle.vl_catalog.specs.declared.catalog.Catalog.{Catalog}
use Rattle.vl_catalog.specs.Fitting.{IsPlacedRow}
use Rattle.vl_port.specs.declared.act.Act.TheVariants.{Insert}
use Rattle.vl_port.specs.View.{Values}
use Rattle.vl_lookup.specs.Making.{IsClaim}
use Rattle.vl_insert.specs.declared.insertion.Insertion.{Insertion}
use Rattle.vl_insert.specs.declared.task.Task.{Task}
use Rattle.vl_insert.specs.declared.task.Task.TheVariants as tasks
use Rattle.vl_insert.specs.Progress.{Progress}

-- a row that the catalog allows on this shard is inserted there
pub record IsInsertion (catalog : Catalog) (count : ℕ) (insertion : Insertion) : Type 0 where
  pub shard : insertion.shard < count
  pub key : Key
  pub row : Values
  pub inserts : insertion.act ≡ Insert key row
  pub placed : IsPlacedRow catalog insertion.shard key row

abbrev pub IsTask : Catalog → ℕ → Task → Type 0
IsTask catalog count (tasks.Claim claim) = IsClaim catalog count claim
IsTask catalog count (tasks.Row insertion) = IsInsertion catalog count insertion

-- the program was made under this catalog, over this many shards, and may be stepped under this limit of tries
pub record IsMade (catalog : Catalog) (count limit : ℕ) (p : Progress) : Type 0 where
  pub task : (task : Task) → p.task ≡ Some task → IsTask catalog count task
  pub later : (task : Task) → Contains p.later task → IsTask catalog count task
  pub tries : p.tries < limit
