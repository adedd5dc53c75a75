-- What each program keeps that was made from a plan that fits the catalog.
use Rattle.std.specs.Prelude.{◌≡◌, ◌<◌, ◌≤◌, ◌⊎◌, ℕ, true, List, length, slice_get, Option, Some, None, Contains}
use Rattle.std.specs.List.{AllPairs}
use Rattle.vl_values.specs.declared.group.Group.TheVariants.{Main}
use Rattle.vl_values.specs.declared.key.Key.{Key}
use Rattle.vl_values.specs.declared.pred.Pred.{Pred}
use Rattle.vl_values.specs.Keyed.{comes_before}
use Rattle.vl_catalog.specs.declared.catalog.Catalog.{Catalog}
use Rattle.vl_catalog.specs.declared.table.Table.{Table}
use Rattle.vl_catalog.specs.Fitting.{FitsPred}
use Rattle.vl_plan.specs.declared.setting.Setting.{Setting}
use Rattle.vl_plan.specs.Fits.{IsSettingOf}
use Rattle.vl_port.specs.declared.act.Act.{Act}
use Rattle.vl_port.specs.declared.act.Act.TheVariants.{Insert, Put, Remove, RemoveIf, Find}
use Rattle.vl_port.specs.Placing.{IsActOn}
use Rattle.vl_change.specs.declared.action.Action.{Action}
use Rattle.vl_change.specs.declared.row_change.RowChange.{RowChange}
use Rattle.vl_change.specs.declared.row_change.RowChange.TheVariants as changes
use Rattle.vl_change.specs.declared.search.Search.{Search}
use Rattle.vl_change.specs.Progress.{Progress}

-- a write of a row that was found, or its removal
abbrev pub IsWrite : Act → Type 0
IsWrite (Insert key row) = ⊥
IsWrite (Put key row) = Unit {0}
IsWrite (Remove key) = Unit {0}
IsWrite (RemoveIf key column value) = ⊥
IsWrite (Find pred locking) = ⊥

-- the key that a write is of
abbrev pub written_key : Act → Option Key
written_key (Insert key row) = Some key
written_key (Put key row) = Some key
written_key (Remove key) = Some key
written_key (RemoveIf key column value) = Some key
written_key (Find pred locking) = None

-- a write of the main session that the catalog allows on its shard
pub record IsAction (catalog : Catalog) (count : ℕ) (action : Action) : Type 0 where
  pub group : action.group ≡ Main
  pub shard : action.shard < count
  pub write : IsWrite action.act
  pub fits : IsActOn catalog action.shard action.act

-- a change of the rows of the table of this number
abbrev pub IsChangeOf : Catalog → ℕ → RowChange → Type 0
IsChangeOf catalog number changes.Remove = Unit {0}
IsChangeOf catalog number (changes.Set settings) = (table : Table) (setting : Setting) → slice_get catalog.tables number ≡ Some table → Contains settings setting → IsSettingOf table setting

-- one write stands before another: by shard, then by key
abbrev pub Precedes : Action → Action → Type 0
Precedes one other = (one.shard < other.shard) ⊎ ((one.shard ≡ other.shard) × ((a b : Key) → written_key one.act ≡ Some a → written_key other.act ≡ Some b → comes_before a b ≡ true))

-- the shards ascend, and the writes that were found on those that were read do so too
pub record IsSearch (catalog : Catalog) (count : ℕ) (search : Search) (writes : List Action) : Type 0 where
  pub pred : Pred
  pub find : search.find ≡ Find pred true
  pub fits : FitsPred catalog pred
  pub change : IsChangeOf catalog pred.table search.change
  pub within : (shard : ℕ) → Contains search.shards shard → shard < count
  pub ascending : AllPairs (λ one other. one < other) search.shards
  pub read : search.read ≤ length search.shards
  pub counted : length writes ≤ search.tally.rows
  pub behind : (action : Action) (n shard : ℕ) → Contains writes action → search.read ≤ n → slice_get search.shards n ≡ Some shard → action.shard < shard
  pub ordered : AllPairs Precedes writes

-- the program was made under this catalog, over this many shards, and may be stepped under this limit of tries
pub record IsMade (catalog : Catalog) (count limit : ℕ) (p : Progress) : Type 0 where
  pub writes : (action : Action) → Contains p.writes action → IsAction catalog count action
  pub done : p.done ≤ length p.writes
  pub search : IsSearch catalog count p.search p.writes
  pub tries : p.tries < limit
