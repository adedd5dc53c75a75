-- A claim in progress, the action that is due, and what an entry names.
use Rattle.std.specs.Prelude.{ℕ, Bool, true, false, List, Option, Some, None}
use Rattle.vl_values.specs.declared.group.Group.{Group}
use Rattle.vl_values.specs.declared.group.Group.TheVariants.{Pre, Main}
use Rattle.vl_values.specs.declared.key.Key.{Key}
use Rattle.vl_values.specs.declared.pred.Pred.{Pred}
use Rattle.vl_catalog.specs.declared.catalog.Catalog.{Catalog}
use Rattle.vl_catalog.specs.Place.{shard_in}
use Rattle.vl_port.specs.declared.act.Act.{Act}
use Rattle.vl_port.specs.declared.act.Act.TheVariants.{Insert, Put, Find}
use Rattle.vl_port.specs.View.{Values}
use Rattle.vl_lookup.specs.declared.stage.Stage.{Stage}
use Rattle.vl_lookup.specs.declared.stage.Stage.TheVariants as stages

pub record Progress : Type 0 where
  -- the lookup's number, the column of its table for the keyspace id, and the owner's keyspace
  pub lookup : ℕ
  pub to : ℕ
  pub keyspace : ℕ
  -- the entry, and the shard on which it stands
  pub key : Key
  pub row : Values
  pub shard : ℕ
  -- the keyspace id of the row for which the entry is claimed
  pub ksid : List ℕ
  -- the owner's rows that have an entry of this key
  pub pred : Pred
  pub stage : Stage

-- ---- the action that is due

pub record Due : Type 0 where
  pub group : Group
  pub shard : ℕ
  pub act : Act

abbrev pub due_at : Stage → Progress → Due
due_at stages.First claim = record { group = Pre; shard = claim.shard; act = Insert claim.key claim.row }
due_at (stages.Check ksid shard) claim = record { group = Main; shard = shard; act = Find claim.pred true }
due_at stages.Put claim = record { group = Pre; shard = claim.shard; act = Put claim.key claim.row }

abbrev pub due : Progress → Due
due claim = due_at claim.stage claim

-- how many actions a claim has at most from a stage on
abbrev pub acts_left : Stage → ℕ
acts_left stages.First = 3
acts_left (stages.Check ksid shard) = 2
acts_left stages.Put = 1

abbrev pub is_first : Stage → Bool
is_first stages.First = true
is_first (stages.Check ksid shard) = false
is_first stages.Put = false

-- ---- what is to be done about an entry

-- the shard that a keyspace id names in the owner's keyspace
abbrev pub home : Catalog → Progress → List ℕ → ℕ
home catalog claim ksid = shard_in catalog.rings claim.keyspace ksid

-- what is to be done about an entry that names this: a keyspace id names a shard to look at, and NULL none
abbrev pub stage_for : Catalog → Progress → Option (List ℕ) → Stage
stage_for catalog claim None = stages.Put
stage_for catalog claim (Some ksid) = stages.Check ksid (home catalog claim ksid)
