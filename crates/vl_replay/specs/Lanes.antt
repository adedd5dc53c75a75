-- Lanes: sessions of main hold and change keys of rows, those of pre and post keys of entries. So no key is wanted by two
-- groups of one transaction but in pre and post.
use Rattle.std.specs.Prelude.{◌≡◌, ◌<◌, ℕ, Bool, true, false, Option, Some, None}
use Rattle.vl_values.specs.declared.group.Group.{Group}
use Rattle.vl_values.specs.declared.group.Group.TheVariants.{Pre, Main, Post}
use Rattle.vl_values.specs.declared.key.Key.{Key}
use Rattle.vl_catalog.specs.declared.catalog.Catalog.{Catalog}
use Rattle.vl_port.specs.declared.act.Act.{Act}
use Rattle.vl_port.specs.declared.act.Act.TheVariants.{Insert, Put, Remove, RemoveIf, Find}
use Rattle.vl_port.specs.declared.change.Change.{Change}
use Rattle.vl_port.specs.declared.who.Who.{Who}
use Rattle.vl_port.specs.Serving.{Shards}
use Rattle.vl_model.specs.Entries.{is_lookup_table}
use Rattle.vl_run.specs.Machine.{is_entry}

-- a session of the group may have a key, which is that of an entry or not. Without a group there is no session
abbrev pub IsLane : Option Group → Bool → Type 0
IsLane None entry = ⊥
IsLane (Some Pre) entry = entry ≡ true
IsLane (Some Main) entry = entry ≡ false
IsLane (Some Post) entry = entry ≡ true

-- each key that is held or changed on a shard is in the lane of its session
pub record InLanes (catalog : Catalog) (count : ℕ) (seen : Shards) : Type 0 where
  pub holders : (shard : ℕ) (key : Key) (who : Who) → shard < count → (seen shard).holder key ≡ Some who → IsLane who.group (is_entry catalog key)
  pub changes : (shard : ℕ) (key : Key) (change : Change) → shard < count → (seen shard).pending key ≡ Some change → IsLane change.who.group (is_entry catalog key)

abbrev pub IsReadInLane : Option Group → Bool → Bool → Type 0
IsReadInLane group false entry = Unit {0}
IsReadInLane group true entry = IsLane group entry

-- so is each key that the act must obtain
abbrev pub IsActInLane : Catalog → Option Group → Act → Type 0
IsActInLane catalog group (Insert key row) = IsLane group (is_entry catalog key)
IsActInLane catalog group (Put key row) = IsLane group (is_entry catalog key)
IsActInLane catalog group (Remove key) = IsLane group (is_entry catalog key)
IsActInLane catalog group (RemoveIf key column value) = IsLane group (is_entry catalog key)
IsActInLane catalog group (Find pred locking) = IsReadInLane group locking (is_lookup_table catalog pred.table)
