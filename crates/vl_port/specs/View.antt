-- What a port tells of one shard, and the versions that a shard session sees there.
use Rattle.std.specs.Prelude.{ℕ, Bool, true, false, List, ◌==◌, ◌&&◌, if◌then◌else◌, Option, Some, None}
use Rattle.vl_values.specs.declared.group.Group.{Group}
use Rattle.vl_values.specs.declared.group.Group.TheVariants.{Pre, Main, Post}
use Rattle.vl_values.specs.declared.key.Key.{Key}
use Rattle.vl_values.specs.declared.value.Value.{Value}
use Rattle.vl_port.specs.declared.change.Change.{Change}
use Rattle.vl_port.specs.declared.opened.Opened.{Opened}
use Rattle.vl_port.specs.declared.who.Who.{Who}

abbrev pub Values : Type 0
Values = List Value

pub record View : Type 0 where
  -- whether the shard is up, and how often it came up
  pub up : Bool
  pub incarnation : ℕ
  -- the committed version of each key, and its pending one
  pub committed : Key → Option Values
  pub pending : Key → Option Change
  -- what a record that failed may have left of a key: a row, or its removal
  pub doubt : Key → Option (Option Values)
  -- the shard session that holds a key's lock
  pub holder : Key → Option Who
  -- the shard sessions that were opened
  pub sessions : Who → Option Opened

abbrev pub is_group : Option Group → Option Group → Bool
is_group None None = true
is_group (Some Pre) (Some Pre) = true
is_group (Some Main) (Some Main) = true
is_group (Some Post) (Some Post) = true
is_group _ _ = false

-- one client session, transaction and group
abbrev pub is_who : Who → Who → Bool
is_who a b = (a.session == b.session) && ((a.tx == b.tx) && is_group a.group b.group)

abbrev pub has_group : Option Group → Bool
has_group None = false
has_group (Some group) = true

-- the version that a shard session sees of a key: its own pending one, else the committed one
abbrev pub version_for : Who → Option Change → Option Values → Option Values
version_for who None committed = committed
version_for who (Some change) committed = if is_who change.who who then change.row else committed

abbrev pub standing : View → Who → Key → Option Values
standing view who key = version_for who (view.pending key) (view.committed key)

-- what a pending version leaves of a key
abbrev pub changed_to : Option Change → Option Values
changed_to None = None
changed_to (Some change) = change.row
