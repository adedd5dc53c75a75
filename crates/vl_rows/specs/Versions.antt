-- The committed and the pending versions of the rows of a shard.
use Rattle.std.specs.Prelude.{◌≡◌, ℕ, Bool, List, ◌==◌, if◌then◌else◌, not, filter}
use Rattle.std.specs.declared.option.Option.{Option}
use Rattle.std.specs.declared.option.Option.TheVariants.{Some, None}
use Rattle.std.specs.List.{list_any}
use Rattle.vl_values.specs.declared.key.Key.{Key}
use Rattle.vl_values.specs.declared.value.Value.{Value}
use Rattle.vl_values.specs.Keyed.{InKeyOrder, is_key, value_at}
use Rattle.vl_rows.specs.declared.change.Change.{Change}

-- two lists, each with every key once: the committed rows, and the pending changes. Beside them `room` lists the keys
-- at which a write takes no memory.
pub record Versions : Type 0 where
  pub committed : List (Key × List Value)
  pub pending : List (Key × Change)
  pub room : List Key

abbrev pub committed_at : Versions → Key → Option (List Value)
committed_at versions key = value_at versions.committed key

abbrev pub pending_at : Versions → Key → Option Change
pending_at versions key = value_at versions.pending key

-- which version a reader sees: a connection its own pending one and else the committed one, others the committed one
abbrev pub version_for : Option ℕ → Option Change → Option (List Value) → Option (List Value)
version_for None pending committed = committed
version_for (Some conn) None committed = committed
version_for (Some conn) (Some change) committed = if change.conn == conn then change.row else committed

abbrev pub standing_at : Versions → Option ℕ → Key → Option (List Value)
standing_at versions reader key = version_for reader (pending_at versions key) (committed_at versions key)

-- the pending changes without those of one connection
abbrev pub without : ℕ → List (Key × Change) → List (Key × Change)
without conn = filter (λ entry. not (entry.1.conn == conn))

-- a pending change, if it isn't of this connection
abbrev pub other_than : ℕ → Option Change → Option Change
other_than conn None = None
other_than conn (Some change) = if change.conn == conn then None else Some change

-- no other connection has a pending version of the key
abbrev pub IsFreeFor : Versions → ℕ → Key → Type 0
IsFreeFor versions conn key = other_than conn (pending_at versions key) ≡ None

-- the change that a connection makes: a row, or a removal
abbrev pub changed_to : ℕ → Option (List Value) → Change
changed_to conn row = record { conn = conn; row = row }

-- the pending changes once a key has this one
abbrev pub with_change : (Key → Option Change) → Key → Change → Key → Option Change
with_change changes key change other = if is_key key other then Some change else changes other

-- a write of this key takes no memory
abbrev pub has_room : Versions → Key → Bool
has_room versions key = list_any (is_key key) versions.room

pub record SameVersions (old new : Versions) : Type 0 where
  pub committed : new.committed ≡ old.committed
  pub pending : new.pending ≡ old.pending

-- both lists ascend by key, so each has every key once
pub record IsInOrder (versions : Versions) : Type 0 where
  pub committed : InKeyOrder versions.committed
  pub pending : InKeyOrder versions.pending
