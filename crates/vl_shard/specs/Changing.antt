-- What locking a key, and changing it, does to what a port tells of a shard.
use Rattle.std.specs.Prelude.{◌≡◌, ℕ, if◌then◌else◌}
use Rattle.std.specs.declared.option.Option.{Option}
use Rattle.std.specs.declared.option.Option.TheVariants.{Some, None}
use Rattle.vl_values.specs.declared.key.Key.{Key}
use Rattle.vl_values.specs.Keyed.{is_key}
use Rattle.vl_port.specs.declared.act.Act.TheVariants.{Remove}
use Rattle.vl_port.specs.declared.who.Who.{Who}
use Rattle.vl_port.specs.View.{View, Values}
use Rattle.vl_port.specs.Holding.{IsFree, IsHeld}
use Rattle.vl_port.specs.Acting.{taken}
use Rattle.vl_port.specs.Life.{opened}
use Rattle.vl_rows.specs.Versions.{SameVersions, pending_at, with_change, changed_to}
use Rattle.vl_shard.specs.Seats.{SameSeats}
use Rattle.vl_shard.specs.Parts.{Parts}

-- only room was made
pub record IsUnseen (old new : Parts) : Type 0 where
  pub rows : SameVersions old.rows new.rows
  pub holds : new.holds ≡ old.holds
  pub seats : SameSeats old.seats new.seats
  pub incarnation : new.incarnation ≡ old.incarnation

-- a session has the key's lock from now on; every act on one key needs that key alone, as a removal does
abbrev pub key_taken : Who → Key → View → View
key_taken who key view = taken who (Remove key) view

-- and it has written the key's pending version
abbrev pub key_changed : Who → Key → Option Values → View → View
key_changed who key row view = record (key_taken who key view) { pending = λ k. if is_key key k then Some (record { who = who; row = row }) else view.pending k }

-- the session in the way and its key, or none and the lock was taken
abbrev pub TakesKey : View → Who → Key → Option (ℕ × Key) → View → Type 0
TakesKey old who key None new = IsFree old who (Remove key) × (new ≡ key_taken who key old)
TakesKey old who key (Some held) new = IsHeld old who (Remove key) held.0 held.1 × (new ≡ opened who old)

abbrev pub ChangesKey : View → Who → Key → Option Values → Option (ℕ × Key) → View → Type 0
ChangesKey old who key row None new = IsFree old who (Remove key) × (new ≡ key_changed who key row old)
ChangesKey old who key row (Some held) new = IsHeld old who (Remove key) held.0 held.1 × (new ≡ opened who old)

-- a session's pending version was written
pub record IsWritten (old : Parts) (key : Key) (row : Option Values) (conn : ℕ) (new : Parts) : Type 0 where
  pub committed : new.rows.committed ≡ old.rows.committed
  pub pending : (other : Key) → pending_at new.rows other ≡ with_change (pending_at old.rows) key (changed_to conn row) other
  pub holds : new.holds ≡ old.holds
  pub seats : new.seats ≡ old.seats
  pub incarnation : new.incarnation ≡ old.incarnation
