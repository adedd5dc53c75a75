-- A session obtains the locks of keys, or is told which one another holds.
use Rattle.std.specs.Prelude.{◌≡◌, ◌≢◌, ◌<◌, ℕ, List, length, All}
use Rattle.std.specs.declared.option.Option.{Option}
use Rattle.std.specs.declared.option.Option.TheVariants.{Some, None}
use Rattle.std.specs.List.{AllWithin, HoldsAt}
use Rattle.vl_values.specs.declared.key.Key.{Key}
use Rattle.vl_port.specs.declared.who.Who.{Who}
use Rattle.vl_locks.specs.Locks.{holder_of}
use Rattle.vl_locks.specs.Take.{IsFreeFor, with_all}
use Rattle.vl_shard.specs.declared.seat.Seat.{Seat}
use Rattle.vl_shard.specs.Seats.{seat_at, HasSat}
use Rattle.vl_shard.specs.Parts.{Parts}

-- the key is the first of these that another session holds; `by` is that session's client session
pub record IsFirstHeldBy (parts : Parts) (keys : List Key) (conn by : ℕ) (key : Key) : Type 0 where
  pub place : ℕ
  pub within : place < length keys
  pub at : HoldsAt (λ k. k ≡ key) keys place
  pub holder : (other : ℕ) × (seat : Seat) × (holder_of parts.holds key ≡ Some other) × (other ≢ conn) × (seat_at parts.seats other ≡ Some seat) × (seat.who.session ≡ by)
  pub before : AllWithin (IsFreeFor parts.holds conn) keys 0 place

-- `held` is the session in the way and its key, or none where the keys were obtained; the session has its seat from now on
pub record HasObtained (old : Parts) (who : Who) (conn : ℕ) (keys : List Key) (new : Parts) : Type 0 where
  pub free : All (IsFreeFor old.holds conn) keys
  pub holds : (key : Key) → holder_of new.holds key ≡ with_all (holder_of old.holds) keys conn key
  pub rows : new.rows ≡ old.rows
  pub incarnation : new.incarnation ≡ old.incarnation
  pub sat : HasSat old.seats who old.incarnation conn new.seats

pub record IsRefused (old : Parts) (who : Who) (conn : ℕ) (keys : List Key) (by : ℕ) (key : Key) (new : Parts) : Type 0 where
  pub first : IsFirstHeldBy old keys conn by key
  pub holds : new.holds ≡ old.holds
  pub rows : new.rows ≡ old.rows
  pub incarnation : new.incarnation ≡ old.incarnation
  pub sat : HasSat old.seats who old.incarnation conn new.seats

abbrev pub Obtains : Parts → Who → ℕ → List Key → Option (ℕ × Key) → Parts → Type 0
Obtains old who conn keys None new = HasObtained old who conn keys new
Obtains old who conn keys (Some held) new = IsRefused old who conn keys held.0 held.1 new
