-- What taking the locks of keys does.
use Rattle.std.specs.Prelude.{◌≡◌, ◌≢◌, ◌<◌, ℕ, List, length, if◌then◌else◌}
use Rattle.std.specs.declared.option.Option.{Option}
use Rattle.std.specs.List.{AllWithin, HoldsAt}
use Rattle.std.specs.declared.option.Option.TheVariants.{Some, None}
use Rattle.vl_values.specs.declared.key.Key.{Key}
use Rattle.vl_values.specs.Keyed.{is_among_keys}
use Rattle.vl_locks.specs.declared.take.Take.{Take}
use Rattle.vl_locks.specs.declared.take.Take.TheVariants.{Held, Taken}
use Rattle.vl_locks.specs.Locks.{holder_of, other_than, with_holder}

-- another connection holds the key, and nothing changes; or this connection has it from now on, and `fresh` says
-- that nobody had it before
abbrev pub Takes : List (Key × ℕ) → Key → ℕ → Take → List (Key × ℕ) → Type 0
Takes old key conn (Held by) new = (holder_of old key ≡ Some by) × (by ≢ conn) × (new ≡ old)
Takes old key conn (Taken fresh) new =
    (holder_of old key ≡ (if fresh then None else Some conn)) × ((other : Key) → holder_of new other ≡ with_holder (holder_of old) key (Some conn) other)

-- no other connection holds the key
abbrev pub IsFreeFor : List (Key × ℕ) → ℕ → Key → Type 0
IsFreeFor holds conn key = other_than conn (holder_of holds key) ≡ None

-- another connection holds the key at this place, and the keys before it are free
abbrev pub IsFirstHeld : List (Key × ℕ) → List Key → ℕ → ℕ → ℕ → Type 0
IsFirstHeld holds keys conn place by =
    (place < length keys) × HoldsAt (λ key. holder_of holds key ≡ Some by) keys place × (by ≢ conn) × AllWithin (IsFreeFor holds conn) keys 0 place

-- the holders once this connection has all these keys
abbrev pub with_all : (Key → Option ℕ) → List Key → ℕ → Key → Option ℕ
with_all holders keys conn other = if is_among_keys keys other then Some conn else holders other
