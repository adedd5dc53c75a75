-- The joined client sessions, and what the run says of each.
use Rattle.std.specs.Prelude.{◌≡◌, ◌≢◌, ◌≤◌, ◌↔◌, ℕ, true, List, [], length, slice_get, Contains, Some}
use Rattle.std.specs.List.{AllPairs}
use Rattle.std.specs.Option.{is_some}
use Rattle.vl_catalog.specs.declared.catalog.Catalog.{Catalog}
use Rattle.vl_port.specs.declared.limits.Limits.{Limits}
use Rattle.vl_port.specs.Serving.{Shards}
use Rattle.vl_run.specs.Progress.{session, warned}
use Rattle.vl_run.specs.Run.{Run, joined, next_tx, seat}
use Rattle.vl_run.specs.Session.{fresh}
use Rattle.vl_session.specs.Ready.{IsReady, IsUnopened, IsWorkMarked}
use Rattle.vl_session.specs.Standing.{IsWorkAt}
use Rattle.vl_seats.specs.declared.seat.Seat.{Seat}

module _ (catalog : Catalog) (limits : Limits) (past : Run) (count : ℕ) (seen : Shards) where
  -- what is kept of the session of this number is what the run says of it, and its work may go on
  pub record IsSeatAt (n : ℕ) (s : Seat) : Type 0 where
    pub at : seat past n ≡ Some s.at
    pub auto : s.auto ≡ (session past n).auto
    pub keyspace : s.keyspace ≡ (session past n).keyspace
    pub stands : IsWorkAt catalog limits past n s.work
    pub ready : IsReady catalog count seen s.work
    pub marked : IsWorkMarked past seen s.work
    pub unwarned : warned catalog past n ≡ []

  -- the sessions by their numbers, in the order of joining
  pub record AreSeated (numbers : List ℕ) (seats : List Seat) : Type 0 where
    pub joined : numbers ≡ joined past
    pub long : length seats ≡ length numbers
    pub each : (place n : ℕ) (s : Seat) → slice_get numbers place ≡ Some n → slice_get seats place ≡ Some s → IsSeatAt n s

-- the joined sessions have numbers of their own, and a session that isn't joined has nothing
pub record AreJoined (past : Run) : Type 0 where
  pub apart : AllPairs (λ one other. one ≢ other) (joined past)
  pub seated : (n : ℕ) → Contains (joined past) n ↔ (is_some (seat past n) ≡ true)
  pub absent : (n : ℕ) → (Contains (joined past) n → ⊥) → session past n ≡ fresh

-- no shard has a session of a transaction whose number is still to be given
abbrev pub AreUnopened : Run → ℕ → Shards → Type 0
AreUnopened past count seen = (tx : ℕ) → next_tx past ≤ tx → IsUnopened past count tx seen
