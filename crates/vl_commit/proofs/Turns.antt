-- A commit of main stands behind all of pre, and one of post behind all of pre and main.
use Rattle.std.proofs.Common.{◌≡◌, ◌<◌, ◌≤◌, ◌+◌, ℕ, inl, inr, length, Some, arith}
use Rattle.std.specs.Prelude.{slice_get}
use Rattle.std.proofs.lemmas.Option.{slice_get_within}
use Rattle.vl_values.specs.declared.group.Group.{Group}
use Rattle.vl_values.specs.declared.group.Group.TheVariants.{Pre, Main, Post}
use Rattle.vl_port.specs.declared.tx_state.TxState.{TxState}
use Rattle.vl_port.specs.Serving.{Shards}
use Rattle.vl_port.specs.Transaction.{listed, session_of}
use Rattle.vl_commit.specs.Sessions.{AreLeft, IsBefore, IsInTurn, Session, sessions, start_of}
use Rattle.vl_commit.proofs.Leaving.{none_or_open}
use Rattle.vl_commit.proofs.Places.{place_of}

-- the places of the one group stand before the first of the other
pub starts_behind : (tx : TxState) (earlier group : Group) → IsBefore earlier group → start_of tx earlier + length (listed tx earlier) ≤ start_of tx group
starts_behind tx Pre Pre before = absurd before
starts_behind tx Pre Main before = omega arith
starts_behind tx Pre Post before = omega arith
starts_behind tx Main Pre before = absurd before
starts_behind tx Main Main before = absurd before
starts_behind tx Main Post before = omega arith
starts_behind tx Post group before = absurd before

-- each session of an earlier group stands before it
pub stands_before : (tx : TxState) (m n : ℕ) (one other : Session) → IsBefore one.0 other.0 → slice_get (sessions tx) m ≡ Some one → slice_get (sessions tx) n ≡ Some other → m < n
stands_before tx m n one other before at_m at_n =
    let p = place_of tx m one at_m in
    let q = place_of tx n other at_n in
    omega (arith, p.is, q.is, slice_get_within (listed tx one.0) p.k one.1 p.at, starts_behind tx one.0 other.0 before)

pub in_turn : (tx : TxState) (from count : ℕ) (seen : Shards) (session : Session) → AreLeft tx from count seen → slice_get (sessions tx) from ≡ Some session → IsInTurn session.0 tx count seen
in_turn tx from count seen session left at = λ earlier before shard within.
    elim (none_or_open ((seen shard).sessions (session_of tx earlier))) [
      | inl none ↦ none
      | inr open_ ↦
          let one = left.only (earlier, shard) (within, open_) in
          absurd (omega (arith, one.1, stands_before tx one.0 from (earlier, shard) session before one.2 at))
    ]
