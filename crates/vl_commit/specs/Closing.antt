-- Sessions that are closed, one after the other.
use Rattle.std.specs.Prelude.{◌≡◌, ◌==◌, ℕ, zero, suc, ◌+◌, if◌then◌else◌, slice_get, Option, Some, None}
use Rattle.vl_port.specs.declared.tx_state.TxState.{TxState}
use Rattle.vl_port.specs.Calls.{IsQuiet, PortView}
use Rattle.vl_port.specs.Life.{closed}
use Rattle.vl_port.specs.Serving.{Shards}
use Rattle.vl_port.specs.Transaction.{session_of}
use Rattle.vl_commit.specs.Sessions.{Session, sessions}

-- one session is closed on its shard
abbrev pub with_closed : TxState → Option Session → Shards → Shards
with_closed tx None seen = seen
with_closed tx (Some session) seen = λ shard. if shard == session.1 then closed (session_of tx session.0) (seen shard) else seen shard

-- so many sessions from this place on are closed, in their order
abbrev pub with_all_closed : TxState → ℕ → ℕ → Shards → Shards
with_all_closed tx from zero seen = seen
with_all_closed tx from (suc count) seen = with_closed tx (slice_get (sessions tx) (from + count)) (with_all_closed tx from count seen)

-- so many sessions were closed, each shard shows what it did, and nothing was carried or failed
pub record AreClosed (tx : TxState) (from count : ℕ) (old new : PortView) : Type 0 where
  pub closed : (shard : ℕ) → new.shards shard ≡ with_all_closed tx from count old.shards shard
  pub quiet : IsQuiet old new
