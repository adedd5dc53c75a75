-- What an UPDATE or a DELETE has done so far, as the shards show it.
use Rattle.std.specs.Prelude.{ℕ}
use Rattle.vl_port.specs.declared.tx_state.TxState.{TxState}
use Rattle.vl_port.specs.Serving.{Shards}
use Rattle.vl_change.specs.Effects.{AreOwed as AreOwedByChange, HasWritten as HasChanged}
use Rattle.vl_exec.specs.declared.program.Program.{Program}
use Rattle.vl_exec.specs.declared.program.Program.TheVariants as programs

-- each write that was done on the shard stands
abbrev pub HasWritten : Shards → TxState → Program → ℕ → Type 0
HasWritten seen tx (programs.Insert insert) shard = Unit {0}
HasWritten seen tx (programs.Select select) shard = Unit {0}
HasWritten seen tx (programs.Change change) shard = HasChanged seen tx change shard

-- the rows that are still to be written on the shard stand as they were found, under lock
abbrev pub AreOwed : Shards → TxState → Program → ℕ → Type 0
AreOwed seen tx (programs.Insert insert) shard = Unit {0}
AreOwed seen tx (programs.Select select) shard = Unit {0}
AreOwed seen tx (programs.Change change) shard = AreOwedByChange seen tx change shard
