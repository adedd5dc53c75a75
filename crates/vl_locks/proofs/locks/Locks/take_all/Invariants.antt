use Rattle.std.proofs.Common.{take}
use Rattle.vl_locks.specs.Taking.{HasTaken}
use Rattle.vl_locks.proofs.locks.Locks.take_all.Given as goal

abbrev pub invariant-loop-key : goal.invariant-loop-key
invariant-loop-key l = HasTaken l.fn.self (take l.key-index l.keys) l.conn l.self l.fresh.items
