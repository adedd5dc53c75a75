use Rattle.std.specs.List.{AllWithin}
use Rattle.vl_locks.specs.Take.{IsFreeFor}
use Rattle.vl_locks.proofs.locks.Locks.first_held.Given as goal

abbrev pub invariant-loop-place : goal.invariant-loop-place
invariant-loop-place l = AllWithin (IsFreeFor l.self l.conn) l.keys 0 l.place
