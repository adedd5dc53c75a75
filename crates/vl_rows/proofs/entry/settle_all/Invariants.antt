use Rattle.std.proofs.Common.{◌≡◌, ◌++◌, take, drop, map}
use Rattle.vl_rows.specs.Slots.{settled_in}
use Rattle.vl_rows.proofs.entry.settle_all.Given as goal

abbrev pub invariant-loop-entry : goal.invariant-loop-entry
invariant-loop-entry l = l.slots ≡ map (settled_in l.conn) (take l.entry-index l.fn.slots) ++ drop l.entry-index l.fn.slots
