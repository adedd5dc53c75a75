use Rattle.std.proofs.Common.{◌≡◌, take}
use Rattle.vl_vindex.proofs.ring.copied.Given as goal

abbrev pub invariant-loop-range : goal.invariant-loop-range
invariant-loop-range l = l.copy.items ≡ take l.range-index l.ranges
