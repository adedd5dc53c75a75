use Rattle.vl_vindex.specs.Checking.{IsCovered}
use Rattle.vl_vindex.proofs.ring.check.Given as goal

abbrev pub invariant-loop-range : goal.invariant-loop-range
invariant-loop-range l = IsCovered l.ranges l.reached l.endless l.range-index
