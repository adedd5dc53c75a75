use Rattle.std.proofs.Common.{◌≡◌, ◌+◌, drop}
use Rattle.vl_model.specs.Refusals.{miscounted_from}
use Rattle.vl_plan.proofs.counts.counted_by.Given as goal

abbrev pub invariant-loop-index : goal.invariant-loop-index
invariant-loop-index l = miscounted_from l.columns 1 l.rows ≡ miscounted_from l.columns (l.index + 1) (drop l.index l.rows)
