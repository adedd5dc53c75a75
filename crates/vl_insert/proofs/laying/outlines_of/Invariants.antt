use Rattle.std.proofs.Common.{take}
use Rattle.vl_insert.specs.Laying.{AreOutlines}
use Rattle.vl_insert.proofs.laying.outlines_of.Given as goal

abbrev pub invariant-loop-row : goal.invariant-loop-row
invariant-loop-row l = AreOutlines l.catalog l.plan.table (take l.row-index l.plan.rows) l.list.items
