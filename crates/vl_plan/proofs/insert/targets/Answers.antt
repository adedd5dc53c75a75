use Rattle.std.proofs.Common.{arith}
use Rattle.vl_plan.proofs.Targeting.{targets_all, targets_more}
use Rattle.vl_plan.proofs.insert.targets.Goals as goal

pub loop-number-preserved : goal.loop-number-preserved
loop-number-preserved c = λ row.
    targets_more c.args.catalog.now c.args.table.now c.args.names.now row c.as_slice-columns.result.now c.loop-number.number c.index-columns-number.result
    c.loop-number.targets.items c.push.new.self.items c.target-target.result c.loop-number-test.true c.index-columns-number.is (c.loop-number.invariant row)
    (c.target-target.ensures row) c.in-Ok-push.ensures.items

pub returns-clause-targets : goal.returns-clause-targets
returns-clause-targets c = λ row.
    targets_all c.args.catalog.now c.args.table.now c.args.names.now row c.as_slice-columns.result.now c.loop-number.number c.loop-number.targets.items
    c.as_slice-columns.ensures (omega arith) (c.loop-number.invariant row)
