use Rattle.std.proofs.Common.{ap, length, arith}
use Rattle.vl_select.proofs.Named.{length_again, picked_more, stays_more}
use Rattle.vl_select.proofs.projecting.picked.Goals as goal

pub bounds-again-n : goal.bounds-again-n
bounds-again-n c = omega (arith, ap length c.requires, length_again c.args.columns.now, c.loop-n-test.true)

pub loop-n-preserved : goal.loop-n-preserved
loop-n-preserved c = (
  picked_more c.args.columns.now c.args.row c.loop-n.left.items c.loop-n.values.items c.push.new.self.items c.in_ok-value_of.field-0 c.loop-n.n c.loop-n-test.true c.loop-n.invariant.1 c.loop-n.invariant.0 c.in_ok-value_of.ensures.value c.in_ok-push.ensures.items,
  stays_more c.args.columns.now c.args.again.now c.args.row c.loop-n.left.items c.value_of.new.row.items c.loop-n.n c.loop-n-test.true c.requires c.loop-n.invariant.1 c.in_ok-value_of.ensures.others,
)
