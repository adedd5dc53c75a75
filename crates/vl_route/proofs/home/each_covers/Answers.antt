use Rattle.std.proofs.Common.{arith}
use Rattle.vl_route.proofs.Homes.{covering_more}
use Rattle.vl_route.proofs.home.each_covers.Goals as goal

pub loop-ring-preserved : goal.loop-ring-preserved
loop-ring-preserved c =
    covering_more c.args.rings.now c.loop-ring.ring-index c.ring-item.result c.loop-ring-test.true c.ring-item.is c.ranges-ranges.ensures.once c.loop-ring.invariant

pub returns : goal.returns
returns c = λ n below. c.loop-ring.invariant n (omega (arith, below, c.loop-ring-test.false))
