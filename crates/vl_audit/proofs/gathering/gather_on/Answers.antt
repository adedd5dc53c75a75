use Rattle.std.proofs.Common.{arith}
use Rattle.vl_audit.proofs.Given.{one_row_more}
use Rattle.vl_audit.proofs.gathering.gather_on.Goals as goal

pub loop-pair-preserved : goal.loop-pair-preserved
loop-pair-preserved g c = λ q.
    one_row_more g.K.Ord.cmp q _ _ _ (g.G.Gives.gives c.args.giver.now c.args.shard) c.args.pairs.now c.loop-pair.pair-index c.pair-item.result c.in_ok-given.given (omega arith) c.pair-item.is
    c.in_ok-given.ensures (c.in_ok-add_given.ensures q) (c.loop-pair.invariant q)
