use Rattle.std.proofs.Common.{arith}
use Rattle.vl_audit.proofs.Given.{one_shard_more}
use Rattle.vl_audit.proofs.gathering.gather.Goals as goal

pub loop-shard-preserved : goal.loop-shard-preserved
loop-shard-preserved g c = λ q.
    one_shard_more g.K.Ord.cmp q _ _ _ (g.G.Gives.gives c.args.giver.now) c.args.tables.now c.loop-shard.shard c.index-tables-shard.result c.as_slice.result.now (omega arith) c.index-tables-shard.is
    c.as_slice.ensures (c.in_ok-gather_on.ensures q) (c.loop-shard.invariant q)
