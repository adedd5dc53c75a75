use Rattle.vl_lookup.proofs.Rows.{each_more}
use Rattle.vl_lookup.proofs.entry.is_each_once.Goals as goal

pub loop-k-preserved : goal.loop-k-preserved
loop-k-preserved c = each_more c.args.from.now c.loop-k.k (c.is_first_at.ensures c.if-not-is_first_at.false) c.loop-k.invariant
