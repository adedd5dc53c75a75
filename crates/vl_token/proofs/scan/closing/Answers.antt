use Rattle.vl_token.proofs.Scanning.{closing_more}
use Rattle.vl_token.proofs.scan.closing.Goals as goal

pub loop-i-preserved : goal.loop-i-preserved
loop-i-preserved c = closing_more c.args.quote c.args.bytes.now c.loop-i.i c.in-Some.n c.loop-i.invariant c.in-Some.ensures.2
