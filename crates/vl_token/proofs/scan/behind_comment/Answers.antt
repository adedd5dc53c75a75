use Rattle.vl_token.proofs.Scanning.{comment_found}
use Rattle.vl_token.proofs.scan.behind_comment.Goals as goal

pub returns-then-begins : goal.returns-then-begins
returns-then-begins c = comment_found c.args.bytes.now c.loop-i.i c.loop-i.invariant c.loop-i-test.true c.if-bytes-i-eq42.true c.if-begins.ensures
