use Rattle.vl_token.proofs.Scanning.{text_closed}
use Rattle.vl_token.proofs.lexer.text.Goals as goal

pub returns : goal.returns
returns c = text_closed c.args.quote c.args.bytes.now c.split_at.result.0.now c.split_at.result.1.now c.in-Some.n c.in-Some.ensures.is c.split_at.ensures.front c.split_at.ensures.back
