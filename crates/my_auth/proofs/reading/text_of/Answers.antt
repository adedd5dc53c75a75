use Rattle.std.proofs.Common.{add-one, arith}
use Rattle.std.proofs.lemmas.List.{take_rest}
use Rattle.my_auth.proofs.Texts.{cut, uncut}
use Rattle.my_auth.proofs.reading.text_of.Goals as goal

pub returns-then-byte-eq0 : goal.returns-then-byte-eq0
returns-then-byte-eq0 c =
    rw (take_rest, add-one) (cut c.args.bytes.now c.loop-i.i c.loop-i-test.true c.loop-i.invariant c.if-byte-eq0.true)

pub returns : goal.returns
returns c = uncut c.args.bytes.now (λ k below. c.loop-i.invariant k (omega arith))
