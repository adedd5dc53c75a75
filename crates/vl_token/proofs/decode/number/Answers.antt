use Rattle.std.proofs.Common.{arith}
use Rattle.vl_token.specs.Lexical.{number_in}
use Rattle.vl_token.proofs.Scanning.{number_passes}
use Rattle.vl_token.proofs.decode.number.Goals as goal

pub returns-in_default : goal.returns-in_default
returns-in_default c = omega (arith, c.in_default.ensures, number_passes c.args.digits.now c.loop-digit.digit-index c.loop-digit.n (number_in c.args.digits.now) c.loop-digit.invariant c.loop-digit-test.true)

pub returns-in_default-checked_add : goal.returns-in_default-checked_add
returns-in_default-checked_add c = omega (arith, c.in-Some.ensures, c.in_default-checked_add.ensures, number_passes c.args.digits.now c.loop-digit.digit-index c.loop-digit.n (number_in c.args.digits.now) c.loop-digit.invariant c.loop-digit-test.true)
