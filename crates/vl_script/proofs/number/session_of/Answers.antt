use Rattle.std.proofs.Common.{arith}
use Rattle.vl_script.proofs.Names.{too_high}
use Rattle.vl_script.proofs.number.session_of.Goals as goal

pub returns-then-n-gt9999-clause-none : goal.returns-then-n-gt9999-clause-none
returns-then-n-gt9999-clause-none c m session is =
    too_high c.args.name.now c.in-Some.digits.now c.in-Some-count_of.n m c.in-Some.ensures.some c.in-Some-count_of.ensures.some.0 c.in-Some-count_of.ensures.some.1 (omega arith) session is
