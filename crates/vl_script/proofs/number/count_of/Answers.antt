use Rattle.std.proofs.Common.{arith}
use Rattle.vl_script.proofs.Numerals.{no_digits, low_first, not_text, not_read, too_large, is_read}
use Rattle.vl_script.proofs.number.count_of.Goals as goal

pub returns-in_default-clause-none : goal.returns-in_default-clause-none
returns-in_default-clause-none c n count is = no_digits c.args.digits.now c.in_default.len_below n count is

pub returns-then-first-le48-clause-none : goal.returns-then-first-le48-clause-none
returns-then-first-le48-clause-none c n count is = low_first c.args.digits.now c.if-first-le48.true n count is

pub returns-in_default-from_utf8-clause-none : goal.returns-in_default-from_utf8-clause-none
returns-in_default-from_utf8-clause-none c n count is = not_text c.args.digits.now c.in_default-from_utf8.ensures.cases.0 n count is

pub returns-in_default-parse-clause-none : goal.returns-in_default-parse-clause-none
returns-in_default-parse-clause-none c n count is =
    not_read c.args.digits.now c.in-Ok.text.now c.parse.result c.in_default-parse.field-0 c.in-Ok.ensures.cases.0 c.parse.ensures.value.0 c.in_default-parse.is n count is

pub returns-then-n-gt1000000-clause-none : goal.returns-then-n-gt1000000-clause-none
returns-then-n-gt1000000-clause-none c n count is =
    too_large c.args.digits.now c.in-Ok.text.now c.parse.result c.in-Ok-parse.n c.in-Ok.ensures.cases.0 c.parse.ensures.value.0 c.in-Ok-parse.is (omega arith) n count is

pub returns-clause-some : goal.returns-clause-some
returns-clause-some c =
    is_read c.args.digits.now c.in-Ok.text.now c.parse.result c.in-Ok-parse.n c.in-Ok.ensures.cases.0 c.parse.ensures.value.0 c.in-Ok-parse.is c.if-first-le48.false (omega arith)
