use Rattle.vl_model.specs.ScriptLine.{value_behind}
use Rattle.std.proofs.Common.{ap, ◌+◌, ◌∙◌, sym, drop, length, arith}
use Rattle.vl_insert_text.proofs.Digits.{value_more, too_large, is_number}
use Rattle.std.proofs.lemmas.Bool.{eqb-false}
use Rattle.std.proofs.lemmas.List.Elements.{All-more}
use Rattle.std.specs.Char.{IsAsciiDigit}
use Rattle.vl_insert_text.proofs.number.number_of.Goals as goal

pub returns-in_default-clause-none : goal.returns-in_default-clause-none
returns-in_default-clause-none c m =
    too_large c.args.digits.now c.loop-digit.digit-index c.loop-digit.value m c.loop-digit-test.true c.loop-digit.invariant.value c.in_default.ensures

pub loop-digit-preserved : goal.loop-digit-preserved
loop-digit-preserved c = record {
  each = All-more IsAsciiDigit c.args.digits.now c.loop-digit.digit-index 0 c.loop-digit-test.true c.loop-digit.invariant.each c.if-not-is_ascii_digit.ensures.cases;
  value = sym (value_more c.args.digits.now c.loop-digit.digit-index c.loop-digit.value c.loop-digit-test.true ∙ ap (λ v. value_behind v (drop (c.loop-digit.digit-index + 1) c.args.digits.now)) (sym c.in-Some.ensures.1)) ∙ c.loop-digit.invariant.value;
  fits = omega (arith, c.in-Some.ensures.0, c.in-Some.ensures.1);
}

pub returns-clause-some : goal.returns-clause-some
returns-clause-some c =
    is_number c.args.digits.now c.loop-digit.digit-index c.loop-digit.value (omega (arith, eqb-false (length c.args.digits.now) 0 (sym c.if-is_empty.ensures))) (omega arith) (omega arith) c.loop-digit.invariant.each c.loop-digit.invariant.value c.loop-digit.invariant.fits
