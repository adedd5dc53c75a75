use Rattle.std.proofs.Common.{◌≡◌, true, sym, ◌∙◌, arith}
use Rattle.std.proofs.lemmas.List.Elements.{All-more}
use Rattle.hex.specs.Hex.{is_hex_digit}
use Rattle.vl_vindex.proofs.reading.digit_run.Goals as goal

pub loop-i-preserved : goal.loop-i-preserved
loop-i-preserved c = (
  omega arith,
  All-more (λ x. is_hex_digit x ≡ true) c.args.text.now c.loop-i.i 0 (omega arith) c.loop-i.invariant.1
      (sym c.is_digit.ensures ∙ c.if-not-is_digit.false),
)
