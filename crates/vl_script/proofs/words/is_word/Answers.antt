use Rattle.std.proofs.Common.{◌≡◌, ◌∙◌, ◌==◌, false, length, sym, arith}
use Rattle.std.proofs.lemmas.Bool.{ne_eqb, eqb-true, eqb-false}
use Rattle.std.proofs.lemmas.List.Elements.{All-more}
use Rattle.vl_script.proofs.Cuts.{empty_no_word, spaced_no_word, is_a_word}
use Rattle.vl_script.proofs.words.is_word.Goals as goal

pub loop-byte-preserved : goal.loop-byte-preserved
loop-byte-preserved c =
    All-more (λ b. (b == 32) ≡ false) c.args.text.now c.loop-byte.byte-index 0 c.loop-byte-test.true c.loop-byte.invariant (ne_eqb _ 32 c.if-byte-eq32.false)

pub returns-then-is_empty : goal.returns-then-is_empty
returns-then-is_empty c =
    empty_no_word c.args.text.now (eqb-true (length c.args.text.now) 0 (sym c.is_empty.ensures ∙ c.if-is_empty.true))

pub returns-then-byte-eq32 : goal.returns-then-byte-eq32
returns-then-byte-eq32 c = spaced_no_word c.args.text.now c.loop-byte.byte-index c.loop-byte-test.true c.if-byte-eq32.true

pub returns : goal.returns
returns c =
    is_a_word c.args.text.now c.loop-byte.byte-index (omega (arith, eqb-false (length c.args.text.now) 0 (sym c.is_empty.ensures ∙ c.if-is_empty.false))) (omega arith) c.loop-byte.invariant
