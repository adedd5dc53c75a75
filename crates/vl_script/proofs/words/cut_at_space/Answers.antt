use Rattle.std.proofs.Common.{◌≡◌, ◌==◌, false, arith}
use Rattle.std.proofs.lemmas.Bool.{ne_eqb}
use Rattle.std.proofs.lemmas.List.Elements.{All-more}
use Rattle.vl_script.proofs.Cuts.{space_none}
use Rattle.vl_script.proofs.words.cut_at_space.Goals as goal

pub loop-at-preserved : goal.loop-at-preserved
loop-at-preserved c =
    All-more (λ b. (b == 32) ≡ false) c.args.text.now c.loop-at.at 0 c.loop-at-test.true c.loop-at.invariant (ne_eqb _ 32 c.if-byte-eq32.false)

pub returns-clause-none : goal.returns-clause-none
returns-clause-none c = space_none c.args.text.now c.loop-at.at (omega arith) c.loop-at.invariant
