use Rattle.std.proofs.Common.{◌∙◌, ◌++◌, ◌∷◌, sym, length}
use Rattle.std.proofs.lemmas.Bool.{eqb-true}
use Rattle.vl_script.proofs.Cuts.{one_rest, cut_once, no_front_word}
use Rattle.vl_script.proofs.words.first_word.Goals as goal

pub returns-in_default-cut_at_space-clause-only : goal.returns-in_default-cut_at_space-clause-only
returns-in_default-cut_at_space-clause-only c word rest is e =
    absurd (c.in_default-cut_at_space.ensures.none word rest (one_rest c.args.text.now c.args.front.now c.in-Some.behind.now (word ++ 32 ∷ rest) c.in-Some.ensures.some e))

pub returns-then-is_empty-clause-only : goal.returns-then-is_empty-clause-only
returns-then-is_empty-clause-only c word rest is e =
    absurd (no_front_word c.in-Some-cut_at_space.word.now c.in-Some-cut_at_space.rest.now word rest
    (sym c.in-Some-cut_at_space.ensures.some ∙ one_rest c.args.text.now c.args.front.now c.in-Some.behind.now (word ++ 32 ∷ rest) c.in-Some.ensures.some e)
    c.in-Some-cut_at_space.ensures.first
    (eqb-true (length c.in-Some-cut_at_space.word.now) 0 (sym c.is_empty.ensures ∙ c.if-is_empty.true))
    is)

pub returns-clause-only : goal.returns-clause-only
returns-clause-only c word rest is e =
    cut_once c.in-Some-cut_at_space.word.now c.in-Some-cut_at_space.rest.now word rest
    (sym c.in-Some-cut_at_space.ensures.some ∙ one_rest c.args.text.now c.args.front.now c.in-Some.behind.now (word ++ 32 ∷ rest) c.in-Some.ensures.some e)
    c.in-Some-cut_at_space.ensures.first is.plain
