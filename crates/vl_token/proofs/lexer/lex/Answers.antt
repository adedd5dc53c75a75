use Rattle.std.proofs.Common.{ℕ, ◌-◌, ◌+◌, ◌++◌, length, map, sym, ap, ◌∙◌}
use Rattle.vl_token.specs.Lexical.{cut_within}
use Rattle.vl_token.specs.View.{tokens_of}
use Rattle.vl_token.proofs.Scanning.{turns_left}
use Rattle.vl_token.proofs.lexer.lex.Goals as goal

pub returns-in-None-clause-tokens : goal.returns-in-None-clause-tokens
returns-in-None-clause-tokens c =
    let n = length c.args.text.now - (c.loop.counter + 1) in
    (rw c.in-None.is at (c.in_ok-step.ensures n)).0
    ∙ ap (λ (m : ℕ). tokens_of c.loop.lexed.tokens.items ++ map (λ p. p.0) (cut_within m c.loop.rest.now)) (sym (turns_left (length c.args.text.now) c.loop.counter c.loop-test.true)) ∙ c.loop.invariant.tokens

pub returns-in-None-clause-left : goal.returns-in-None-clause-left
returns-in-None-clause-left c =
    let n = length c.args.text.now - (c.loop.counter + 1) in
    (rw c.in-None.is at (c.in_ok-step.ensures n)).1
    ∙ ap (λ (m : ℕ). c.loop.lexed.left.items ++ map (λ p. p.1) (cut_within m c.loop.rest.now)) (sym (turns_left (length c.args.text.now) c.loop.counter c.loop-test.true)) ∙ c.loop.invariant.left

pub loop-preserved : goal.loop-preserved
loop-preserved c =
    let n = length c.args.text.now - (c.loop.counter + 1) in
    let step = rw c.in-Some.is at (c.in_ok-step.ensures n) in
    record {
      tokens = step.0 ∙ ap (λ (m : ℕ). tokens_of c.loop.lexed.tokens.items ++ map (λ p. p.0) (cut_within m c.loop.rest.now)) (sym (turns_left (length c.args.text.now) c.loop.counter c.loop-test.true)) ∙ c.loop.invariant.tokens;
      left = step.1 ∙ ap (λ (m : ℕ). c.loop.lexed.left.items ++ map (λ p. p.1) (cut_within m c.loop.rest.now)) (sym (turns_left (length c.args.text.now) c.loop.counter c.loop-test.true)) ∙ c.loop.invariant.left;
    }
