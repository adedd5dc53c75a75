use Rattle.std.proofs.Common.{[], ℕ, length, sym, ap, ◌∙◌, Ok, Err, arith}
use Rattle.std.proofs.lemmas.List.{length-map}
use Rattle.vl_token.specs.View.{tok, tokens_of}
use Rattle.vl_grammar.specs.Reading.{one, items}
use Rattle.vl_grammar.specs.Terminal.{name_of}
use Rattle.vl_grammar.proofs.Loop.{fails, ends, goes_on, past}
use Rattle.vl_ddl.specs.Words.{is_comma}
use Rattle.vl_ddl.proofs.columns.name_list.Goals as goal

pub returns-in-Err : goal.returns-in-Err
returns-in-Err c =
    fails is_comma (λ _ rest. one name_of rest) (length c.args.tokens.now) c.loop.counter c.loop.list.items (tokens_of c.loop.rest.now) _ c.in-Err.error
    c.loop.invariant c.loop-test.true c.in-Err.ensures

pub returns-in-None : goal.returns-in-None
returns-in-None c =
    ends is_comma (λ _ rest. one name_of rest) (length c.args.tokens.now) c.loop.counter c.loop.list.items (tokens_of c.loop.rest.now) _ c.in-Ok.read.0 (tokens_of c.in-Ok.read.1.now)
    c.loop.invariant c.loop-test.true c.in-Ok.ensures c.in-None.ensures
    ∙ ap (λ xs. Ok (xs, tokens_of c.in-Ok.read.1.now)) (sym c.in_ok-push.ensures.items)

pub loop-init : goal.loop-init
loop-init c = rw (c.in-Some.ensures, c.new-list.ensures.items) (ap (λ (n : ℕ). items is_comma (λ _ rest. one name_of rest) n [] (tokens_of c.args.tokens.now)) (omega arith))

pub loop-preserved : goal.loop-preserved
loop-preserved c =
    rw c.in_ok-push.ensures.items (goes_on is_comma (λ _ rest. one name_of rest) (length c.args.tokens.now) c.loop.counter c.loop.list.items (tokens_of c.loop.rest.now) _ c.in-Ok.read.0 (tokens_of c.in-Ok.read.1.now)
    (tokens_of c.in-Some-behind_comma.next.now) c.loop.invariant c.loop-test.true c.in-Ok.ensures c.in-Some-behind_comma.ensures)

pub returns : goal.returns
returns c =
    past is_comma (λ _ rest. one name_of rest) (length c.args.tokens.now) c.loop.counter c.loop.list.items (tokens_of c.loop.rest.now) _ c.loop.invariant (omega arith) ∙ ap (λ n. Err n) (length-map c.loop.rest.now tok)
