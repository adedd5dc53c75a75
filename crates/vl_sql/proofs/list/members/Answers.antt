use Rattle.std.proofs.Common.{sym, ap, ◌∙◌, Ok, Err, arith}
use Rattle.std.proofs.lemmas.List.{length-map}
use Rattle.vl_token.specs.View.{tok, tokens_of}
use Rattle.vl_grammar.proofs.Loop.{fails, ends, goes_on, past}
use Rattle.vl_sql.proofs.list.members.Goals as goal

pub returns-in-Err : goal.returns-in-Err
returns-in-Err g c =
    fails g.M.Member.is_separator (λ _ rest. g.M.Member.member_at rest) c.args.most c.loop.counter c.loop.list.items (tokens_of c.loop.rest.now) _ c.in-Err.error
    c.loop.invariant c.loop-test.true c.in-Err.ensures

pub returns-in-None : goal.returns-in-None
returns-in-None g c =
    ends g.M.Member.is_separator (λ _ rest. g.M.Member.member_at rest) c.args.most c.loop.counter c.loop.list.items (tokens_of c.loop.rest.now) _ c.in-Ok.read.0 (tokens_of c.in-Ok.read.1.now)
    c.loop.invariant c.loop-test.true c.in-Ok.ensures c.in-None.ensures
    ∙ ap (λ xs. Ok (xs, tokens_of c.in-Ok.read.1.now)) (sym c.in_ok-push.ensures.items)

pub loop-preserved : goal.loop-preserved
loop-preserved g c =
    rw c.in_ok-push.ensures.items (goes_on g.M.Member.is_separator (λ _ rest. g.M.Member.member_at rest) c.args.most c.loop.counter c.loop.list.items (tokens_of c.loop.rest.now) _ c.in-Ok.read.0 (tokens_of c.in-Ok.read.1.now)
    (tokens_of c.in-Some-behind_separator.next.now) c.loop.invariant c.loop-test.true c.in-Ok.ensures c.in-Some-behind_separator.ensures)

pub returns : goal.returns
returns g c =
    past g.M.Member.is_separator (λ _ rest. g.M.Member.member_at rest) c.args.most c.loop.counter c.loop.list.items (tokens_of c.loop.rest.now) _ c.loop.invariant (omega arith) ∙ ap (λ n. Err n) (length-map c.loop.rest.now tok)
