use Rattle.std.proofs.Common.{◌≡◌, ◌-◌, []}
use Rattle.vl_token.specs.View.{tokens_of}
use Rattle.vl_grammar.specs.Reading.{items}
use Rattle.vl_sql.proofs.list.members.Given as goal

abbrev pub invariant-loop : goal.invariant-loop
invariant-loop g l =
    items g.M.Member.is_separator (λ _ rest. g.M.Member.member_at rest) (l.most - l.counter) l.list.items (tokens_of l.rest)
    ≡ items g.M.Member.is_separator (λ _ rest. g.M.Member.member_at rest) l.most [] (tokens_of l.fn.tokens)
