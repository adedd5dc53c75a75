use Rattle.std.proofs.Common.{◌≡◌, ◌-◌, [], length}
use Rattle.vl_token.specs.View.{tokens_of}
use Rattle.vl_grammar.specs.Reading.{one, items}
use Rattle.vl_grammar.specs.Terminal.{name_of}
use Rattle.vl_ddl.specs.Words.{is_comma}
use Rattle.vl_ddl.proofs.columns.name_list.Given as goal

abbrev pub invariant-loop : goal.invariant-loop
invariant-loop l =
    items is_comma (λ _ rest. one name_of rest) (length l.fn.tokens - l.counter) l.list.items (tokens_of l.rest)
    ≡ items is_comma (λ _ rest. one name_of rest) (length l.fn.tokens) [] (tokens_of l.fn.tokens)
