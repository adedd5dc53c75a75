use Rattle.std.proofs.Common.{◌≡◌, ◌-◌, [], length}
use Rattle.vl_token.specs.View.{tokens_of}
use Rattle.vl_grammar.specs.Reading.{one, items}
use Rattle.vl_grammar.specs.Terminal.{new_name}
use Rattle.vl_ddl.specs.Words.{is_comma}
use Rattle.vl_ddl.specs.Seen.{Holds}
use Rattle.vl_ddl.proofs.columns.new_name_list.Given as goal

abbrev pub invariant-loop : goal.invariant-loop
invariant-loop l = record {
  read : items is_comma (λ before rest. one (new_name before) rest) (length l.fn.tokens - l.counter) l.list.items (tokens_of l.rest)
      ≡ items is_comma (λ before rest. one (new_name before) rest) (length l.fn.tokens) [] (tokens_of l.fn.tokens);
  seen : Holds l.seen l.list.items;
}
