use Rattle.std.proofs.Common.{◌≡◌, ◌-◌, [], length}
use Rattle.vl_token.specs.View.{tokens_of}
use Rattle.vl_grammar.specs.Reading.{items}
use Rattle.vl_ddl.specs.Words.{is_comma}
use Rattle.vl_ddl.specs.Grammar.{column_names, has_key}
use Rattle.vl_ddl.specs.Reading.{part_at}
use Rattle.vl_ddl.specs.Seen.{Holds}
use Rattle.vl_ddl.proofs.parts.part_list.Given as goal

abbrev pub invariant-loop : goal.invariant-loop
invariant-loop l = record {
  read : items is_comma (λ before rest. part_at l.wide (column_names before) (has_key before) rest) (length l.fn.tokens - l.counter) l.list.items (tokens_of l.rest)
      ≡ items is_comma (λ before rest. part_at l.wide (column_names before) (has_key before) rest) (length l.fn.tokens) [] (tokens_of l.fn.tokens);
  seen : Holds l.seen (column_names l.list.items);
  keyed : l.has_key ≡ has_key l.list.items;
}
