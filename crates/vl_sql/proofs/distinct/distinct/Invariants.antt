use Rattle.std.proofs.Common.{◌≡◌, ◌-◌, [], length, map}
use Rattle.vl_token.specs.View.{tokens_of}
use Rattle.vl_grammar.specs.Reading.{items}
use Rattle.vl_sql.specs.Reading.{is_comma, named_at}
use Rattle.vl_sql.specs.Seen.{Holds}
use Rattle.vl_sql.proofs.distinct.distinct.Given as goal

abbrev pub invariant-loop : goal.invariant-loop
invariant-loop g l = record {
  read : items is_comma (λ before rest. named_at g.N.Named.behind_name_at (map g.N.Named.name_in before) rest) (length l.fn.tokens - l.counter) l.list.items (tokens_of l.rest)
      ≡ items is_comma (λ before rest. named_at g.N.Named.behind_name_at (map g.N.Named.name_in before) rest) (length l.fn.tokens) [] (tokens_of l.fn.tokens);
  seen : Holds l.seen (map g.N.Named.name_in l.list.items);
}
