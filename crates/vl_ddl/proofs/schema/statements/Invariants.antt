use Rattle.std.proofs.Common.{◌≡◌, ◌-◌, [], length}
use Rattle.vl_token.specs.View.{tokens_of}
use Rattle.vl_ddl.specs.Reading.{schema_at}
use Rattle.vl_ddl.proofs.schema.statements.Given as goal

abbrev pub invariant-loop : goal.invariant-loop
invariant-loop l = schema_at l.wide (length l.fn.tokens - l.counter) l.list.items (tokens_of l.rest) ≡ schema_at l.wide (length l.fn.tokens) [] (tokens_of l.fn.tokens)
