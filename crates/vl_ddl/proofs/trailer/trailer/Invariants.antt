use Rattle.std.proofs.Common.{◌≡◌, ◌+◌, ◌≤◌, false, length}
use Rattle.vl_token.specs.View.{tokens_of}
use Rattle.vl_ddl.specs.Reading.{trailer_at}
use Rattle.vl_ddl.proofs.trailer.trailer.Given as goal

abbrev pub invariant-loop : goal.invariant-loop
invariant-loop l = record {
  read : trailer_at l.depth l.some (tokens_of l.rest) ≡ trailer_at 0 false (tokens_of l.fn.tokens);
  short : l.counter + length l.rest ≤ length l.fn.tokens;
  small : l.depth + length l.rest ≤ length l.fn.tokens;
}
