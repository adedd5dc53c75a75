use Rattle.std.proofs.Common.{◌≡◌, ◌-◌, ◌≤◌, ◌++◌, length}
use Rattle.vl_token.specs.Lexical.{unhexed}
use Rattle.vl_token.proofs.decode.unhex.Given as goal

abbrev pub invariant-loop : goal.invariant-loop
invariant-loop l = record { whole : l.bytes.items ++ unhexed l.rest ≡ unhexed l.digits; short : length l.rest ≤ length l.digits - l.counter }
