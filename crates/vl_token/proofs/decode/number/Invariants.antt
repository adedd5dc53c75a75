use Rattle.std.proofs.Common.{◌≡◌, drop}
use Rattle.vl_token.specs.Lexical.{number_after, number_in}
use Rattle.vl_token.proofs.decode.number.Given as goal

abbrev pub invariant-loop-digit : goal.invariant-loop-digit
invariant-loop-digit l = number_after l.n (drop l.digit-index l.digits) ≡ number_in l.digits
