use Rattle.std.proofs.Common.{◌≡◌, ◌-◌, ◌++◌, length, drop}
use Rattle.vl_token.specs.Lexical.{unescaped}
use Rattle.vl_token.proofs.decode.unescape.Given as goal

abbrev pub invariant-loop-i : goal.invariant-loop-i
invariant-loop-i l = l.bytes.items ++ unescaped l.quote (drop l.i l.raw) ≡ unescaped l.quote l.raw

abbrev pub decreases-loop-i : goal.decreases-loop-i
decreases-loop-i l = length l.raw - l.i
