use Rattle.std.proofs.Common.{◌≡◌, ◌-◌, drop, length}
use Rattle.vl_token.specs.Lexical.{closing, later}
use Rattle.vl_token.proofs.scan.closing.Given as goal

abbrev pub invariant-loop-i : goal.invariant-loop-i
invariant-loop-i l = later l.i (closing l.quote (drop l.i l.bytes)) ≡ closing l.quote l.bytes

abbrev pub decreases-loop-i : goal.decreases-loop-i
decreases-loop-i l = length l.bytes - l.i
