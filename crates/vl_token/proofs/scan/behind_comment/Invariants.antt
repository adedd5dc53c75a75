use Rattle.std.proofs.Common.{◌≡◌, drop}
use Rattle.vl_token.specs.Lexical.{comment_at}
use Rattle.vl_token.proofs.scan.behind_comment.Given as goal

abbrev pub invariant-loop-i : goal.invariant-loop-i
invariant-loop-i l = comment_at (drop l.i l.bytes) ≡ comment_at l.bytes
