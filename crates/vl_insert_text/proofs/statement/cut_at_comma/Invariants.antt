use Rattle.std.proofs.Common.{◌≡◌, ◌==◌, false, take, All}
use Rattle.vl_insert_text.proofs.statement.cut_at_comma.Given as goal

-- no comma so far
abbrev pub invariant-loop-at : goal.invariant-loop-at
invariant-loop-at l = All (λ b. (b == 44) ≡ false) (take l.at l.text)
