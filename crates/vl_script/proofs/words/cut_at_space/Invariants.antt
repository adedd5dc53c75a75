use Rattle.std.proofs.Common.{take}
use Rattle.vl_script.specs.Script.{HasNoSpace}
use Rattle.vl_script.proofs.words.cut_at_space.Given as goal

-- no space so far
abbrev pub invariant-loop-at : goal.invariant-loop-at
invariant-loop-at l = HasNoSpace (take l.at l.text)
