use Rattle.std.proofs.Common.{take}
use Rattle.vl_script.specs.Script.{HasNoSpace}
use Rattle.vl_script.proofs.words.is_word.Given as goal

-- no space so far
abbrev pub invariant-loop-byte : goal.invariant-loop-byte
invariant-loop-byte l = HasNoSpace (take l.byte-index l.text)
