use Rattle.std.proofs.Common.{◌≡◌, ◌++◌, drop}
use Rattle.vl_load.specs.Text.{joined}
use Rattle.vl_load.proofs.text.add.Given as goal

abbrev pub invariant-loop-part : goal.invariant-loop-part
invariant-loop-part l = l.text.items ++ joined (drop l.part-index l.parts) ≡ l.fn.text.items ++ joined l.parts
