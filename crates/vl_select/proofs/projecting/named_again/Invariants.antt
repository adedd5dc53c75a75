use Rattle.std.proofs.Common.{◌≡◌, ◌++◌, drop}
use Rattle.vl_select.specs.Picking.{named_again}
use Rattle.vl_select.proofs.projecting.named_again.Given as goal

abbrev pub invariant-loop-n : goal.invariant-loop-n
invariant-loop-n l = named_again l.columns ≡ l.again.items ++ named_again (drop l.n l.columns)
