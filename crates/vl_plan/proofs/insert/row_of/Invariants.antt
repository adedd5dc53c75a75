use Rattle.std.proofs.Common.{◌≡◌, Ok, map, take}
use Rattle.vl_plan.specs.Targets.{stored_by}
use Rattle.vl_plan.proofs.insert.row_of.Given as goal

abbrev pub invariant-loop-target : goal.invariant-loop-target
invariant-loop-target l = map (stored_by l.row) (take l.target-index l.targets) ≡ map (λ value. Ok value) l.values.items
