use Rattle.std.proofs.Common.{◌≡◌, [], map, take}
use Rattle.vl_model.specs.Refusals.{unknown_among}
use Rattle.vl_plan.proofs.columns.known_set.Given as goal

abbrev pub invariant-loop-assignment : goal.invariant-loop-assignment
invariant-loop-assignment l = unknown_among l.table.columns (map (λ assignment. assignment.column) (take l.assignment-index l.assignments)) ≡ []
