use Rattle.std.proofs.Common.{◌≡◌, [], map, take}
use Rattle.std.specs.List.{flat_map}
use Rattle.vl_model.specs.Refusals.{faults}
use Rattle.vl_plan.specs.Planned.{values_of}
use Rattle.vl_plan.specs.Targets.{stored_by}
use Rattle.vl_plan.proofs.insert.rows_of.Given as goal

abbrev pub invariant-loop-row : goal.invariant-loop-row
invariant-loop-row l = record {
  fit : flat_map (λ row. faults (map (stored_by row) l.targets)) (take l.row-index l.rows) ≡ [];
  rows : l.all.items ≡ map (λ row. values_of (map (stored_by row) l.targets)) (take l.row-index l.rows);
}
