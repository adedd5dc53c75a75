use Rattle.std.proofs.Common.{◌≡◌, [], map, take}
use Rattle.std.specs.List.{flat_map}
use Rattle.vl_model.specs.Refusals.{faults}
use Rattle.vl_plan.specs.Conditions.{compared_in, planned_test, resolved}
use Rattle.vl_plan.proofs.test_of.tests_of.Given as goal

abbrev pub invariant-loop-condition : goal.invariant-loop-condition
invariant-loop-condition l = record {
  fit : flat_map (λ condition. faults (compared_in l.catalog l.table condition)) (take l.condition-index l.conditions) ≡ [];
  tests : l.tests.items ≡ map (λ condition. planned_test (resolved l.catalog l.table condition)) (take l.condition-index l.conditions);
}
