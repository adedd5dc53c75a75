use Rattle.std.proofs.Common.{◌≡◌, [], map, take}
use Rattle.vl_model.specs.Refusals.{unknown_among}
use Rattle.vl_plan.specs.Planned.{number_in}
use Rattle.vl_plan.proofs.columns.numbers_of.Given as goal

abbrev pub invariant-loop-name : goal.invariant-loop-name
invariant-loop-name l = record {
  known : unknown_among l.table.columns (take l.name-index l.names) ≡ [];
  numbers : l.numbers.items ≡ map (number_in l.table.columns) (take l.name-index l.names);
}
