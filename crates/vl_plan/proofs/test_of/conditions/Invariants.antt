use Rattle.std.proofs.Common.{◌≡◌, [], map, take}
use Rattle.vl_catalog.specs.declared.catalog.Catalog.{Catalog}
use Rattle.vl_model.specs.Columns.{column_tested}
use Rattle.vl_model.specs.Refusals.{unknown_among}
use Rattle.vl_plan.specs.Conditions.{resolved, test_resolved}
use Rattle.vl_plan.proofs.test_of.conditions.Given as goal

abbrev pub invariant-loop-test : goal.invariant-loop-test
invariant-loop-test l = record {
  known : unknown_among l.table.columns (map column_tested (take l.test-index l.tests)) ≡ [];
  conditions : (catalog : Catalog) → map (resolved catalog l.table) l.conditions.items ≡ map (test_resolved catalog l.table) (take l.test-index l.tests);
}
