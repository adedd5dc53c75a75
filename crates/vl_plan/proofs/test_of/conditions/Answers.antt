use Rattle.std.proofs.Common.{◌≡◌, ◌∷◌, [], List, map, subst}
use Rattle.vl_catalog.specs.declared.column.Column.{Column}
use Rattle.vl_model.specs.Columns.{column_tested}
use Rattle.vl_model.specs.Refusals.{IsFirst, unknown_among}
use Rattle.vl_plan.specs.Conditions.{IsConditionOf, resolved, test_resolved}
use Rattle.vl_plan.proofs.Firsts.{handed_on, pairs_more, passed_first, passed_more, unknown_of_spread}
use Rattle.vl_plan.proofs.Resolving.{resolved_is}
use Rattle.vl_plan.proofs.test_of.conditions.Goals as goal

pub returns-in_err-condition-clause-unknown : goal.returns-in_err-condition-clause-unknown
returns-in_err-condition-clause-unknown c =
    handed_on c.from_residual.result c.in_err-condition.field-0.0 _ c.from_residual.ensures.1
    (passed_first (λ xs. unknown_among c.args.table.now.columns (map column_tested xs))
    (unknown_of_spread c.args.table.now.columns column_tested) c.args.tests.now c.loop-test.test-index
    c.test-item.result c.in_err-condition.field-0.0 c.loop-test-test.true c.test-item.is c.loop-test.invariant.known
    c.in_err-condition.ensures.unknown)

pub loop-test-preserved : goal.loop-test-preserved
loop-test-preserved c = record {
  known =
      passed_more (λ xs. unknown_among c.args.table.now.columns (map column_tested xs))
      (unknown_of_spread c.args.table.now.columns column_tested) c.args.tests.now c.loop-test.test-index
      c.test-item.result c.loop-test-test.true c.test-item.is c.loop-test.invariant.known
      c.in_ok-condition.ensures.known;
  conditions = λ catalog.
      pairs_more (resolved catalog c.args.table.now) (test_resolved catalog c.args.table.now) c.args.tests.now c.loop-test.test-index
      c.test-item.result c.loop-test.conditions.items c.push.new.self.items c.in_ok-condition.condition c.loop-test-test.true c.test-item.is
      (c.loop-test.invariant.conditions catalog)
      (resolved_is catalog c.args.table.now c.test-item.result c.in_ok-condition.condition c.in_ok-condition.ensures.condition)
      c.in-Ok-push.ensures.items;
}
