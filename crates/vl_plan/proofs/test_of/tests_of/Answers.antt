use Rattle.std.proofs.Common.{[], List, map, refl, sym}
use Rattle.std.specs.List.{flat_map}
use Rattle.std.proofs.lemmas.List.Concat.{flat_map-append}
use Rattle.vl_model.specs.Refusals.{faults}
use Rattle.vl_plan.specs.declared.condition.Condition.{Condition}
use Rattle.vl_plan.specs.Conditions.{compared_in, planned_test, resolved}
use Rattle.vl_plan.proofs.Firsts.{both_empty, first_front, handed_on, passed_first, passed_more, pushed_more}
use Rattle.vl_plan.proofs.test_of.tests_of.Goals as goal

pub returns-in_err-test-clause-refused : goal.returns-in_err-test-clause-refused
returns-in_err-test-clause-refused c =
    handed_on c.from_residual.result c.in_err-test.field-0.0 _ c.from_residual.ensures.1
    (passed_first (flat_map (λ (it : Condition). faults (compared_in c.args.catalog.now c.args.table.now it))) (flat_map-append (λ (it : Condition). faults (compared_in c.args.catalog.now c.args.table.now it)))
    c.args.conditions.now c.loop-condition.condition-index c.condition-item.result c.in_err-test.field-0.0 c.loop-condition-test.true c.condition-item.is c.loop-condition.invariant.fit
    (first_front c.in_err-test.field-0.0 (faults (compared_in c.args.catalog.now c.args.table.now c.condition-item.result)) [] c.in_err-test.ensures.refused))

pub loop-condition-preserved : goal.loop-condition-preserved
loop-condition-preserved c = record {
  fit =
      passed_more (flat_map (λ (it : Condition). faults (compared_in c.args.catalog.now c.args.table.now it))) (flat_map-append (λ (it : Condition). faults (compared_in c.args.catalog.now c.args.table.now it)))
      c.args.conditions.now c.loop-condition.condition-index c.condition-item.result c.loop-condition-test.true c.condition-item.is c.loop-condition.invariant.fit
      (both_empty (faults (compared_in c.args.catalog.now c.args.table.now c.condition-item.result)) [] c.in_ok-test.ensures.fit refl);
  tests =
      pushed_more (λ (it : Condition). planned_test (resolved c.args.catalog.now c.args.table.now it)) c.args.conditions.now c.loop-condition.condition-index c.condition-item.result
      c.loop-condition.tests.items c.push.new.self.items c.in_ok-test.test c.loop-condition-test.true c.condition-item.is c.loop-condition.invariant.tests
      (sym c.in_ok-test.ensures.test) c.in-Ok-push.ensures.items;
}
