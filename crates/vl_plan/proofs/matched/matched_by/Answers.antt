use Rattle.std.proofs.Common.{◌≡◌, ℕ, List, Result, map, ap, sym, ◌∙◌}
use Rattle.std.specs.List.{flat_map}
use Rattle.vl_values.specs.declared.cause.Cause.{Cause}
use Rattle.vl_values.specs.declared.test.Test.{Test}
use Rattle.vl_values.specs.declared.value.Value.{Value}
use Rattle.vl_sql.specs.declared.test.Test.{Test as Written}
use Rattle.vl_model.specs.Refusals.{faults}
use Rattle.vl_model.specs.Routes.{route_of}
use Rattle.vl_plan.specs.declared.condition.Condition.{Condition}
use Rattle.vl_plan.specs.Conditions.{compared_in, planned_test, resolved, test_resolved}
use Rattle.vl_plan.specs.Planned.{test_of}
use Rattle.vl_plan.proofs.Firsts.{first_same, handed_on}
use Rattle.vl_plan.proofs.Matching.{same_flat, same_map}
use Rattle.vl_plan.proofs.matched.matched_by.Goals as goal

pub returns-in_err-tests-clause-refused : goal.returns-in_err-tests-clause-refused
returns-in_err-tests-clause-refused c =
    handed_on c.from_residual.result c.in_err-tests.field-0.0 _ c.from_residual.ensures.1
    (λ tests same. first_same c.in_err-tests.field-0.0 _ _
    (ap (flat_map (λ (it : Condition). faults (compared_in c.args.catalog.now c.args.table.now it))) c.as_slice.ensures.value
    ∙ same_flat (resolved c.args.catalog.now c.args.table.now) (test_resolved c.args.catalog.now c.args.table.now) (λ (pair : ℕ × List (Result Value Cause)). faults pair.1) c.args.conditions.items tests same)
    c.in_err-tests.ensures.refused)

pub returns-clause-fit : goal.returns-clause-fit
returns-clause-fit c = λ tests same.
    sym
    (ap (flat_map (λ (it : Condition). faults (compared_in c.args.catalog.now c.args.table.now it))) c.as_slice.ensures.value
    ∙ same_flat (resolved c.args.catalog.now c.args.table.now) (test_resolved c.args.catalog.now c.args.table.now) (λ (pair : ℕ × List (Result Value Cause)). faults pair.1) c.args.conditions.items tests same)
    ∙ c.in_ok-tests.ensures.fit

pub returns-clause-pred : goal.returns-clause-pred
returns-clause-pred c = λ tests same.
    let all : c.from_vec.result ≡ map (test_of c.args.catalog.now c.args.table.now) tests =
    c.from_vec.ensures ∙ c.in_ok-tests.ensures.tests
    ∙ ap (map (λ (it : Condition). planned_test (resolved c.args.catalog.now c.args.table.now it))) c.as_slice.ensures.value
    ∙ same_map (resolved c.args.catalog.now c.args.table.now) (test_resolved c.args.catalog.now c.args.table.now) planned_test c.args.conditions.items tests same in
    λ i. record { table = c.args.number; tests = all i }

pub returns-clause-route : goal.returns-clause-route
returns-clause-route c = λ tests same.
    c.in-Ok.ensures
    ∙ ap (route_of c.args.catalog.now c.args.table.now)
    (c.as_slice-2.ensures.value ∙ c.in_ok-tests.ensures.tests
    ∙ ap (map (λ (it : Condition). planned_test (resolved c.args.catalog.now c.args.table.now it))) c.as_slice.ensures.value
    ∙ same_map (resolved c.args.catalog.now c.args.table.now) (test_resolved c.args.catalog.now c.args.table.now) planned_test c.args.conditions.items tests same)
