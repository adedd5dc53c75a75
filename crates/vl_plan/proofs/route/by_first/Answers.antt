use Rattle.std.proofs.Common.{get_or, sym, ◌∙◌}
use Rattle.vl_model.specs.Routes.{by_lookup}
use Rattle.vl_plan.specs.Kinds.{is_of_kind}
use Rattle.vl_plan.proofs.Routing.{as_read, no_route_here, route_here}
use Rattle.vl_plan.proofs.route.by_first.Goals as goal

pub returns-in-Ok-Some : goal.returns-in-Ok-Some
returns-in-Ok-Some c =
    sym
    (route_here (by_lookup c.args.catalog.now c.args.tests.now) (is_of_kind c.args.catalog.now c.args.unique) c.args.lookups.now c.loop-number.number-index
    (get_or c.args.lookups.now c.loop-number.number-index 0) c.in-Ok-Some.route c.loop-number-test.true (as_read _ _ c.loop-number-test.true) c.loop-number.invariant
    (sym c.in-Ok-Some.ensures ∙ c.in-Ok-Some.field-0-is))

pub loop-number-preserved : goal.loop-number-preserved
loop-number-preserved c =
    no_route_here (by_lookup c.args.catalog.now c.args.tests.now) (is_of_kind c.args.catalog.now c.args.unique) c.args.lookups.now c.loop-number.number-index
    (get_or c.args.lookups.now c.loop-number.number-index 0) c.loop-number-test.true (as_read _ _ c.loop-number-test.true) c.loop-number.invariant
    (sym c.in-Ok-None.ensures ∙ c.in-Ok-None.field-0-is)
