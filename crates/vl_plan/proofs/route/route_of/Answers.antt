use Rattle.std.proofs.Common.{Option, Some, None, ap, sym, ◌∙◌}
use Rattle.std.specs.Prelude.{unwrap_or}
use Rattle.vl_model.specs.declared.route.Route.{Route}
use Rattle.vl_model.specs.declared.route.Route.TheVariants as routes
use Rattle.vl_plan.proofs.Routing.{route_left, route_unique}
use Rattle.vl_plan.proofs.route.route_of.Goals as goal

pub returns-in-Some-2 : goal.returns-in-Some-2
returns-in-Some-2 c =
    route_unique c.args.catalog.now c.args.table.now c.args.tests.now c.as_slice-lookups.result.now c.in-Some-2.route c.in_ok-route.field-0 c.in_ok-route-2.field-0
    c.as_slice-lookups.ensures c.in_ok-route.ensures c.in_default.is c.in_ok-route-2.ensures c.in-Some-2.is

pub returns-in-Some-3 : goal.returns-in-Some-3
returns-in-Some-3 c =
    sym (ap (λ (r : Option Route). unwrap_or r routes.All) c.in-Some-3.is)
    ∙ route_left c.args.catalog.now c.args.table.now c.args.tests.now c.as_slice-lookups.result.now c.in_ok-route.field-0 c.in_ok-route-2.field-0 c.in_ok-route-3.field-0
    c.as_slice-lookups.ensures c.in_ok-route.ensures c.in_default.is c.in_ok-route-2.ensures c.in_default-2.is c.in_ok-route-3.ensures

pub returns-in-None : goal.returns-in-None
returns-in-None c =
    sym (ap (λ (r : Option Route). unwrap_or r routes.All) c.in-None.is)
    ∙ route_left c.args.catalog.now c.args.table.now c.args.tests.now c.as_slice-lookups.result.now c.in_ok-route.field-0 c.in_ok-route-2.field-0 c.in_ok-route-3.field-0
    c.as_slice-lookups.ensures c.in_ok-route.ensures c.in_default.is c.in_ok-route-2.ensures c.in_default-2.is c.in_ok-route-3.ensures
