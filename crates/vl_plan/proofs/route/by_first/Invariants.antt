use Rattle.std.proofs.Common.{◌≡◌, None, map, take}
use Rattle.std.specs.Prelude.{filter}
use Rattle.vl_model.specs.Routes.{by_lookup, first_route}
use Rattle.vl_plan.specs.Kinds.{is_of_kind}
use Rattle.vl_plan.proofs.route.by_first.Given as goal

abbrev pub invariant-loop-number : goal.invariant-loop-number
invariant-loop-number l = first_route (map (by_lookup l.catalog l.tests) (filter (is_of_kind l.catalog l.unique) (take l.number-index l.lookups))) ≡ None
