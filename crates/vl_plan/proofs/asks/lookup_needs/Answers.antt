use Rattle.std.proofs.Common.{◌∙◌}
use Rattle.vl_plan.proofs.Asking.{lookup_needs_is}
use Rattle.vl_plan.proofs.asks.lookup_needs.Goals as goal

pub returns : goal.returns
returns c = c.any_needs.ensures ∙ lookup_needs_is c.args.catalog.now c.args.table.now c.args.number c.as_slice.result.now c.as_slice.ensures
