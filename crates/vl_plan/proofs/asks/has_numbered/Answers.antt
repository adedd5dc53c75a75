use Rattle.std.proofs.Common.{◌∙◌}
use Rattle.vl_plan.proofs.Asking.{numbered_is}
use Rattle.vl_plan.proofs.asks.has_numbered.Goals as goal

pub returns : goal.returns
returns c = c.any_numbered.ensures ∙ numbered_is c.args.catalog.now c.args.table.now c.args.number c.as_slice.result.now c.as_slice.ensures
