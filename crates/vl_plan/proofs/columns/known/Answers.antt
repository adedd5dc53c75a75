use Rattle.std.proofs.Common.{arith}
use Rattle.vl_model.specs.Refusals.{unknown_among}
use Rattle.vl_plan.proofs.Firsts.{handed_on, passed_first, passed_more, unknown_spread}
use Rattle.vl_plan.proofs.columns.known.Goals as goal

pub returns-in_err-number_of-clause-unknown : goal.returns-in_err-number_of-clause-unknown
returns-in_err-number_of-clause-unknown c =
    handed_on c.from_residual.result c.in_err-number_of.field-0.0 _ c.from_residual.ensures.1
    (passed_first (unknown_among c.args.table.now.columns) (unknown_spread c.args.table.now.columns) c.args.names.now c.loop-name.name-index
    c.name-item.result c.in_err-number_of.field-0.0 c.loop-name-test.true c.name-item.is c.loop-name.invariant c.in_err-number_of.ensures.unknown)

pub loop-name-preserved : goal.loop-name-preserved
loop-name-preserved c =
    passed_more (unknown_among c.args.table.now.columns) (unknown_spread c.args.table.now.columns) c.args.names.now c.loop-name.name-index
    c.name-item.result c.loop-name-test.true c.name-item.is c.loop-name.invariant c.in_ok-number_of.ensures.known
