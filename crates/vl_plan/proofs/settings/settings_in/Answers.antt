use Rattle.std.proofs.Common.{arith}
use Rattle.vl_plan.proofs.Assigning.{sets_all, sets_first, sets_more}
use Rattle.vl_plan.proofs.Firsts.{handed_on}
use Rattle.vl_plan.proofs.settings.settings_in.Goals as goal

pub returns-in_err-one-clause-refused : goal.returns-in_err-one-clause-refused
returns-in_err-one-clause-refused c =
    handed_on c.from_residual.result c.in_err-one.field-0.0 _ c.from_residual.ensures.1
    (sets_first c.args.catalog.now c.args.table.now c.args.assignments.now c.args.columns.now c.loop-number.number c.index-columns-number.result
    c.loop-number.settings.items c.in_err-one.field-0.0 c.loop-number-test.true c.index-columns-number.is c.loop-number.invariant c.in_err-one.ensures.refused)

pub returns-in_err-push_some-clause-refused : goal.returns-in_err-push_some-clause-refused
returns-in_err-push_some-clause-refused c =
    handed_on c.from_residual-in_err-push_some.result c.in_err-push_some.field-0.0 _ c.from_residual-in_err-push_some.ensures.1 (c.in_err-push_some.ensures.memory _)

pub loop-number-preserved : goal.loop-number-preserved
loop-number-preserved c =
    sets_more c.args.catalog.now c.args.table.now c.args.assignments.now c.args.columns.now c.loop-number.number c.index-columns-number.result
    c.loop-number.settings.items c.push_some.new.settings.items c.in_ok-one.one c.loop-number-test.true c.index-columns-number.is c.loop-number.invariant
    c.in_ok-one.ensures.setting c.in_ok-push_some.ensures.pushed

pub returns-clause-settings : goal.returns-clause-settings
returns-clause-settings c =
    sets_all c.args.catalog.now c.args.table.now c.args.assignments.now c.args.columns.now c.loop-number.number c.loop-number.settings.items (omega arith) c.loop-number.invariant
