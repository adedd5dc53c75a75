use Rattle.std.proofs.Common.{◌≡◌, List, ◌∙◌, sym}
use Rattle.std.proofs.lemmas.Result.{IfErr-weaker, IfOk-weaker}
use Rattle.vl_values.specs.declared.value.Value.{Value}
use Rattle.vl_model.specs.Columns.{row_stored}
use Rattle.vl_model.specs.Refusals.{faults}
use Rattle.vl_plan.specs.Planned.{values_of}
use Rattle.vl_plan.proofs.Firsts.{first_same, handed_on}
use Rattle.vl_plan.proofs.Targeting.{same_rows, same_values}
use Rattle.vl_plan.proofs.insert.stored_rows.Goals as goal

pub returns-in_err-targets-clause-refused : goal.returns-in_err-targets-clause-refused
returns-in_err-targets-clause-refused c = handed_on c.from_residual.result c.in_err-targets.field-0.0 _ c.from_residual.ensures.1 (c.in_err-targets.ensures.memory _)

pub returns-clause-refused : goal.returns-clause-refused
returns-clause-refused c =
    IfErr-weaker c.rows_of.result _ _
    (λ cause h. first_same cause _ _
    (same_rows c.in_ok-targets.targets.items c.as_slice.result.now (λ (row : List Value). row_stored c.args.catalog.now c.args.table.now c.args.names.now row 0 c.args.table.now.columns) c.args.rows.now faults
    c.as_slice.ensures.value c.in_ok-targets.ensures.targets) h)
    c.rows_of.ensures.refused

pub returns-clause-fit : goal.returns-clause-fit
returns-clause-fit c =
    IfOk-weaker c.rows_of.result _ _
    (λ all h. sym
    (same_rows c.in_ok-targets.targets.items c.as_slice.result.now (λ (row : List Value). row_stored c.args.catalog.now c.args.table.now c.args.names.now row 0 c.args.table.now.columns) c.args.rows.now faults
    c.as_slice.ensures.value c.in_ok-targets.ensures.targets) ∙ h)
    c.rows_of.ensures.fit

pub returns-clause-rows : goal.returns-clause-rows
returns-clause-rows c =
    IfOk-weaker c.rows_of.result _ _
    (λ all h. h
    ∙ same_values c.in_ok-targets.targets.items c.as_slice.result.now (λ (row : List Value). row_stored c.args.catalog.now c.args.table.now c.args.names.now row 0 c.args.table.now.columns) c.args.rows.now values_of
    c.as_slice.ensures.value c.in_ok-targets.ensures.targets)
    c.rows_of.ensures.rows
