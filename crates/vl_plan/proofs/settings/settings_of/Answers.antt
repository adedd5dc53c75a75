use Rattle.std.proofs.Common.{◌≡◌, ℕ, List, Result, map, ap, sym, subst, ◌∙◌}
use Rattle.std.proofs.lemmas.Result.{IfErr-weaker, IfOk-weaker}
use Rattle.vl_values.specs.declared.cause.Cause.{Cause}
use Rattle.vl_values.specs.declared.value.Value.{Value}
use Rattle.vl_catalog.specs.declared.column.Column.{Column}
use Rattle.vl_model.specs.Columns.{set_stored}
use Rattle.vl_model.specs.Refusals.{IsFirst, faults}
use Rattle.vl_plan.proofs.Assigning.{sets_are, sets_fit}
use Rattle.vl_plan.proofs.settings.settings_of.Goals as goal

pub returns-clause-refused : goal.returns-clause-refused
returns-clause-refused c =
    IfErr-weaker c.settings_in.result _ _
    (λ cause h. subst (λ (cs : List Column). IsFirst cause (faults (map (λ (set : ℕ × Result Value Cause). set.1) (set_stored c.args.catalog.now c.args.table.now c.args.assignments.now 0 cs)))) c.as_slice.ensures h)
    c.settings_in.ensures.refused

pub returns-clause-fit : goal.returns-clause-fit
returns-clause-fit c =
    IfOk-weaker c.settings_in.result _ _
    (λ settings h. sets_fit _ settings.items (ap (set_stored c.args.catalog.now c.args.table.now c.args.assignments.now 0) (sym c.as_slice.ensures) ∙ h))
    c.settings_in.ensures.settings

pub returns-clause-settings : goal.returns-clause-settings
returns-clause-settings c =
    IfOk-weaker c.settings_in.result _ _
    (λ settings h. sets_are _ settings.items (ap (set_stored c.args.catalog.now c.args.table.now c.args.assignments.now 0) (sym c.as_slice.ensures) ∙ h))
    c.settings_in.ensures.settings
