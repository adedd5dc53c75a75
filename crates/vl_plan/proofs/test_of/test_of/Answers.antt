use Rattle.std.proofs.Common.{◌≡◌, Bool, Ok, List, map, subst, sym, ap, ◌∙◌}
use Rattle.vl_values.specs.declared.value.Value.{Value}
use Rattle.vl_model.specs.Columns.{is_numbered}
use Rattle.vl_model.specs.Refusals.{IsFirst, faults}
use Rattle.vl_plan.specs.Conditions.{compared_by, compared_in}
use Rattle.vl_plan.specs.Planned.{in_order}
use Rattle.vl_plan.proofs.Firsts.{handed_on}
use Rattle.vl_plan.proofs.Gathering.{gathered_all}
use Rattle.vl_plan.proofs.test_of.test_of.Goals as goal
use Rattle.vl_plan.proofs.test_of.test_of.Goals.{After-in_order}

pub returns-in_err-values-clause-refused : goal.returns-in_err-values-clause-refused
returns-in_err-values-clause-refused c =
    handed_on c.from_residual.result c.in_err-values.field-0.0 _ c.from_residual.ensures.1
    (subst (λ (b : Bool). IsFirst c.in_err-values.field-0.0 (faults (map (compared_by b c.args.condition.now.column.now) c.args.condition.now.literals.now))) c.asks_of-asks.ensures.numbered
    c.in_err-values.ensures.refused)

fit : (c : After-in_order) → compared_in c.args.catalog.now c.args.table.now c.args.condition.now ≡ map (λ (v : Value). Ok v) c.in_ok-values.values.items
fit c =
    ap (λ (b : Bool). map (compared_by b c.args.condition.now.column.now) c.args.condition.now.literals.now) (sym c.asks_of-asks.ensures.numbered)
    ∙ c.in_ok-values.ensures.values

pub returns-clause-fit : goal.returns-clause-fit
returns-clause-fit c = (gathered_all _ c.in_ok-values.values.items (fit c)).0

pub returns-clause-test : goal.returns-clause-test
returns-clause-test c =
    let values = c.in_order.ensures ∙ ap in_order (sym (gathered_all _ c.in_ok-values.values.items (fit c)).1) in
    λ i. record { column = c.args.condition.now.number; values = values i }
