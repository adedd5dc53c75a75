use Rattle.std.proofs.Common.{List, Result, Ok, map, ◌∙◌, ap, sym}
use Rattle.vl_values.specs.declared.cause.Cause.{Cause}
use Rattle.vl_values.specs.declared.value.Value.{Value}
use Rattle.vl_plan.specs.Targets.{stored_by}
use Rattle.vl_plan.proofs.Firsts.{handed_on}
use Rattle.vl_plan.proofs.Gathering.{gathered_first, gathered_more}
use Rattle.vl_plan.proofs.insert.row_of.Goals as goal

pub returns-in_err-value-clause-refused : goal.returns-in_err-value-clause-refused
returns-in_err-value-clause-refused c =
    handed_on c.from_residual.result c.in_err-value.field-0.0 _ c.from_residual.ensures.1
    (gathered_first (stored_by c.args.row.now) c.args.targets.now c.loop-target.target-index c.target-item.result
    c.loop-target.values.items c.in_err-value.field-0.0 c.loop-target-test.true c.target-item.is c.loop-target.invariant c.in_err-value.ensures.refused)

pub loop-target-preserved : goal.loop-target-preserved
loop-target-preserved c =
    gathered_more (stored_by c.args.row.now) c.args.targets.now c.loop-target.target-index c.target-item.result
    c.loop-target.values.items c.in_ok-value.value c.loop-target-test.true c.target-item.is c.loop-target.invariant c.in_ok-value.ensures.value
    ∙ ap (λ (vs : List Value). let rs : List (Result Value Cause) = map (λ (v : Value). Ok v) vs in rs) (sym c.in-Ok-push.ensures.items)
