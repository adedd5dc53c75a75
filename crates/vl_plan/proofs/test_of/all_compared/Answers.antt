use Rattle.std.proofs.Common.{List, Result, Ok, map, ◌∙◌, ap, sym}
use Rattle.vl_values.specs.declared.cause.Cause.{Cause}
use Rattle.vl_values.specs.declared.value.Value.{Value}
use Rattle.vl_plan.specs.Conditions.{compared_by}
use Rattle.vl_plan.proofs.Firsts.{handed_on}
use Rattle.vl_plan.proofs.Gathering.{gathered_first, gathered_more}
use Rattle.vl_plan.proofs.test_of.all_compared.Goals as goal

pub returns-in_err-value-clause-refused : goal.returns-in_err-value-clause-refused
returns-in_err-value-clause-refused c =
    handed_on c.from_residual.result c.in_err-value.field-0.0 _ c.from_residual.ensures.1
    (gathered_first (compared_by c.args.asks.numbered c.args.column.now) c.args.literals.now c.loop-literal.literal-index c.literal-item.result
    c.loop-literal.values.items c.in_err-value.field-0.0 c.loop-literal-test.true c.literal-item.is c.loop-literal.invariant c.in_err-value.ensures.refused)

pub loop-literal-preserved : goal.loop-literal-preserved
loop-literal-preserved c =
    gathered_more (compared_by c.args.asks.numbered c.args.column.now) c.args.literals.now c.loop-literal.literal-index c.literal-item.result
    c.loop-literal.values.items c.in_ok-value.value c.loop-literal-test.true c.literal-item.is c.loop-literal.invariant c.in_ok-value.ensures.value
    ∙ ap (λ (vs : List Value). let rs : List (Result Value Cause) = map (λ (v : Value). Ok v) vs in rs) (sym c.in-Ok-push.ensures.items)
