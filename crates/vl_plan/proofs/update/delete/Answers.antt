use Rattle.std.proofs.Common.{[], ◌++◌, ◌∙◌}
use Rattle.vl_plan.specs.declared.plan.Plan.TheVariants as plans
use Rattle.vl_plan.proofs.Firsts.{both_empty, first_behind, first_front, handed_on}
use Rattle.vl_plan.proofs.update.delete.Goals as goal

pub returns-in_err-conditions-clause-refused : goal.returns-in_err-conditions-clause-refused
returns-in_err-conditions-clause-refused c =
    handed_on c.from_residual.result c.in_err-conditions.field-0.0 _ c.from_residual.ensures.1 (λ t. first_front c.in_err-conditions.field-0.0 _ _ c.in_err-conditions.ensures.unknown)

pub returns-in_err-matched-clause-refused : goal.returns-in_err-matched-clause-refused
returns-in_err-matched-clause-refused c =
    handed_on c.from_residual-in_err-matched.result c.in_err-matched.field-0.0 _ c.from_residual-in_err-matched.ensures.1
    (λ t. first_behind c.in_err-matched.field-0.0 _ _ c.in_ok-conditions.ensures.known
    (first_front c.in_err-matched.field-0.0 _ _ (c.in_err-matched.ensures.refused c.args.tests.now (c.in_ok-conditions.ensures.conditions c.args.catalog.now))))

pub returns-in_err-written-clause-refused : goal.returns-in_err-written-clause-refused
returns-in_err-written-clause-refused c =
    handed_on c.from_residual-in_err-written.result c.in_err-written.field-0.0 _ c.from_residual-in_err-written.ensures.1
    (λ t. first_behind c.in_err-written.field-0.0 _ _ c.in_ok-conditions.ensures.known
    (first_behind c.in_err-written.field-0.0 _ _ (c.in_ok-matched.ensures.fit c.args.tests.now (c.in_ok-conditions.ensures.conditions c.args.catalog.now)) c.in_err-written.ensures.refused))

pub returns-clause-planned : goal.returns-clause-planned
returns-clause-planned c = λ t. (
  both_empty _ _ c.in_ok-conditions.ensures.known
      (both_empty _ _ (c.in_ok-matched.ensures.fit c.args.tests.now (c.in_ok-conditions.ensures.conditions c.args.catalog.now)) c.in_ok-written.ensures.supported),
  let pred = c.in_ok-matched.ensures.pred c.args.tests.now (c.in_ok-conditions.ensures.conditions c.args.catalog.now) in
      let route = c.in_ok-matched.ensures.route c.args.tests.now (c.in_ok-conditions.ensures.conditions c.args.catalog.now) in
      λ i. plans.Delete (record { pred = pred i; route = route i }),
)
