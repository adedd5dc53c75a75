use Rattle.std.proofs.Common.{[], ◌++◌, ◌∙◌}
use Rattle.vl_plan.specs.declared.plan.Plan.TheVariants as plans
use Rattle.vl_plan.proofs.Firsts.{both_empty, first_behind, first_front, handed_on}
use Rattle.vl_plan.proofs.insert.insert.Goals as goal

pub returns-in_err-known-clause-refused : goal.returns-in_err-known-clause-refused
returns-in_err-known-clause-refused c =
    handed_on c.from_residual.result c.in_err-known.field-0.0 _ c.from_residual.ensures.1 (λ t. first_front c.in_err-known.field-0.0 _ _ c.in_err-known.ensures.unknown)

pub returns-in_err-counted-clause-refused : goal.returns-in_err-counted-clause-refused
returns-in_err-counted-clause-refused c =
    handed_on c.from_residual-in_err-counted.result c.in_err-counted.field-0.0 _ c.from_residual-in_err-counted.ensures.1
    (λ t. first_behind c.in_err-counted.field-0.0 _ _ c.in_ok-known.ensures.known (first_front c.in_err-counted.field-0.0 _ _ c.in_err-counted.ensures.refused))

pub returns-in_err-all-clause-refused : goal.returns-in_err-all-clause-refused
returns-in_err-all-clause-refused c =
    handed_on c.from_residual-in_err-all.result c.in_err-all.field-0.0 _ c.from_residual-in_err-all.ensures.1
    (λ t. first_behind c.in_err-all.field-0.0 _ _ c.in_ok-known.ensures.known
    (first_behind c.in_err-all.field-0.0 _ _ c.in_ok-counted.ensures.whole (first_front c.in_err-all.field-0.0 _ _ c.in_err-all.ensures.refused)))

pub returns-in_err-written-clause-refused : goal.returns-in_err-written-clause-refused
returns-in_err-written-clause-refused c =
    handed_on c.from_residual-in_err-written.result c.in_err-written.field-0.0 _ c.from_residual-in_err-written.ensures.1
    (λ t. first_behind c.in_err-written.field-0.0 _ _ c.in_ok-known.ensures.known
    (first_behind c.in_err-written.field-0.0 _ _ c.in_ok-counted.ensures.whole
    (first_behind c.in_err-written.field-0.0 _ _ c.in_ok-all.ensures.fit c.in_err-written.ensures.refused)))

pub returns-clause-planned : goal.returns-clause-planned
returns-clause-planned c = λ t. (
  both_empty _ _ c.in_ok-known.ensures.known (both_empty _ _ c.in_ok-counted.ensures.whole (both_empty _ _ c.in_ok-all.ensures.fit c.in_ok-written.ensures.supported)),
  let rows = c.from_vec.ensures ∙ c.in_ok-all.ensures.rows in
      λ i. plans.Insert (record { table = c.args.number; rows = rows i }),
)
