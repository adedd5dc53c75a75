use Rattle.std.proofs.Common.{[], ◌++◌, ◌∙◌, map}
use Rattle.vl_model.specs.Columns.{column_tested, names_selected}
use Rattle.vl_plan.specs.declared.plan.Plan.TheVariants as plans
use Rattle.vl_plan.proofs.Composing.{first_of_two, known_two, second_of_two}
use Rattle.vl_plan.proofs.Firsts.{both_empty, first_behind, first_front, handed_on}
use Rattle.vl_plan.proofs.select.select.Goals as goal

pub returns-in_err-projection-clause-refused : goal.returns-in_err-projection-clause-refused
returns-in_err-projection-clause-refused c =
    handed_on c.from_residual.result c.in_err-projection.field-0.0 _ c.from_residual.ensures.1
    (λ t. first_front c.in_err-projection.field-0.0 _ _ (first_of_two c.args.table.now.columns (names_selected c.args.what.now) _ c.in_err-projection.field-0.0 c.in_err-projection.ensures.unknown))

pub returns-in_err-conditions-clause-refused : goal.returns-in_err-conditions-clause-refused
returns-in_err-conditions-clause-refused c =
    handed_on c.from_residual-in_err-conditions.result c.in_err-conditions.field-0.0 _ c.from_residual-in_err-conditions.ensures.1
    (λ t. first_front c.in_err-conditions.field-0.0 _ _
    (second_of_two c.args.table.now.columns (names_selected c.args.what.now) _ c.in_err-conditions.field-0.0 c.in_ok-projection.ensures.known
    (first_of_two c.args.table.now.columns (map column_tested c.args.tests.now) _ c.in_err-conditions.field-0.0 c.in_err-conditions.ensures.unknown)))

pub returns-in_err-sorts-clause-refused : goal.returns-in_err-sorts-clause-refused
returns-in_err-sorts-clause-refused c =
    handed_on c.from_residual-in_err-sorts.result c.in_err-sorts.field-0.0 _ c.from_residual-in_err-sorts.ensures.1
    (λ t. first_front c.in_err-sorts.field-0.0 _ _
    (second_of_two c.args.table.now.columns (names_selected c.args.what.now) _ c.in_err-sorts.field-0.0 c.in_ok-projection.ensures.known
    (second_of_two c.args.table.now.columns (map column_tested c.args.tests.now) _ c.in_err-sorts.field-0.0 c.in_ok-conditions.ensures.known c.in_err-sorts.ensures.unknown)))

pub returns-in_err-matched-clause-refused : goal.returns-in_err-matched-clause-refused
returns-in_err-matched-clause-refused c =
    handed_on c.from_residual-in_err-matched.result c.in_err-matched.field-0.0 _ c.from_residual-in_err-matched.ensures.1
    (λ t. first_behind c.in_err-matched.field-0.0 _ _
    (known_two c.args.table.now.columns (names_selected c.args.what.now) _ c.in_ok-projection.ensures.known
    (known_two c.args.table.now.columns (map column_tested c.args.tests.now) _ c.in_ok-conditions.ensures.known c.in_ok-sorts.ensures.known))
    (first_front c.in_err-matched.field-0.0 _ _ (c.in_err-matched.ensures.refused c.args.tests.now (c.in_ok-conditions.ensures.conditions c.args.catalog.now))))

pub returns-in_err-locked-clause-refused : goal.returns-in_err-locked-clause-refused
returns-in_err-locked-clause-refused c =
    handed_on c.from_residual-in_err-locked.result c.in_err-locked.field-0.0 _ c.from_residual-in_err-locked.ensures.1
    (λ t. first_behind c.in_err-locked.field-0.0 _ _
    (known_two c.args.table.now.columns (names_selected c.args.what.now) _ c.in_ok-projection.ensures.known
    (known_two c.args.table.now.columns (map column_tested c.args.tests.now) _ c.in_ok-conditions.ensures.known c.in_ok-sorts.ensures.known))
    (first_behind c.in_err-locked.field-0.0 _ _ (c.in_ok-matched.ensures.fit c.args.tests.now (c.in_ok-conditions.ensures.conditions c.args.catalog.now))
    (first_front c.in_err-locked.field-0.0 _ _ c.in_err-locked.ensures.refused)))

pub returns-in_err-counted_alone-clause-refused : goal.returns-in_err-counted_alone-clause-refused
returns-in_err-counted_alone-clause-refused c =
    handed_on c.from_residual-in_err-counted_alone.result c.in_err-counted_alone.field-0.0 _ c.from_residual-in_err-counted_alone.ensures.1
    (λ t. first_behind c.in_err-counted_alone.field-0.0 _ _
    (known_two c.args.table.now.columns (names_selected c.args.what.now) _ c.in_ok-projection.ensures.known
    (known_two c.args.table.now.columns (map column_tested c.args.tests.now) _ c.in_ok-conditions.ensures.known c.in_ok-sorts.ensures.known))
    (first_behind c.in_err-counted_alone.field-0.0 _ _ (c.in_ok-matched.ensures.fit c.args.tests.now (c.in_ok-conditions.ensures.conditions c.args.catalog.now))
    (first_behind c.in_err-counted_alone.field-0.0 _ _ c.in_ok-locked.ensures.supported c.in_err-counted_alone.ensures.refused)))

pub returns-clause-planned : goal.returns-clause-planned
returns-clause-planned c = λ t. (
  both_empty _ _
      (known_two c.args.table.now.columns (names_selected c.args.what.now) _ c.in_ok-projection.ensures.known
      (known_two c.args.table.now.columns (map column_tested c.args.tests.now) _ c.in_ok-conditions.ensures.known c.in_ok-sorts.ensures.known))
      (both_empty _ _ (c.in_ok-matched.ensures.fit c.args.tests.now (c.in_ok-conditions.ensures.conditions c.args.catalog.now))
      (both_empty _ _ c.in_ok-locked.ensures.supported c.in_ok-counted_alone.ensures.supported)),
  let what = c.in_ok-projection.ensures.projection in
      let pred = c.in_ok-matched.ensures.pred c.args.tests.now (c.in_ok-conditions.ensures.conditions c.args.catalog.now) in
      let route = c.in_ok-matched.ensures.route c.args.tests.now (c.in_ok-conditions.ensures.conditions c.args.catalog.now) in
      let sorts = c.from_vec.ensures ∙ c.in_ok-sorts.ensures.sorts in
      λ i. plans.Select (record { what = what i; pred = pred i; route = route i; sorts = sorts i; limit = c.args.limit; locking = c.args.locking }),
)
