use Rattle.std.proofs.Common.{[], ◌++◌, ◌∙◌, List, ℕ, map}
use Rattle.vl_sql.specs.declared.assignment.Assignment.{Assignment}
use Rattle.vl_plan.specs.declared.plan.Plan.TheVariants as plans
use Rattle.vl_plan.proofs.Composing.{first_of_two, known_two, second_of_two}
use Rattle.vl_plan.proofs.Firsts.{both_empty, first_behind, first_front, handed_on}
use Rattle.vl_plan.proofs.update.update.Goals as goal

pub returns-in_err-known_set-clause-refused : goal.returns-in_err-known_set-clause-refused
returns-in_err-known_set-clause-refused c =
    handed_on c.from_residual.result c.in_err-known_set.field-0.0 _ c.from_residual.ensures.1
    (λ t. first_front c.in_err-known_set.field-0.0 _ _
    (first_of_two c.args.table.now.columns (map (λ (a : Assignment). a.column) c.args.assignments.now) _ c.in_err-known_set.field-0.0 c.in_err-known_set.ensures.unknown))

pub returns-in_err-conditions-clause-refused : goal.returns-in_err-conditions-clause-refused
returns-in_err-conditions-clause-refused c =
    handed_on c.from_residual-in_err-conditions.result c.in_err-conditions.field-0.0 _ c.from_residual-in_err-conditions.ensures.1
    (λ t. first_front c.in_err-conditions.field-0.0 _ _
    (second_of_two c.args.table.now.columns (map (λ (a : Assignment). a.column) c.args.assignments.now) _ c.in_err-conditions.field-0.0 c.in_ok-known_set.ensures.known c.in_err-conditions.ensures.unknown))

pub returns-in_err-settings-clause-refused : goal.returns-in_err-settings-clause-refused
returns-in_err-settings-clause-refused c =
    handed_on c.from_residual-in_err-settings.result c.in_err-settings.field-0.0 _ c.from_residual-in_err-settings.ensures.1
    (λ t. first_behind c.in_err-settings.field-0.0 _ _
    (known_two c.args.table.now.columns (map (λ (a : Assignment). a.column) c.args.assignments.now) _ c.in_ok-known_set.ensures.known c.in_ok-conditions.ensures.known)
    (first_front c.in_err-settings.field-0.0 _ _ (first_front c.in_err-settings.field-0.0 _ _ c.in_err-settings.ensures.refused)))

pub returns-in_err-matched-clause-refused : goal.returns-in_err-matched-clause-refused
returns-in_err-matched-clause-refused c =
    handed_on c.from_residual-in_err-matched.result c.in_err-matched.field-0.0 _ c.from_residual-in_err-matched.ensures.1
    (λ t. first_behind c.in_err-matched.field-0.0 _ _
    (known_two c.args.table.now.columns (map (λ (a : Assignment). a.column) c.args.assignments.now) _ c.in_ok-known_set.ensures.known c.in_ok-conditions.ensures.known)
    (first_front c.in_err-matched.field-0.0 _ _
    (first_behind c.in_err-matched.field-0.0 _ _ c.in_ok-settings.ensures.fit (c.in_err-matched.ensures.refused c.args.tests.now (c.in_ok-conditions.ensures.conditions c.args.catalog.now)))))

pub returns-in_err-written-clause-refused : goal.returns-in_err-written-clause-refused
returns-in_err-written-clause-refused c =
    handed_on c.from_residual-in_err-written.result c.in_err-written.field-0.0 _ c.from_residual-in_err-written.ensures.1
    (λ t. first_behind c.in_err-written.field-0.0 _ _
    (known_two c.args.table.now.columns (map (λ (a : Assignment). a.column) c.args.assignments.now) _ c.in_ok-known_set.ensures.known c.in_ok-conditions.ensures.known)
    (first_behind c.in_err-written.field-0.0 _ _
    (both_empty _ _ c.in_ok-settings.ensures.fit (c.in_ok-matched.ensures.fit c.args.tests.now (c.in_ok-conditions.ensures.conditions c.args.catalog.now)))
    (first_front c.in_err-written.field-0.0 _ _ c.in_err-written.ensures.refused)))

pub returns-in_err-keys_kept-clause-refused : goal.returns-in_err-keys_kept-clause-refused
returns-in_err-keys_kept-clause-refused c =
    handed_on c.from_residual-in_err-keys_kept.result c.in_err-keys_kept.field-0.0 _ c.from_residual-in_err-keys_kept.ensures.1
    (λ t. first_behind c.in_err-keys_kept.field-0.0 _ _
    (known_two c.args.table.now.columns (map (λ (a : Assignment). a.column) c.args.assignments.now) _ c.in_ok-known_set.ensures.known c.in_ok-conditions.ensures.known)
    (first_behind c.in_err-keys_kept.field-0.0 _ _
    (both_empty _ _ c.in_ok-settings.ensures.fit (c.in_ok-matched.ensures.fit c.args.tests.now (c.in_ok-conditions.ensures.conditions c.args.catalog.now)))
    (first_behind c.in_err-keys_kept.field-0.0 _ _ c.in_ok-written.ensures.supported c.in_err-keys_kept.ensures.refused)))

pub returns-clause-planned : goal.returns-clause-planned
returns-clause-planned c = λ t. (
  both_empty _ _
      (known_two c.args.table.now.columns (map (λ (a : Assignment). a.column) c.args.assignments.now) _ c.in_ok-known_set.ensures.known c.in_ok-conditions.ensures.known)
      (both_empty _ _ (both_empty _ _ c.in_ok-settings.ensures.fit (c.in_ok-matched.ensures.fit c.args.tests.now (c.in_ok-conditions.ensures.conditions c.args.catalog.now)))
      (both_empty _ _ c.in_ok-written.ensures.supported c.in_ok-keys_kept.ensures.supported)),
  let settings = c.from_vec.ensures ∙ c.in_ok-settings.ensures.settings in
      let pred = c.in_ok-matched.ensures.pred c.args.tests.now (c.in_ok-conditions.ensures.conditions c.args.catalog.now) in
      let route = c.in_ok-matched.ensures.route c.args.tests.now (c.in_ok-conditions.ensures.conditions c.args.catalog.now) in
      λ i. plans.Update (record { settings = settings i; pred = pred i; route = route i }),
)
