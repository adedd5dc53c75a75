use Rattle.std.proofs.Common.{◌≡◌, ◌∙◌, ℕ, List, [], rules, inl, inr, arith, refl, ap₂, slice_index, codes}
use Rattle.clap.specs.Words.{app_of, rule_of, with_rule}
use Rattle.clap.proofs.CallerLemmas.{one_required_value}
use Rattle.vtgate_cl.specs.Words.{catalog_option, check_options, texts_of}
use Rattle.vtgate_cl.proofs.Wording.{check_free, check_simple, parse_rejects, parse_taken, parse_value, value_there}
use Rattle.vtgate_cl.proofs.words.catalog_of.Goals as goal

pub returns-in-Err-clause-err : goal.returns-in-Err-clause-err
returns-in-Err-clause-err c =
    let rule_is : rule_of c.action-catalog.result ≡ catalog_option = search rules in
    let app_is : app_of c.in-Ok-arg.command ≡ check_options = c.in-Ok-arg.ensures.shape (search rules) ∙ ap₂ with_rule c.in-Ok.ensures.app rule_is in
    parse_rejects (app_of c.in-Ok-arg.command) check_options (texts_of c.args.words.now) c.in-Err.error c.fault_for.result app_is check_free c.in-Err.ensures.kinds c.fault_for.ensures

pub unreachable-requires : goal.unreachable-requires
unreachable-requires c =
    let option = c.action-catalog.result in
    let name_id : option.id.now ≡ codes "catalog" = search rules in
    let first : (t : List ℕ) → option.id.now ≡ t → slice_index t 0 ≡ 99 = λ t e. rw (← e, name_id) refl in
    let given = one_required_value c.in-Ok.plain c.in-Ok-arg.command option c.in-Ok-try_get_matches_from.matches
    c.in-Ok-arg.ensures c.in-Ok.ensures.empty.0 c.in-Ok.ensures.empty.1 c.in-Ok.ensures.local c.in-Ok.ensures.negates
    (search rules) (search rules) (search rules) (search rules) (search rules) (search rules)
    (λ e. let bad : 0 ≡ 99 = first [] e in absurd (omega arith))
    (λ auto. elim auto [
      | inl h ↦ let bad : 104 ≡ 99 = first _ h in absurd (omega arith)
      | inr h ↦ let bad : 118 ≡ 99 = first _ h in absurd (omega arith)
    ])
    c.in-Ok-try_get_matches_from.ensures.parsed in
    value_there c.in-Ok-try_get_matches_from.matches option.id.now (codes "catalog") name_id c.in-None.ensures given

pub returns-clause-taken : goal.returns-clause-taken
returns-clause-taken c =
    let rule_is : rule_of c.action-catalog.result ≡ catalog_option = search rules in
    let app_is : app_of c.in-Ok-arg.command ≡ check_options = c.in-Ok-arg.ensures.shape (search rules) ∙ ap₂ with_rule c.in-Ok.ensures.app rule_is in
    parse_taken (app_of c.in-Ok-arg.command) check_options (texts_of c.args.words.now) app_is check_free c.in-Ok-try_get_matches_from.ensures.kinds

pub returns-clause-value : goal.returns-clause-value
returns-clause-value c =
    let rule_is : rule_of c.action-catalog.result ≡ catalog_option = search rules in
    let app_is : app_of c.in-Ok-arg.command ≡ check_options = c.in-Ok-arg.ensures.shape (search rules) ∙ ap₂ with_rule c.in-Ok.ensures.app rule_is in
    parse_value c.in-Ok-try_get_matches_from.matches (app_of c.in-Ok-arg.command) check_options (texts_of c.args.words.now) (codes "catalog") c.in-Some.catalog.now app_is check_simple c.in-Ok-try_get_matches_from.ensures.matches c.in-Some.ensures
