-- A condition is its test.
use Rattle.std.proofs.Common.{◌≡◌, ℕ, List, [], Option, Some, Result, map, sym, ap, ◌∙◌}
use Rattle.std.specs.Prelude.{slice_get, unwrap_or}
use Rattle.std.specs.Option.{option_map_or}
use Rattle.vl_values.specs.declared.cause.Cause.{Cause}
use Rattle.vl_values.specs.declared.value.Value.{Value}
use Rattle.vl_catalog.specs.declared.catalog.Catalog.{Catalog}
use Rattle.vl_catalog.specs.declared.column.Column.{Column}
use Rattle.vl_catalog.specs.declared.table.Table.{Table}
use Rattle.vl_catalog.specs.Build.{column_number}
use Rattle.vl_sql.specs.declared.test.Test.{Test as Written}
use Rattle.vl_model.specs.Columns.{column_tested, compared, literals, test_compared}
use Rattle.vl_plan.specs.declared.condition.Condition.{Condition}
use Rattle.vl_plan.specs.Conditions.{IsConditionOf, compared_in, resolved, test_resolved}
use Rattle.vl_plan.specs.Planned.{number_of}

abbrev at_column : Catalog → Table → Written → ℕ → Option Column → List (Result Value Cause)
at_column catalog table test n column = option_map_or (λ (it : Column). map (compared catalog table n it) (literals test)) column []

same_values : (catalog : Catalog) (table : Table) (test : Written) (condition : Condition) → IsConditionOf table.columns test condition
    → compared_in catalog table condition ≡ test_compared catalog table test
same_values catalog table test condition is =
    ap (map (compared catalog table condition.number condition.column.now)) is.literals
    ∙ sym (ap (at_column catalog table test condition.number) is.column)
    ∙ sym (ap (λ (o : Option ℕ). option_map_or (λ (n : ℕ). at_column catalog table test n (slice_get table.columns n)) o []) is.number)

pub resolved_is : (catalog : Catalog) (table : Table) (test : Written) (condition : Condition) → IsConditionOf table.columns test condition
    → resolved catalog table condition ≡ test_resolved catalog table test
resolved_is catalog table test condition is =
    let number : condition.number ≡ number_of table (column_tested test) = sym (ap (λ (o : Option ℕ). unwrap_or o 0) is.number) in
    let values = same_values catalog table test condition is in
    λ i. (number i, values i)
