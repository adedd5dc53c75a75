-- A test whose column is known.
use Rattle.std.specs.Prelude.{◌≡◌, ℕ, Bool, true, false, List, map, slice_get, Some, Result}
use Rattle.vl_values.specs.declared.cause.Cause.{Cause}
use Rattle.vl_values.specs.declared.test.Test.{Test}
use Rattle.vl_values.specs.declared.value.Value.{Value}
use Rattle.vl_values.specs.Fit.{fitted}
use Rattle.vl_catalog.specs.declared.catalog.Catalog.{Catalog}
use Rattle.vl_catalog.specs.declared.column.Column.{Column}
use Rattle.vl_catalog.specs.declared.table.Table.{Table}
use Rattle.vl_catalog.specs.Build.{column_number}
use Rattle.vl_sql.specs.declared.test.Test.{Test as Written}
use Rattle.vl_model.specs.Columns.{column_tested, is_numbered, literals, taken, test_compared}
use Rattle.vl_plan.specs.declared.condition.Condition.{Condition}
use Rattle.vl_plan.specs.Planned.{in_order, number_of, values_of}

-- the condition is the test, with its column
pub record IsConditionOf (columns : List Column) (test : Written) (condition : Condition) : Type 0 where
  pub number : column_number columns (column_tested test) ≡ Some condition.number
  pub column : slice_get columns condition.number ≡ Some condition.column.now
  pub literals : condition.literals.now ≡ literals test

-- a value that a column is tested against
abbrev pub compared_by : Bool → Column → Value → Result Value Cause
compared_by numbered column value = taken false numbered column (fitted value column.ty true)

abbrev pub compared_in : Catalog → Table → Condition → List (Result Value Cause)
compared_in catalog table condition =
    map (compared_by (is_numbered catalog table condition.number) condition.column.now) condition.literals.now

-- a column's number, and what it is tested against
abbrev pub resolved : Catalog → Table → Condition → ℕ × List (Result Value Cause)
resolved catalog table condition = (condition.number, compared_in catalog table condition)

abbrev pub test_resolved : Catalog → Table → Written → ℕ × List (Result Value Cause)
test_resolved catalog table test = (number_of table (column_tested test), test_compared catalog table test)

abbrev pub planned_test : ℕ × List (Result Value Cause) → Test
planned_test pair = record { column = pair.0; values = in_order (values_of pair.1) }
