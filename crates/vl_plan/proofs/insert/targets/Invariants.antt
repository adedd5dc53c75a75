use Rattle.std.proofs.Common.{◌≡◌, ◌++◌, List, map, drop}
use Rattle.vl_values.specs.declared.value.Value.{Value}
use Rattle.vl_model.specs.Columns.{row_stored}
use Rattle.vl_plan.specs.Targets.{stored_by}
use Rattle.vl_plan.proofs.insert.targets.Given as goal

abbrev pub invariant-loop-number : goal.invariant-loop-number
invariant-loop-number l = (row : List Value)
    → map (stored_by row) l.targets.items ++ row_stored l.catalog l.table l.names row l.number (drop l.number l.columns) ≡ row_stored l.catalog l.table l.names row 0 l.columns
