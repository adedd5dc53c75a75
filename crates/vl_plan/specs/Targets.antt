-- The value of a row that is stored in one of the table's columns.
use Rattle.std.specs.Prelude.{List, slice_get, unwrap_or, option_and_then, Result}
use Rattle.vl_values.specs.declared.cause.Cause.{Cause}
use Rattle.vl_values.specs.declared.value.Value.{Value}
use Rattle.vl_values.specs.declared.value.Value.TheVariants.{Null}
use Rattle.vl_values.specs.Fit.{fitted}
use Rattle.vl_model.specs.Columns.{taken}
use Rattle.vl_plan.specs.declared.target.Target.{Target}

abbrev pub stored_by : List Value → Target → Result Value Cause
stored_by row target =
    taken target.asks.needs_value target.asks.numbered target.column.now
    (fitted (unwrap_or (option_and_then (slice_get row) target.position) Null) target.column.now.ty target.column.now.nullable)
