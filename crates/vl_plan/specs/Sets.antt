-- One column of UPDATE.
use Rattle.std.specs.Prelude.{ℕ, List, [], ◌∷◌, Result, Ok}
use Rattle.std.specs.Option.{option_map_or}
use Rattle.vl_values.specs.declared.cause.Cause.{Cause}
use Rattle.vl_values.specs.declared.value.Value.{Value}
use Rattle.vl_catalog.specs.declared.catalog.Catalog.{Catalog}
use Rattle.vl_catalog.specs.declared.column.Column.{Column}
use Rattle.vl_catalog.specs.declared.table.Table.{Table}
use Rattle.vl_sql.specs.declared.assignment.Assignment.{Assignment}
use Rattle.vl_model.specs.Columns.{assigned, stored}
use Rattle.vl_plan.specs.declared.setting.Setting.{Setting}

-- what SET says of a column, if it names it
abbrev pub set_at : Catalog → Table → List Assignment → ℕ → Column → List (ℕ × Result Value Cause)
set_at catalog table assignments n column =
    option_map_or (λ (assignment : Assignment). (n, stored catalog table n column assignment.value) ∷ []) (assigned assignments column.name) []

-- a column that was set
abbrev pub set_of : Setting → ℕ × Result Value Cause
set_of setting = (setting.column, Ok setting.value)
