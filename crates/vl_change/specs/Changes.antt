-- What UPDATE and DELETE do to the rows that they find.
use Rattle.std.specs.Prelude.{ℕ, List, fold, Option, Some, None, if◌then◌else◌}
use Rattle.std.specs.List.{filter_map, slice_set}
use Rattle.std.specs.Ordering.{is_eq}
use Rattle.vl_values.specs.declared.group.Group.TheVariants.{Main}
use Rattle.vl_values.specs.declared.key.Key.{Key}
use Rattle.vl_values.specs.declared.value.Value.{Value}
use Rattle.vl_values.specs.Row.{row_cmp}
use Rattle.vl_plan.specs.declared.setting.Setting.{Setting}
use Rattle.vl_port.specs.declared.act.Act.TheVariants.{Put, Remove as RemoveAct}
use Rattle.vl_change.specs.declared.action.Action.{Action}
use Rattle.vl_change.specs.declared.row_change.RowChange.{RowChange}
use Rattle.vl_change.specs.declared.row_change.RowChange.TheVariants.{Remove, Set}

-- the row with the settings made, one after the other
abbrev pub with_setting : List Value → Setting → List Value
with_setting row setting = slice_set row setting.column setting.value

abbrev pub with_settings : List Setting → List Value → List Value
with_settings settings row = fold with_setting row settings

-- a row that stays equal isn't written
abbrev pub put_of : ℕ → Key → List Value → List Value → Option Action
put_of shard key old new = if is_eq (row_cmp new old) then None else Some (record { group = Main; shard = shard; act = Put key new; old = Some old })

-- the write of a row that was found on a shard, if there is one
abbrev pub write_of : RowChange → ℕ → Key × List Value → Option Action
write_of Remove shard found = Some (record { group = Main; shard = shard; act = RemoveAct found.0; old = Some found.1 })
write_of (Set settings) shard found = put_of shard found.0 found.1 (with_settings settings found.1)

-- the writes of all rows that were found on a shard, in their order
abbrev pub writes_of : RowChange → ℕ → List (Key × List Value) → List Action
writes_of change shard rows = filter_map (write_of change shard) rows
