use Rattle.std.proofs.Common.{◌≡◌, take}
use Rattle.std.specs.List.{filter_map}
use Rattle.vl_select.specs.Columns.{column_at}
use Rattle.vl_select.proofs.columns.some_columns.Given as goal

abbrev pub invariant-loop-n : goal.invariant-loop-n
invariant-loop-n l = l.columns.items ≡ filter_map (column_at l.catalog l.table) (take l.n-index l.numbers)
