use Rattle.std.proofs.Common.{◌≡◌}
use Rattle.std.specs.List.{filter_map, range_with_len}
use Rattle.vl_select.specs.Columns.{column_at}
use Rattle.vl_select.proofs.columns.all_columns.Given as goal

abbrev pub invariant-loop-n : goal.invariant-loop-n
invariant-loop-n l = l.columns.items ≡ filter_map (column_at l.catalog l.table) (range_with_len 0 l.n)
