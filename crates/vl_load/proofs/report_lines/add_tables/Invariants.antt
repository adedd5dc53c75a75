use Rattle.std.proofs.Common.{◌≡◌, ◌++◌, drop}
use Rattle.std.specs.List.{flat_map}
use Rattle.vl_load.specs.Report.{table_text}
use Rattle.vl_load.proofs.report_lines.add_tables.Given as goal

abbrev pub invariant-loop-table : goal.invariant-loop-table
invariant-loop-table l = l.text.items ++ flat_map (table_text l.catalog) (drop l.table-index l.tables) ≡ l.fn.text.items ++ flat_map (table_text l.catalog) l.tables
