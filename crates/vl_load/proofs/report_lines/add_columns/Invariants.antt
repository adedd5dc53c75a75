use Rattle.std.proofs.Common.{◌≡◌, ◌++◌, codes, drop}
use Rattle.std.specs.List.{flat_map}
use Rattle.vl_load.specs.Report.{column_name}
use Rattle.vl_load.proofs.report_lines.add_columns.Given as goal

abbrev pub invariant-loop-column : goal.invariant-loop-column
invariant-loop-column l = l.text.items ++ flat_map (λ n. column_name l.table n ++ codes ", ") (drop l.column-index l.columns)
    ≡ l.fn.text.items ++ flat_map (λ n. column_name l.table n ++ codes ", ") l.columns
