use Rattle.std.proofs.Common.{◌≡◌, drop}
use Rattle.std.specs.Cmp.Lexicographic.{pointwise}
use Rattle.vl_catalog.specs.Build.{other_keys}
use Rattle.vl_rules.specs.ColumnVindexes.{names_column}
use Rattle.vl_rules.proofs.column_vindexes.are_others.Given as goal

abbrev pub invariant-loop-number : goal.invariant-loop-number
invariant-loop-number l =
    pointwise (names_column l.columns) l.names (other_keys l.key l.column)
    ≡ pointwise (names_column l.columns) l.left (other_keys (drop l.number-index l.key) l.column)
