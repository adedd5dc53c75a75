use Rattle.std.proofs.Common.{◌≡◌, drop, Some}
use Rattle.std.specs.Cmp.Lexicographic.{pointwise}
use Rattle.vl_catalog.specs.Build.{other_keys}
use Rattle.vl_rules.specs.Lookups.{is_same_column}
use Rattle.vl_rules.proofs.from_columns.are_other_keys.Given as goal

abbrev pub invariant-loop-other : goal.invariant-loop-other
invariant-loop-other l =
    pointwise (is_same_column l.columns l.owner.columns) l.numbers (other_keys l.owner.pk (Some l.column))
    ≡ pointwise (is_same_column l.columns l.owner.columns) l.left (other_keys (drop l.other-index l.owner.pk) (Some l.column))
