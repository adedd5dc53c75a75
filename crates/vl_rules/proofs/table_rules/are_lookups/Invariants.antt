use Rattle.std.proofs.Common.{◌≡◌, drop}
use Rattle.std.specs.Cmp.Lexicographic.{pointwise}
use Rattle.vl_rules.specs.Tables.{is_lookup_of}
use Rattle.vl_rules.proofs.table_rules.are_lookups.Given as goal

abbrev pub invariant-loop-vindex : goal.invariant-loop-vindex
invariant-loop-vindex l =
    pointwise (is_lookup_of l.catalog l.table) l.vindexes l.table.lookups
    ≡ pointwise (is_lookup_of l.catalog l.table) (drop l.vindex-index l.vindexes) l.left
