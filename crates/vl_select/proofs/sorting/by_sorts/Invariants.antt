use Rattle.std.proofs.Common.{◌≡◌, drop}
use Rattle.vl_select.specs.Sorting.{sorts_cmp}
use Rattle.vl_select.proofs.sorting.by_sorts.Given as goal

abbrev pub invariant-loop-sort : goal.invariant-loop-sort
invariant-loop-sort l = sorts_cmp l.sorts l.a l.b ≡ sorts_cmp (drop l.sort-index l.sorts) l.a l.b
