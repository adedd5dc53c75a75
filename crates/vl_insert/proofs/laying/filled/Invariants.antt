use Rattle.std.proofs.Common.{◌≡◌, ◌+◌, ◌≤◌, ◌++◌, length}
use Rattle.std.specs.Vec.{vec_capacity, vec_len}
use Rattle.std.specs.Vec.Iter.{into_iter_items}
use Rattle.vl_insert.specs.Laying.{with_rows}
use Rattle.vl_insert.proofs.laying.filled.Given as goal

abbrev pub invariant-loop-outline : goal.invariant-loop-outline
invariant-loop-outline l =
    (l.fn.tasks.items ++ with_rows l.fn.outlines.items l.fn.rows.items ≡ l.tasks.items ++ with_rows (into_iter_items l.outline-iterator) (into_iter_items l.left))
    × (vec_len l.tasks + length (into_iter_items l.outline-iterator) ≤ vec_capacity l.tasks)
