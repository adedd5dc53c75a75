use Rattle.std.proofs.Common.{◌≡◌, ◌++◌, map}
use Rattle.std.specs.Vec.Iter.{into_iter_items}
use Rattle.vl_select.proofs.projecting.all_whole.Given as goal

abbrev pub invariant-loop-found : goal.invariant-loop-found
invariant-loop-found l = map (λ row. row.1) l.fn.rows.items ≡ l.all.items ++ map (λ row. row.1) (into_iter_items l.found-iterator)
