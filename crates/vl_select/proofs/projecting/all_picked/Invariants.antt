use Rattle.std.proofs.Common.{◌≡◌, ◌++◌, map}
use Rattle.std.specs.Vec.Iter.{into_iter_items}
use Rattle.vl_select.specs.Results.{picked}
use Rattle.vl_select.proofs.projecting.all_picked.Given as goal

abbrev pub invariant-loop-found : goal.invariant-loop-found
invariant-loop-found l = map (λ row. picked l.columns row.1) l.fn.rows.items ≡ l.all.items ++ map (λ row. picked l.columns row.1) (into_iter_items l.found-iterator)
