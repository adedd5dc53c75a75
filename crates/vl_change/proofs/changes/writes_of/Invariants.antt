use Rattle.std.proofs.Common.{◌≡◌, ◌++◌}
use Rattle.std.specs.List.{filter_map}
use Rattle.std.specs.Vec.Iter.{into_iter_items}
use Rattle.vl_change.specs.Changes.{write_of}
use Rattle.vl_change.proofs.changes.writes_of.Given as goal

abbrev pub invariant-loop-found : goal.invariant-loop-found
invariant-loop-found l = filter_map (write_of l.change l.shard) l.fn.rows.items ≡ l.actions.items ++ filter_map (write_of l.change l.shard) (into_iter_items l.found-iterator)
