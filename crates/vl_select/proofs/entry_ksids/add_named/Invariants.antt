use Rattle.std.proofs.Common.{◌≡◌, ◌++◌}
use Rattle.std.specs.List.{filter_map}
use Rattle.std.specs.Vec.Iter.{into_iter_items}
use Rattle.vl_select.specs.Progress.{named_on}
use Rattle.vl_select.proofs.entry_ksids.add_named.Given as goal

abbrev pub invariant-loop-entry : goal.invariant-loop-entry
invariant-loop-entry l = l.fn.ksids.items ++ filter_map (named_on l.catalog l.route) l.fn.entries.items ≡ l.ksids.items ++ filter_map (named_on l.catalog l.route) (into_iter_items l.entry-iterator)
