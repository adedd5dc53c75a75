use Rattle.std.proofs.Common.{◌≡◌, ◌++◌, map}
use Rattle.std.specs.Vec.Iter.{into_iter_items}
use Rattle.vl_model.specs.Visiting.{entry_reads}
use Rattle.vl_select.specs.Begun.{entry_read}
use Rattle.vl_select.proofs.starting.entries_of.Given as goal

abbrev pub invariant-loop-read : goal.invariant-loop-read
invariant-loop-read l = map entry_read (entry_reads l.catalog l.route) ≡ l.entries.items ++ map entry_read (into_iter_items l.read-iterator)
