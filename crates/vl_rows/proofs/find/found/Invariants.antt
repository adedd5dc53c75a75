use Rattle.std.proofs.Common.{◌≡◌, take}
use Rattle.vl_values.specs.Keyed.{select}
use Rattle.vl_rows.specs.Slots.{found_in}
use Rattle.vl_rows.proofs.find.found.Given as goal

abbrev pub invariant-loop-entry : goal.invariant-loop-entry
invariant-loop-entry l = l.rows.items ≡ select (found_in l.pred l.reader) (take l.entry-index l.slots)
