use Rattle.std.proofs.Common.{◌≡◌, take}
use Rattle.std.specs.List.{filter}
use Rattle.std.specs.Map.{keys_of}
use Rattle.vl_rows.specs.Slots.{is_match_in}
use Rattle.vl_rows.proofs.find.matching.Given as goal

abbrev pub invariant-loop-entry : goal.invariant-loop-entry
invariant-loop-entry l = l.keys.items ≡ keys_of (filter (is_match_in l.pred) (take l.entry-index l.slots))
