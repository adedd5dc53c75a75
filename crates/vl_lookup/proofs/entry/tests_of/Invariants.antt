use Rattle.std.proofs.Common.{◌≡◌, map, take}
use Rattle.vl_lookup.specs.Entry.{test_of}
use Rattle.vl_lookup.proofs.entry.tests_of.Given as goal

abbrev pub invariant-loop-column : goal.invariant-loop-column
invariant-loop-column l = l.tests.items ≡ map (test_of l.row) (take l.column-index l.columns)
