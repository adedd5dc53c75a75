use Rattle.std.proofs.Common.{◌≡◌}
use Rattle.vl_lookup.specs.Entry.{entry_row}
use Rattle.vl_lookup.proofs.entry.entry_row.Given as goal

abbrev pub invariant-loop-n : goal.invariant-loop-n
invariant-loop-n l = l.values.items ≡ entry_row l.row l.columns l.from l.to l.ksid l.n
