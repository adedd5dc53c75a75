use Rattle.std.proofs.Common.{◌≡◌, ◌+◌, ◌≤◌, drop}
use Rattle.vl_statement.specs.Tallies.{row_bytes}
use Rattle.vl_statement.proofs.tally.bytes_within.Given as goal

abbrev pub invariant-loop-value : goal.invariant-loop-value
invariant-loop-value l = (l.left ≤ l.most) × (row_bytes l.row + l.left ≡ l.most + row_bytes (drop l.value-index l.row))
