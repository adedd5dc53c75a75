use Rattle.std.proofs.Common.{◌≡◌, drop}
use Rattle.vl_statement.specs.Tallies.{counted, first_over}
use Rattle.vl_statement.proofs.tally.Tally.with_rows.Given as goal

abbrev pub invariant-loop-row : goal.invariant-loop-row
invariant-loop-row l = (first_over l.limits l.fn.self l.rows ≡ first_over l.limits l.tally (drop l.row-index l.rows)) × (counted l.fn.self l.rows ≡ counted l.tally (drop l.row-index l.rows))
