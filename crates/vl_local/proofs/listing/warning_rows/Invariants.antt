use Rattle.std.proofs.Common.{◌≡◌, map, take}
use Rattle.vl_run.specs.Local.{warning_row}
use Rattle.vl_local.proofs.listing.warning_rows.Given as goal

abbrev pub invariant-loop-warning : goal.invariant-loop-warning
invariant-loop-warning l = l.rows.items ≡ map warning_row (take l.warning-index l.warnings)
