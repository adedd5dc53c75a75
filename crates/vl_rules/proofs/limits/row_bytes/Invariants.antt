use Rattle.std.proofs.Common.{◌≡◌, ◌*◌, ◌≤◌, take}
use Rattle.vl_rules.specs.Limits.{row_bytes}
use Rattle.vl_rules.proofs.limits.row_bytes.Given as goal

abbrev pub invariant-loop-column : goal.invariant-loop-column
invariant-loop-column l = (l.bytes ≡ row_bytes (take l.column-index l.columns)) × (l.bytes ≤ 65535 * l.column-index)
