use Rattle.std.proofs.Common.{◌≡◌, take}
use Rattle.vl_audit.specs.Mapping.{values_at}
use Rattle.vl_audit.proofs.mapping.values_at.Given as goal

abbrev pub invariant-loop-column : goal.invariant-loop-column
invariant-loop-column l = l.values.items ≡ values_at l.row (take l.column-index l.columns)
