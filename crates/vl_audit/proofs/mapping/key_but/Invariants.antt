use Rattle.std.proofs.Common.{◌≡◌, take, Some}
use Rattle.vl_model.specs.Entries.{key_but}
use Rattle.vl_audit.proofs.mapping.key_but.Given as goal

abbrev pub invariant-loop-column : goal.invariant-loop-column
invariant-loop-column l = l.columns.items ≡ key_but (Some l.but) (take l.column-index l.key)
