use Rattle.std.proofs.Common.{◌≡◌, [], take}
use Rattle.vl_model.specs.Refusals.{unknown_among}
use Rattle.vl_plan.proofs.columns.known.Given as goal

abbrev pub invariant-loop-name : goal.invariant-loop-name
invariant-loop-name l = unknown_among l.table.columns (take l.name-index l.names) ≡ []
