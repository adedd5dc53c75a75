use Rattle.std.proofs.Common.{◌≡◌}
use Rattle.vl_run.specs.Local.{text_rows}
use Rattle.vl_local.proofs.result_set.text_rows.Given as goal

abbrev pub invariant-loop-text : goal.invariant-loop-text
invariant-loop-text l = l.rows.items ≡ text_rows l.yielded
