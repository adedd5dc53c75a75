use Rattle.std.proofs.Common.{◌≡◌, take}
use Rattle.std.specs.Prelude.{fold}
use Rattle.vl_change.specs.Changes.{with_setting}
use Rattle.vl_change.proofs.changes.with_settings.Given as goal

abbrev pub invariant-loop-value : goal.invariant-loop-value
invariant-loop-value l = l.values.items ≡ take l.value-index l.row

abbrev pub invariant-loop-setting : goal.invariant-loop-setting
invariant-loop-setting l = l.values.items ≡ fold with_setting l.row (take l.setting-index l.settings)
