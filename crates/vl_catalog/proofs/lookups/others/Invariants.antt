use Rattle.std.proofs.Common.{◌≡◌, take, Some}
use Rattle.vl_catalog.specs.Build.{other_keys}
use Rattle.vl_catalog.proofs.lookups.others.Given as goal

abbrev pub invariant-loop-number : goal.invariant-loop-number
invariant-loop-number l = l.others.items ≡ other_keys (take l.number-index l.key) (Some l.column)
