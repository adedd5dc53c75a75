use Rattle.std.proofs.Common.{◌≡◌, take}
use Rattle.std.specs.Prelude.{fold}
use Rattle.vl_catalog.specs.Build.{with_def}
use Rattle.vl_catalog.proofs.lookup_ids.add_declared.Given as goal

abbrev pub invariant-loop-vindex : goal.invariant-loop-vindex
invariant-loop-vindex l = l.ids.items ≡ fold (with_def l.keyspace l.vindexes) l.initial.ids.items (take l.vindex-index l.vindexes)
