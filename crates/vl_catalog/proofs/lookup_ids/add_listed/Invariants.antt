use Rattle.std.proofs.Common.{◌≡◌, take}
use Rattle.std.specs.Prelude.{fold}
use Rattle.vl_catalog.specs.Build.{with_vindex}
use Rattle.vl_catalog.proofs.lookup_ids.add_listed.Given as goal

abbrev pub invariant-loop-vindex : goal.invariant-loop-vindex
invariant-loop-vindex l = l.ids.items ≡ fold (with_vindex l.keyspace l.vindexes) l.initial.ids.items (take l.vindex-index l.listed)
