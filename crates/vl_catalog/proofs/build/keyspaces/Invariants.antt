use Rattle.std.proofs.Common.{◌≡◌, map, take}
use Rattle.vl_catalog.specs.Build.{keyspace_of}
use Rattle.vl_catalog.proofs.build.keyspaces.Given as goal

abbrev pub invariant-loop-part : goal.invariant-loop-part
invariant-loop-part l = l.keyspaces.items ≡ map keyspace_of (take l.part-index l.parts)
