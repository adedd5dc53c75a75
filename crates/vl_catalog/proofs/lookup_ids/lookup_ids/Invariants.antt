use Rattle.std.proofs.Common.{◌≡◌, drop}
use Rattle.vl_catalog.specs.Build.{declared_from, lookup_ids}
use Rattle.vl_catalog.proofs.lookup_ids.lookup_ids.Given as goal

abbrev pub invariant-loop-keyspace : goal.invariant-loop-keyspace
invariant-loop-keyspace l = declared_from l.keyspace (drop l.keyspace l.parts) l.ids.items ≡ lookup_ids l.parts l.tables
