use Rattle.std.proofs.Common.{◌≡◌, map, take}
use Rattle.vl_catalog.specs.declared.keyspace.Keyspace.{Keyspace}
use Rattle.vl_local.proofs.listing.keyspaces_of.Given as goal

abbrev pub invariant-loop-keyspace : goal.invariant-loop-keyspace
invariant-loop-keyspace l = l.names.items ≡ map (λ (keyspace : Keyspace). keyspace.name) (take l.keyspace-index l.keyspaces)
