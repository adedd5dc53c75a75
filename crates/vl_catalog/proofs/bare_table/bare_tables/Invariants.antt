use Rattle.std.proofs.Common.{◌≡◌, ◌++◌, drop}
use Rattle.vl_catalog.specs.Build.{tables_from}
use Rattle.vl_catalog.proofs.bare_table.bare_tables.Given as goal

abbrev pub invariant-loop-keyspace : goal.invariant-loop-keyspace
invariant-loop-keyspace l = l.tables.items ++ tables_from l.keyspace (drop l.keyspace l.parts) ≡ tables_from 0 l.parts
