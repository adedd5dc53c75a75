use Rattle.std.proofs.Common.{◌≡◌, ◌++◌, map, take}
use Rattle.vl_catalog.specs.Build.{defined_table}
use Rattle.vl_catalog.proofs.bare_table.add_defined.Given as goal

abbrev pub invariant-loop-def : goal.invariant-loop-def
invariant-loop-def l = l.tables.items ≡ l.initial.tables.items ++ map (defined_table l.keyspace l.vschema) (take l.def-index l.defs)
