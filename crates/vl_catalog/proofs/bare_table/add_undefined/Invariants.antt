use Rattle.std.proofs.Common.{◌≡◌, ◌++◌, map, take, not}
use Rattle.std.specs.Prelude.{filter}
use Rattle.vl_catalog.specs.Build.{is_defined, undefined_table}
use Rattle.vl_catalog.proofs.bare_table.add_undefined.Given as goal

abbrev pub invariant-loop-table : goal.invariant-loop-table
invariant-loop-table l =
    l.tables.items ≡ l.initial.tables.items ++ map (undefined_table l.keyspace) (filter (λ table. not (is_defined l.defs table.name)) (take l.table-index l.listed))
