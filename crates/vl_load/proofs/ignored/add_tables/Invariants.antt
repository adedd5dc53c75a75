use Rattle.std.proofs.Common.{◌≡◌, ◌++◌, drop}
use Rattle.std.specs.List.{flat_map}
use Rattle.vl_catalog.specs.declared.table_def.TableDef.{TableDef}
use Rattle.vl_load.specs.Ignored.{paths_in}
use Rattle.vl_load.proofs.ignored.add_tables.Given as goal

abbrev pub invariant-loop-table : goal.invariant-loop-table
invariant-loop-table l = l.all.items ++ flat_map (λ (table : TableDef). paths_in l.file table.ignored) (drop l.table-index l.tables)
    ≡ l.fn.all.items ++ flat_map (λ (table : TableDef). paths_in l.file table.ignored) l.tables
