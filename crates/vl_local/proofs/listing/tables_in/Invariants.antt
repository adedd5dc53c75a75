use Rattle.std.proofs.Common.{◌≡◌, map, take}
use Rattle.std.specs.Prelude.{filter}
use Rattle.vl_catalog.specs.declared.table.Table.{Table}
use Rattle.vl_run.specs.Local.{is_chosen}
use Rattle.vl_local.proofs.listing.tables_in.Given as goal

abbrev pub invariant-loop-table : goal.invariant-loop-table
invariant-loop-table l = l.names.items ≡ map (λ (table : Table). table.name) (filter (is_chosen l.catalog l.chosen) (take l.table-index l.table-items))
