use Rattle.std.proofs.Common.{◌≡◌, take}
use Rattle.vl_catalog.specs.Build.{ids_listed}
use Rattle.vl_catalog.proofs.lookup_ids.ids_listed.Given as goal

abbrev pub invariant-loop-table : goal.invariant-loop-table
invariant-loop-table l = l.ids.items ≡ ids_listed l.parts (take l.table-index l.tables)
