use Rattle.std.proofs.Common.{◌≡◌, ◌++◌, map, take, drop}
use Rattle.vl_catalog.specs.Build.{with_lookups}
use Rattle.vl_catalog.proofs.build.add_all_lookups.Given as goal

abbrev pub invariant-loop-table : goal.invariant-loop-table
invariant-loop-table l = l.tables ≡ map (with_lookups l.parts l.ids) (take l.table-index l.fn.tables) ++ drop l.table-index l.fn.tables
