use Rattle.vl_catalog.specs.Build.{with_lookups}
use Rattle.vl_catalog.proofs.Walk.{walk_more}
use Rattle.vl_catalog.proofs.build.add_all_lookups.Goals as goal

pub loop-table-preserved : goal.loop-table-preserved
loop-table-preserved c =
    walk_more (with_lookups c.args.parts.now c.args.ids.now) c.args.tables.now c.loop-table.tables c.loop-table.table-index
    c.table-item.result c.add_lookups.new.table c.loop-table.invariant c.loop-table-test.true
    c.in_ok-add_lookups.ensures
