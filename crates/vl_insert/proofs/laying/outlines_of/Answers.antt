use Rattle.std.proofs.Common.{List, sym, ap, subst, ◌∙◌, ◌+◌, take}
use Rattle.vl_insert.proofs.Beginning.{indexed}
use Rattle.vl_insert.proofs.Laid.{next_outlines, row_among}
use Rattle.vl_insert.proofs.laying.outlines_of.Goals as goal

pub add_row-requires-clause-indexed : goal.add_row-requires-clause-indexed
add_row-requires-clause-indexed c = λ whole l listed is.
    indexed c.args.catalog.now c.args.plan.now c.as_slice.result.now c.requires.checked c.requires.fits
    (row_among c.as_slice-row-items.result.now c.args.plan.now.rows c.loop-row.row-index c.row-item.result c.as_slice.result.now c.as_slice-row-items.ensures c.loop-row-test.true c.row-item.is c.as_slice.ensures) whole l listed is

pub loop-row-preserved : goal.loop-row-preserved
loop-row-preserved c =
    next_outlines c.args.catalog.now c.args.plan.now.table c.as_slice-row-items.result.now c.args.plan.now.rows c.loop-row.row-index c.row-item.result c.as_slice.result.now c.loop-row.list.items c.add_row.new.list.items c.as_slice-row-items.ensures c.loop-row-test.true
    c.row-item.is c.as_slice.ensures c.loop-row.invariant c.in_ok-add_row.ensures
