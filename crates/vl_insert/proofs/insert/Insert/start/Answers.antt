use Rattle.std.proofs.Common.{◌≤◌, ◌*◌, List, length, sym, subst}
use Rattle.vl_vindex.specs.KeyRange.{Range}
use Rattle.vl_catalog.specs.Place.{shard_count}
use Rattle.vl_route.proofs.Homes.{AreCovering}
use Rattle.vl_insert.specs.Laying.{with_rows}
use Rattle.vl_insert.specs.Making.{IsMade}
use Rattle.vl_insert.specs.Progress.{Progress, actions_left}
use Rattle.vl_insert.proofs.Beginning.{begun_few, begun_made}
use Rattle.vl_insert.proofs.Laid.{tasks_filled}
use Rattle.vl_insert.proofs.insert.Insert.start.Goals as goal

pub returns-in-Ok-clause-begun : goal.returns-in-Ok-clause-begun
returns-in-Ok-clause-begun c =
    let laid = c.in-Ok.laid in
    (with_rows laid.outlines.items c.args.plan.rows, tasks_filled c.args.catalog.now c.args.plan.table c.args.plan.rows laid.outlines.items c.in-Ok.ensures.outlines, c.begin.ensures)

pub returns-in-Ok-clause-made : goal.returns-in-Ok-clause-made
returns-in-Ok-clause-made c = λ limit least.
    let laid = c.in-Ok.laid in
    subst (IsMade c.args.catalog.now (shard_count c.args.catalog.now.rings) limit) (sym c.begin.ensures)
    (begun_made c.args.catalog.now c.args.plan (with_rows laid.outlines.items c.args.plan.rows) limit c.requires.checked (subst (λ (rings : List (List Range)). AreCovering rings (length rings)) c.as_slice.ensures c.each_covers.ensures) c.requires.fits
    (tasks_filled c.args.catalog.now c.args.plan.table c.args.plan.rows laid.outlines.items c.in-Ok.ensures.outlines) least)

pub returns-in-Ok-clause-bound : goal.returns-in-Ok-clause-bound
returns-in-Ok-clause-bound c =
    let laid = c.in-Ok.laid in
    subst (λ (p : Progress). actions_left p ≤ 25 * length c.args.plan.rows) (sym c.begin.ensures)
    (begun_few c.args.catalog.now c.args.plan (with_rows laid.outlines.items c.args.plan.rows) c.requires.checked c.requires.fits
    (tasks_filled c.args.catalog.now c.args.plan.table c.args.plan.rows laid.outlines.items c.in-Ok.ensures.outlines))
