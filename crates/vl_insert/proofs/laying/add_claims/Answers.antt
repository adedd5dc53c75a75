use Rattle.vl_insert.specs.Begun.{is_indexed_by}
use Rattle.vl_insert.proofs.Laid.{laid_more}
use Rattle.vl_insert.proofs.laying.add_claims.Goals as goal

pub loop-number-preserved : goal.loop-number-preserved
loop-number-preserved c =
    laid_more c.args.catalog.now c.args.row.now (is_indexed_by c.args.catalog.now c.args.row.now) c.args.lookups.now c.loop-number.number-index _ c.args.list.now.items c.loop-number.list.items c.add_claim.new.list.items
    c.loop-number-test.true c.loop-number.invariant c.in_ok-add_claim.ensures
