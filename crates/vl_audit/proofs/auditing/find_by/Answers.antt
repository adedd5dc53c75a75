use Rattle.std.proofs.Common.{arith}
use Rattle.vl_audit.proofs.Listing.{by_one_more}
use Rattle.vl_audit.proofs.auditing.find_by.Goals as goal

pub loop-lookup-preserved : goal.loop-lookup-preserved
loop-lookup-preserved g c =
    by_one_more c.args.tables.now (g.F.Finds.is_found c.args.catalog.now c.args.tables.now) c.args.lookups.now c.loop-lookup.lookup-index c.lookup-item.result c.args.found.now c.loop-lookup.found c.find.new.found (omega arith) c.lookup-item.is
    c.in_ok-find.ensures c.loop-lookup.invariant
