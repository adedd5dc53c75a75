use Rattle.vl_audit.proofs.Listing.{all_listed}
use Rattle.vl_audit.proofs.auditing.listed.Goals as goal

pub returns : goal.returns
returns g c =
    all_listed c.args.catalog.now c.args.tables.now (g.F.Finds.is_found c.args.catalog.now c.args.tables.now) c.new-found.result c.find_by.new.found c.as_slice-lookups.result.now c.in_ok-list.list c.new-found.ensures.empty c.as_slice-lookups.ensures
    c.in_ok-find_by.ensures c.in_ok-list.ensures.keys c.in_ok-list.ensures.order
