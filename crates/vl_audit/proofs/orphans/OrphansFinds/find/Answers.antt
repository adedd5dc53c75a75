use Rattle.vl_model.specs.Sound.{IsOrphan}
use Rattle.vl_audit.specs.Giving.{is_unneeded}
use Rattle.vl_audit.proofs.Adding.{adds, has, orphan_from, orphan_is}
use Rattle.vl_audit.proofs.orphans.OrphansFinds.find.Goals as goal

pub returns : goal.returns
returns c =
    let catalog = c.args.catalog.now in
    let lookup = c.args.lookup.now in
    let tables = c.args.tables.now in
    let needed = c.in_ok-needed.needed in
    adds (is_unneeded (has catalog lookup tables needed) lookup) tables (IsOrphan catalog tables lookup) (orphan_from catalog lookup tables needed c.in_ok-needed.ensures)
    (orphan_is catalog lookup tables needed c.in_ok-needed.ensures) c.args.found.now c.gather.new.map c.in_ok-gather.ensures
