use Rattle.vl_audit.specs.Audit.{IsMissing}
use Rattle.vl_audit.specs.Giving.{is_unmet}
use Rattle.vl_audit.proofs.Adding.{adds, has, missing_from, missing_is}
use Rattle.vl_audit.proofs.missing.MissingFinds.find.Goals as goal

pub returns : goal.returns
returns c =
    let catalog = c.args.catalog.now in
    let lookup = c.args.lookup.now in
    let tables = c.args.tables.now in
    let entries = c.in_ok-entries.entries in
    adds (is_unmet (has catalog lookup tables entries) catalog lookup) tables (IsMissing catalog tables lookup) (missing_from catalog lookup tables entries c.in_ok-entries.ensures)
    (missing_is catalog lookup tables entries c.in_ok-entries.ensures) c.args.found.now c.gather.new.map c.in_ok-gather.ensures
