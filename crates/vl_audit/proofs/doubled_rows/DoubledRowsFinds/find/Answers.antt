use Rattle.std.proofs.Common.{rules, ◌≡◌, true}
use Rattle.vl_audit.specs.Audit.{IsDoubled}
use Rattle.vl_audit.specs.Giving.{is_doubled}
use Rattle.vl_audit.proofs.Adding.{adds}
use Rattle.vl_audit.proofs.Sharing.{doubled_from, doubled_is, has_again}
use Rattle.vl_audit.proofs.doubled_rows.DoubledRowsFinds.find.Goals as goal

pub returns : goal.returns
returns c =
    let lookup = c.args.lookup.now in
    let tables = c.args.tables.now in
    let first = c.in_ok-first.first in
    let repeated = c.in_ok-repeated.repeated in
    let unique : lookup.unique ≡ true = search rules in
    adds (is_doubled (has_again lookup tables first repeated) lookup) tables (IsDoubled tables lookup)
    (doubled_from lookup tables first repeated c.in_ok-first.ensures c.in_ok-repeated.ensures unique) (doubled_is lookup tables first repeated c.in_ok-first.ensures c.in_ok-repeated.ensures) c.args.found.now c.gather.new.map c.in_ok-gather.ensures
