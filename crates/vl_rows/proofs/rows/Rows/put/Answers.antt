use Rattle.vl_rows.proofs.Versioning.{in_order}
use Rattle.vl_rows.proofs.rows.Rows.put.Goals as goal

pub returns-in_err-row-clause-order : goal.returns-in_err-row-clause-order
returns-in_err-row-clause-order c = rw (← c.self.view_is) (in_order c.self.inside.slots.items c.self.invariant)
