use Rattle.vl_values.proofs.Keying.{in_order_none}
use Rattle.vl_locks.proofs.locks.Locks.new.Goals as goal

pub invariant_of-result : goal.invariant_of-result
invariant_of-result c = rw c.new.ensures.items in_order_none
