use Rattle.vl_shard.specs.Seats.{left_by}
use Rattle.vl_shard.proofs.Seating.{numbered_left, once_left, rewritten}
use Rattle.vl_shard.proofs.seats.Seats.leave.Goals as goal

pub invariant_of-self : goal.invariant_of-self
invariant_of-self c =
    rw (rewritten (left_by c.args.who.now) c.self.inside.seats.items c.as_mut_slice.result.now c.leave_all.new.seats c.self.inside.seats.len c.as_mut_slice.ensures.value c.as_mut_slice.ensures.len c.leave_all.ensures)
    (once_left c.args.who.now c.self.inside.seats.items c.self.invariant.0, numbered_left c.args.who.now c.self.inside.seats.items c.self.invariant.1)
