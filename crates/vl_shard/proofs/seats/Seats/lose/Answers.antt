use Rattle.vl_shard.specs.Seats.{lost_by}
use Rattle.vl_shard.proofs.Seating.{numbered_lost, once_lost, rewritten}
use Rattle.vl_shard.proofs.seats.Seats.lose.Goals as goal

pub invariant_of-self : goal.invariant_of-self
invariant_of-self c =
    rw (rewritten (lost_by c.args.fate c.args.who.now) c.self.inside.seats.items c.as_mut_slice.result.now c.lose_all.new.seats c.self.inside.seats.len c.as_mut_slice.ensures.value c.as_mut_slice.ensures.len c.lose_all.ensures)
    (once_lost c.args.fate c.args.who.now c.self.inside.seats.items c.self.invariant.0, numbered_lost c.args.fate c.args.who.now c.self.inside.seats.items c.self.invariant.1)
