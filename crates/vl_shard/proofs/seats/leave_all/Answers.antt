use Rattle.std.proofs.Common.{◌<◌, length, arith}
use Rattle.vl_shard.specs.Seats.{left_by}
use Rattle.vl_shard.proofs.Seating.{written_over}
use Rattle.vl_shard.proofs.seats.leave_all.Goals as goal

pub loop-seat-preserved : goal.loop-seat-preserved
loop-seat-preserved c =
    let within : c.loop-seat.seat-index < length c.args.seats.now = omega arith in
    written_over (left_by c.args.who.now) c.args.seats.now c.loop-seat.seats c.loop-seat.seat-index c.leave_seat.new.seat within c.loop-seat.auto.seats c.loop-seat.invariant c.leave_seat.ensures
