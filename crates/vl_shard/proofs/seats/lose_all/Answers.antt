use Rattle.std.proofs.Common.{◌<◌, length, arith}
use Rattle.vl_shard.specs.Seats.{lost_by}
use Rattle.vl_shard.proofs.Seating.{written_over}
use Rattle.vl_shard.proofs.seats.lose_all.Goals as goal

pub loop-seat-preserved : goal.loop-seat-preserved
loop-seat-preserved c =
    let within : c.loop-seat.seat-index < length c.args.seats.now = omega arith in
    written_over (lost_by c.args.fate c.args.who.now) c.args.seats.now c.loop-seat.seats c.loop-seat.seat-index c.lose_seat.new.seat within c.loop-seat.auto.seats c.loop-seat.invariant c.lose_seat.ensures
