use Rattle.std.proofs.Common.{◌≡◌, ◌++◌, take, drop, map}
use Rattle.vl_shard.specs.Seats.{left_by}
use Rattle.vl_shard.proofs.seats.leave_all.Given as goal

abbrev pub invariant-loop-seat : goal.invariant-loop-seat
invariant-loop-seat l = l.seats ≡ map (left_by l.who) (take l.seat-index l.fn.seats) ++ drop l.seat-index l.fn.seats
