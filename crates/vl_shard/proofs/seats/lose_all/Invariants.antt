use Rattle.std.proofs.Common.{◌≡◌, ◌++◌, take, drop, map}
use Rattle.vl_shard.specs.Seats.{lost_by}
use Rattle.vl_shard.proofs.seats.lose_all.Given as goal

abbrev pub invariant-loop-seat : goal.invariant-loop-seat
invariant-loop-seat l = l.seats ≡ map (lost_by l.fate l.who) (take l.seat-index l.fn.seats) ++ drop l.seat-index l.fn.seats
