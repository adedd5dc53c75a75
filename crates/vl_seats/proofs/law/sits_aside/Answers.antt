use Rattle.vl_seats.proofs.Seats.{seats_stand}
use Rattle.vl_seats.proofs.law.sits_aside.Goals as goal

pub returns : goal.returns
returns c = seats_stand
