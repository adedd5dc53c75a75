use Rattle.vl_seats.proofs.Coming.{seats_without}
use Rattle.vl_seats.proofs.law.stands_up.Goals as goal

pub returns : goal.returns
returns c = seats_without
