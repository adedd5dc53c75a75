use Rattle.vl_seats.proofs.Coming.{seats_with}
use Rattle.vl_seats.proofs.law.sits_down.Goals as goal

pub returns : goal.returns
returns c = λ catalog limits past count seen e numbers seats join joins numbered joined before. seats_with catalog limits past count seen e join joins numbers seats before
