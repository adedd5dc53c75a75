use Rattle.vl_seats.proofs.Coming.{unopened_stay}
use Rattle.vl_seats.proofs.Seats.{kills_none}
use Rattle.vl_seats.proofs.law.stays_unopened.Goals as goal

pub returns : goal.returns
returns c = λ catalog limits past count old new e n s by sits opens numbered steady seated leaves before. unopened_stay catalog limits past count old new e n s opens numbered seated (kills_none e.request sits) leaves before
