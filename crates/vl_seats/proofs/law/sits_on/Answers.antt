use Rattle.vl_seats.proofs.Own.{sits_anew, sits_on}
use Rattle.vl_seats.proofs.law.sits_on.Goals as goal

pub returns-clause-answered : goal.returns-clause-answered
returns-clause-answered c = sits_on

pub returns-clause-reset : goal.returns-clause-reset
returns-clause-reset c = sits_anew
