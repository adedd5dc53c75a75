use Rattle.vl_seats.proofs.Coming.{joined_with, joined_without}
use Rattle.vl_seats.proofs.Sitting.{joined_sits}
use Rattle.vl_seats.proofs.law.stays_joined.Goals as goal

pub returns-clause-sits : goal.returns-clause-sits
returns-clause-sits c = joined_sits

pub returns-clause-joins : goal.returns-clause-joins
returns-clause-joins c = λ e past join joins. joined_with past e join joins

pub returns-clause-leaves : goal.returns-clause-leaves
returns-clause-leaves c = λ e past leave. joined_without past e leave
