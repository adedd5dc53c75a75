use Rattle.vl_course.proofs.Numbers.{answers_numbered, deed_apart, numbered_by, owned_asked, run_numbered}
use Rattle.vl_course.proofs.Owners.{done_own}
use Rattle.vl_course.proofs.law.are_numbered.Goals as goal

pub returns-clause-run : goal.returns-clause-run
returns-clause-run c = run_numbered

pub returns-clause-event : goal.returns-clause-event
returns-clause-event c = numbered_by

pub returns-clause-answer : goal.returns-clause-answer
returns-clause-answer c = answers_numbered

pub returns-clause-asked : goal.returns-clause-asked
returns-clause-asked c = owned_asked

pub returns-clause-own : goal.returns-clause-own
returns-clause-own c = done_own

pub returns-clause-other : goal.returns-clause-other
returns-clause-other c = deed_apart
