use Rattle.vl_course_program.proofs.Cases.{killed_at, others_at}
use Rattle.vl_course_program.proofs.law.stands_aside.Goals as goal

pub returns-clause-other : goal.returns-clause-other
returns-clause-other c = others_at

pub returns-clause-killed : goal.returns-clause-killed
returns-clause-killed c = killed_at
