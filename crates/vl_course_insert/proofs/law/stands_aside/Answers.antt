use Rattle.vl_course_insert.proofs.Asked.{insert_killed, insert_others}
use Rattle.vl_course_insert.proofs.law.stands_aside.Goals as goal

pub returns-clause-other : goal.returns-clause-other
returns-clause-other c = insert_others

pub returns-clause-killed : goal.returns-clause-killed
returns-clause-killed c = insert_killed
