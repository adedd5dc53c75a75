use Rattle.vl_course.proofs.Asked.{change_said, course_opened, course_said, select_said}
use Rattle.vl_course.proofs.law.begins.Goals as goal

pub returns-clause-said : goal.returns-clause-said
returns-clause-said c = course_said

pub returns-clause-opened : goal.returns-clause-opened
returns-clause-opened c = course_opened

pub returns-clause-select : goal.returns-clause-select
returns-clause-select c = select_said

pub returns-clause-change : goal.returns-clause-change
returns-clause-change c = change_said
