use Rattle.vl_course.proofs.Asked.{change_stepped, course_stepped, select_stepped}
use Rattle.vl_course.proofs.law.stands_still.Goals as goal

pub returns-clause-course : goal.returns-clause-course
returns-clause-course c = course_stepped

pub returns-clause-select : goal.returns-clause-select
returns-clause-select c = select_stepped

pub returns-clause-change : goal.returns-clause-change
returns-clause-change c = change_stepped
