use Rattle.vl_course.proofs.Bystanders.{change_killed, change_others, course_killed, course_stays, select_killed, select_others, tx_stays, unused_stay}
use Rattle.vl_course.proofs.law.stands_aside.Goals as goal

pub returns-clause-course : goal.returns-clause-course
returns-clause-course c = course_stays

pub returns-clause-select : goal.returns-clause-select
returns-clause-select c = select_others

pub returns-clause-course_killed : goal.returns-clause-course_killed
returns-clause-course_killed c = course_killed

pub returns-clause-select_killed : goal.returns-clause-select_killed
returns-clause-select_killed c = select_killed

pub returns-clause-tx : goal.returns-clause-tx
returns-clause-tx c = tx_stays

pub returns-clause-unused : goal.returns-clause-unused
returns-clause-unused c = unused_stay

pub returns-clause-change : goal.returns-clause-change
returns-clause-change c = change_others

pub returns-clause-change_killed : goal.returns-clause-change_killed
returns-clause-change_killed c = change_killed
