use Rattle.vl_course.proofs.Allowing.{ok_told, refusal_told, rows_told}
use Rattle.vl_course.proofs.law.tells_truly.Goals as goal

pub returns-clause-refusal : goal.returns-clause-refusal
returns-clause-refusal c = refusal_told

pub returns-clause-rows : goal.returns-clause-rows
returns-clause-rows c = rows_told

pub returns-clause-ok : goal.returns-clause-ok
returns-clause-ok c = ok_told
