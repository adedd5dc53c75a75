use Rattle.vl_course_program.proofs.Told.{told}
use Rattle.vl_course_program.proofs.law.is_answered.Goals as goal

pub returns : goal.returns
returns c = told
