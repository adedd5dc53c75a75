use Rattle.vl_course_program.proofs.Cases.{stepped_at}
use Rattle.vl_course_program.proofs.law.stands_still.Goals as goal

pub returns : goal.returns
returns c = stepped_at
