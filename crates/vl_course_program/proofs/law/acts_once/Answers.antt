use Rattle.vl_course_program.proofs.Acting.{acts_once}
use Rattle.vl_course_program.proofs.law.acts_once.Goals as goal

pub returns : goal.returns
returns c = acts_once
