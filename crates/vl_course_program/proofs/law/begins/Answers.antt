use Rattle.vl_course_program.proofs.Cases.{begun_at}
use Rattle.vl_course_program.proofs.law.begins.Goals as goal

pub returns : goal.returns
returns c = begun_at
