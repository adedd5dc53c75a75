use Rattle.vl_course_program.proofs.Turned.{turned}
use Rattle.vl_course_program.proofs.law.turns.Goals as goal

pub returns : goal.returns
returns c = turned
