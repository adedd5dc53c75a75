use Rattle.vl_course.proofs.Turns.{select_turned}
use Rattle.vl_course.proofs.law.select_turns.Goals as goal

pub returns : goal.returns
returns c = select_turned
