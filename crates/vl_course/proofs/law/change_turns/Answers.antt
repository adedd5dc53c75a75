use Rattle.vl_course.proofs.ChangeTurns.{change_turned}
use Rattle.vl_course.proofs.law.change_turns.Goals as goal

pub returns : goal.returns
returns c = change_turned
