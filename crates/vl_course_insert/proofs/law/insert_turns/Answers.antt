use Rattle.vl_course_insert.proofs.Turns.{insert_turned}
use Rattle.vl_course_insert.proofs.law.insert_turns.Goals as goal

pub returns : goal.returns
returns c = insert_turned
