use Rattle.vl_course_insert.proofs.Asked.{insert_said}
use Rattle.vl_course_insert.proofs.law.begins.Goals as goal

pub returns : goal.returns
returns c = insert_said
