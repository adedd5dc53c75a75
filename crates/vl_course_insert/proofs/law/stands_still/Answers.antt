use Rattle.vl_course_insert.proofs.Asked.{insert_stepped}
use Rattle.vl_course_insert.proofs.law.stands_still.Goals as goal

pub returns : goal.returns
returns c = insert_stepped
