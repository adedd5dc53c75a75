use Rattle.vl_course_insert.proofs.Found.{found_as}
use Rattle.vl_course_insert.proofs.law.is_found.Goals as goal

pub returns : goal.returns
returns c = found_as
