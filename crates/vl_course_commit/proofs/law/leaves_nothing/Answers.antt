use Rattle.vl_course_commit.proofs.Nothing.{nothing_left}
use Rattle.vl_course_commit.proofs.law.leaves_nothing.Goals as goal

pub returns : goal.returns
returns c = nothing_left
