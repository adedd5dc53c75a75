use Rattle.vl_course_commit.proofs.Nothing.{none_opens}
use Rattle.vl_course_commit.proofs.law.opens_none.Goals as goal

pub returns : goal.returns
returns c = none_opens
