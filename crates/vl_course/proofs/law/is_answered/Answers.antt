use Rattle.vl_course.proofs.Ported.{answered}
use Rattle.vl_course.proofs.law.is_answered.Goals as goal

pub returns : goal.returns
returns c = answered
