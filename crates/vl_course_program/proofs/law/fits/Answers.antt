use Rattle.vl_course_program.proofs.Lanes.{due_fit}
use Rattle.vl_course_program.proofs.law.fits.Goals as goal

pub returns : goal.returns
returns c = due_fit
