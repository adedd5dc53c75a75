use Rattle.vl_running.proofs.Happening.{open_marks, open_shows, over_steps}
use Rattle.vl_running.proofs.law.stays_open.Goals as goal

pub returns : goal.returns
returns c = record { shows = open_shows; marks = open_marks; steps = over_steps }
