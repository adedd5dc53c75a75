use Rattle.vl_running.proofs.Happening.{over_shows}
use Rattle.vl_running.proofs.law.ends_whole.Goals as goal

pub returns : goal.returns
returns c = over_shows
