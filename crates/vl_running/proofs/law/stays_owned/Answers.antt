use Rattle.vl_running.proofs.Owned.{step_owned}
use Rattle.vl_running.proofs.law.stays_owned.Goals as goal

pub returns : goal.returns
returns c = step_owned
