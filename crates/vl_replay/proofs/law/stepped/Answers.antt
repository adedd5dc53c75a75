use Rattle.vl_replay.proofs.Stepping.{acted_steps}
use Rattle.vl_replay.proofs.law.stepped.Goals as goal

pub returns : goal.returns
returns start = acted_steps
