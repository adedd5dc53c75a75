use Rattle.vl_replay.proofs.LostActs.{lost_frees}
use Rattle.vl_replay.proofs.law.lost.Goals as goal

pub returns : goal.returns
returns start = lost_frees
