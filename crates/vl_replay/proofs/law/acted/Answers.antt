use Rattle.vl_replay.proofs.ActMoves.{acted_replays}
use Rattle.vl_replay.proofs.law.acted.Goals as goal

pub returns : goal.returns
returns start = acted_replays
