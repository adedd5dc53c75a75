use Rattle.vl_replay.proofs.Ends.{committed_replays, done_was_done, ended_steps}
use Rattle.vl_replay.proofs.law.committed.Goals as goal

pub returns : goal.returns
returns start = record { replays = committed_replays; done = done_was_done; steps = ended_steps }
