use Rattle.vl_replay.proofs.Closed.{closed_whole}
use Rattle.vl_replay.proofs.Ends.{whole_has_nothing}
use Rattle.vl_replay.proofs.law.ended.Goals as goal

pub returns : goal.returns
returns start = record { closed = closed_whole; nothing = whole_has_nothing }
