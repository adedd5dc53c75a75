use Rattle.vl_replay.proofs.Standing.{acted_shows, closed_shows, committed_shows, killed_shows, opened_shows}
use Rattle.vl_replay.proofs.law.stands.Goals as goal

pub returns : goal.returns
returns start = record { acted = acted_shows; committed = committed_shows; killed = killed_shows; closed = closed_shows; opened = opened_shows }
