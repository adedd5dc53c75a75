use Rattle.vl_replay.proofs.Refusals.{failed_shows, lost_shows, owned_acted, owned_closed, owned_committed, owned_killed}
use Rattle.vl_replay.proofs.law.refused.Goals as goal

pub returns : goal.returns
returns start = record { lost = lost_shows; failed = failed_shows; owned_acted = owned_acted; owned_committed = owned_committed; owned_closed = owned_closed; owned_killed = owned_killed }
