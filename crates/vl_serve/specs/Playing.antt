-- What other sessions do between two calls of a gate.
use Rattle.std.specs.Prelude.{◌≡◌, List, [], Contains}
use Rattle.vl_cluster.specs.View.{View, last_event}
use Rattle.vl_cluster.specs.declared.session.Session.{Session}
use Rattle.vl_serve.specs.History.{Event, Run, own_deeds}

-- other sessions' events; each session that was joined stays so with its pass, and the last number stands still
pub record Played (old new : View) : Type 0 where
  pub events : List Event
  pub run : Run old events new
  pub others : own_deeds events ≡ []
  pub kept : (pass : Session) → Contains old.joined pass → Contains new.joined pass
  pub last : old.at ≡ last_event → new.at ≡ last_event
