-- The trace that a cluster keeps.
use Rattle.std.specs.Prelude.{ℕ, List, ◌∷◌, ◌++◌, map}
use Rattle.vl_run.specs.declared.event.Event.{Event}
use Rattle.vl_run.specs.Run.{Opening, Run}
use Rattle.vl_run.specs.Run.Point.{Began, Happened}

-- the events, the last first, and for how many more there is room
pub record TraceView : Type 0 where
  pub events : List Event
  pub room : ℕ

-- the run of a cluster that was opened so behind others, and whose events these are
abbrev pub run_of : List Event → Opening → Run → Run
run_of events opening earlier = map (λ e. Happened e) events ++ Began opening ∷ earlier
