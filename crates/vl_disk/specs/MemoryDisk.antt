-- A disk in memory, and which of its calls fail.
use Rattle.std.specs.Prelude.{◌-◌, ◌∷◌, [], ◌||◌, ℕ, List, length, Bool, true, false, if◌then◌else◌}
use Rattle.vl_base.specs.Fakes.{PlanState, fails_next, plan_after}
use Rattle.vl_disk.specs.Moment.{Moment}
use Rattle.vl_disk.specs.DiskView.{DiskView, Stops, no_stops}
use Rattle.vl_disk.specs.Calls.{both_counted_down, is_due}
use Rattle.vl_disk.specs.Content.{FileContent, moment_of, rested}
use Rattle.vl_disk.specs.declared.verdict.Verdict.{Verdict}
use Rattle.vl_disk.specs.declared.verdict.Verdict.TheVariants.{Passes, Fails, Crashes}

pub record MemoryState : Type 0 where
  pub content : FileContent
  -- the moments before each write, sync and revival, the newest first
  pub before : List Moment
  pub room : ℕ
  pub spare : ℕ
  -- the device calls that fail
  pub plan : PlanState
  pub stops : Stops
  pub is_stopped : Bool

abbrev pub told_memory : MemoryState → DiskView
told_memory d = record {
  is_honest = true;
  now = moment_of d.content;
  before = d.before;
  age = length d.before;
  faults = d.plan.faults;
  room = d.room;
  spare = d.spare;
  can_stop = true;
  stops = d.stops;
  is_stopped = d.is_stopped;
}

abbrev pub new_disk : List ℕ → List ℕ → MemoryState
new_disk bytes failing = record {
  content = rested bytes;
  before = [];
  room = length bytes;
  spare = 0;
  plan = record { failing = failing; calls = 0; faults = 0 };
  stops = no_stops;
  is_stopped = false;
}

-- how the next device call goes: a crash decides where a failure meets the same call
abbrev pub verdict_of : MemoryState → Verdict
verdict_of d =
    if d.is_stopped then Fails
    else if is_due d.stops.crash then Crashes
    else if is_due d.stops.fail || fails_next d.plan then Fails
    else Passes

abbrev pub is_failure : Verdict → Bool
is_failure Passes = false
is_failure Fails = true
is_failure Crashes = true

-- a write that passes or crashes is among the unsynced ones
abbrev pub is_written : Verdict → Bool
is_written Passes = true
is_written Fails = false
is_written Crashes = true

-- one device call is counted
abbrev pub counted : MemoryState → MemoryState
counted d = record d {
  plan = plan_after d.plan (is_failure (verdict_of d));
  stops = (if d.is_stopped then d.stops else both_counted_down d.stops);
  is_stopped = d.is_stopped || is_due d.stops.crash;
}

-- a write, a sync or a revival that leaves this content
abbrev pub gone_on : FileContent → MemoryState → MemoryState
gone_on content d = record d { content = content; before = moment_of d.content ∷ d.before; spare = d.spare - 1 }
