-- What a disk tells: the file as it is and as it was at earlier moments, its counts and its armed stops.
use Rattle.std.specs.Prelude.{◌≡◌, ◌+◌, ◌++◌, ◌∷◌, [], ℕ, List, length, Bool, Option, None}
use Rattle.vl_disk.specs.Moment.{Moment}

-- after how many device calls a stop comes, the next call being 1; none where it isn't armed
pub record Stops : Type 0 where
  pub fail : Option ℕ
  pub crash : Option ℕ

abbrev pub no_stops : Stops
no_stops = record { fail = None; crash = None }

pub record DiskView : Type 0 where
  -- whether `now` and `before` are those of the file; where it is false they say nothing
  pub is_honest : Bool
  pub now : Moment
  -- the moments before each write, sync and revival, the newest first
  pub before : List Moment
  -- how many of these calls are counted
  pub age : ℕ
  -- how often a device call has failed; it stands still at the largest `u64`
  pub faults : ℕ
  -- up to which length the file may be written
  pub room : ℕ
  -- for how many more writes, syncs and revivals there is room
  pub spare : ℕ
  -- whether stops can be armed
  pub can_stop : Bool
  pub stops : Stops
  -- whether a crash has stopped it
  pub is_stopped : Bool

-- all moments, the newest first
abbrev pub moments : DiskView → List Moment
moments v = v.now ∷ v.before

abbrev pub Every : (Moment → Type 0) → List Moment → Type 0
Every P [] = Unit {0}
Every P (m ∷ ms) = P m × Every P ms

-- From the first view to the second, some moments came, and each has P.
pub record Passes (P : Moment → Type 0) (old new : DiskView) : Type 0 where
  pub newer : List Moment
  pub past : moments new ≡ newer ++ moments old
  pub each : Every P newer
  pub counted : new.age ≡ old.age + length newer
