-- What each call does to what a disk tells.
use Rattle.std.specs.Prelude.{◌≡◌, ◌≤◌, ◌+◌, ◌-◌, ◌∷◌, ◌||◌, ℕ, List, length, Bool, true, false, if◌then◌else◌, IsTrue, nat_le, ◌⊎◌, IsSome, Option, Some, None}
use Rattle.vl_base.specs.Faults.{Rose}
use Rattle.vl_disk.specs.Moment.{IsLeft, Narrows, Torn, at_rest, put, touched}
use Rattle.vl_disk.specs.DiskView.{DiskView, Stops, no_stops}
use Rattle.vl_disk.specs.declared.stop.Stop.{Stop}
use Rattle.vl_disk.specs.declared.stop.Stop.TheVariants.{Fail, Crash}

-- what no call changes
pub record IsSameDisk (v w : DiskView) : Type 0 where
  pub honest : w.is_honest ≡ v.is_honest
  pub can_stop : w.can_stop ≡ v.can_stop
  pub room : v.room ≤ w.room

-- The count of faults never falls. It stays where the call succeeds, and a call fails only where it rose.
pub record HasCauseIf (failed : Bool) (before now : ℕ) : Type 0 where
  pub later : before ≤ now
  pub kept : failed ≡ false → now ≡ before
  pub rose : failed ≡ true → Rose before now

-- the stop comes at the next device call
abbrev pub is_due : Option ℕ → Bool
is_due None = false
is_due (Some n) = nat_le n 1

-- after one more device call
abbrev pub counted_down : Option ℕ → Option ℕ
counted_down None = None
counted_down (Some n) = if nat_le n 1 then None else Some (n - 1)

abbrev pub both_counted_down : Stops → Stops
both_counted_down s = record { fail = counted_down s.fail; crash = counted_down s.crash }

-- A device call was made, and failed or didn't. From a stop to the revival each call fails and counts nothing.
pub record IsCalled (failed : Bool) (v w : DiskView) : Type 0 where
  pub same : IsSameDisk v w
  pub cause : HasCauseIf failed v.faults w.faults
  pub stops : w.stops ≡ (if v.is_stopped then v.stops else both_counted_down v.stops)
  pub stopped : w.is_stopped ≡ (v.is_stopped || is_due v.stops.crash)
  pub failing : IsTrue (v.is_stopped || (is_due v.stops.crash || is_due v.stops.fail)) → failed ≡ true

-- the file was left alone
pub record IsStill (v w : DiskView) : Type 0 where
  pub now : w.now ≡ v.now
  pub before : w.before ≡ v.before
  pub age : w.age ≡ v.age

-- faults and stops were left alone
pub record IsUncalled (v w : DiskView) : Type 0 where
  pub same : IsSameDisk v w
  pub faults : w.faults ≡ v.faults
  pub stops : w.stops ≡ v.stops

-- A write of these bytes at this offset. One that failed counts as one that wrote its range.
pub record IsWritten (offset : ℕ) (bytes : List ℕ) (failed : Bool) (v w : DiskView) : Type 0 where
  pub before : w.before ≡ v.now ∷ v.before
  pub age : w.age ≡ v.age + 1
  pub written : failed ≡ false → w.now.seen ≡ put v.now.seen offset bytes
  pub others : Torn offset (length bytes) v.now.seen w.now.seen
  pub crash : Narrows w.now (touched offset (length bytes) v.now)

-- A sync. After one that succeeded a crash leaves what a read gives, and one that failed syncs nothing.
pub record IsSynced (failed : Bool) (v w : DiskView) : Type 0 where
  pub before : w.before ≡ v.now ∷ v.before
  pub age : w.age ≡ v.age + 1
  pub synced : failed ≡ false → w.now ≡ at_rest v.now.seen
  pub kept : failed ≡ true → w.now ≡ v.now

-- A revival: the file is one that a crash may have left, all of it on the disk.
pub record IsRevived (v w : DiskView) : Type 0 where
  pub before : w.before ≡ v.now ∷ v.before
  pub age : w.age ≡ v.age + 1
  pub image : List ℕ
  pub is_left : IsLeft v.now image
  pub now : w.now ≡ at_rest image

abbrev pub armed_of : Stop → Stops → Option ℕ
armed_of Fail s = s.fail
armed_of Crash s = s.crash

abbrev pub with_armed : Stop → Option ℕ → Stops → Stops
with_armed Fail n s = record s { fail = n }
with_armed Crash n s = record s { crash = n }

-- armed, where it can stop
abbrev pub after_arming : ℕ → Stop → DiskView → DiskView
after_arming n stop v = record v { stops = (if v.can_stop then with_armed stop (Some n) v.stops else v.stops) }

-- An armed stop was taken away, or none is armed.
abbrev pub IsDisarmed : Option (ℕ × Stop) → DiskView → DiskView → Type 0
IsDisarmed None v w = (v.stops ≡ no_stops) × (w ≡ v)
IsDisarmed (Some (n, stop)) v w = (armed_of stop v.stops ≡ Some n) × (w ≡ record v { stops = with_armed stop None v.stops })

-- Device calls were made one after the other, the last of which failed or didn't. No stop comes from nowhere.
pub record IsUsed (failed : Bool) (v w : DiskView) : Type 0 where
  pub same : IsSameDisk v w
  pub cause : HasCauseIf failed v.faults w.faults
  pub quiet : v.stops ≡ no_stops → v.is_stopped ≡ false → (w.stops ≡ no_stops) × (w.is_stopped ≡ false)
  pub stopped : w.is_stopped ≡ true → (v.is_stopped ≡ true) ⊎ IsSome v.stops.crash
  pub armed : IsSome w.stops.crash → IsSome v.stops.crash
