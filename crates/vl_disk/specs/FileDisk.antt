-- What a disk over a file of the system tells: its counts alone.
use Rattle.std.specs.Prelude.{[], ℕ, false, refl}
use Rattle.std.proofs.Common.{arith}
use Rattle.vl_disk.specs.Moment.{IsLeft, at_rest}
use Rattle.vl_disk.specs.DiskView.{DiskView, no_stops}

pub record FileDiskState : Type 0 where
  pub faults : ℕ
  pub room : ℕ
  pub spare : ℕ

abbrev pub told_file : FileDiskState → DiskView
told_file d = record {
  is_honest = false;
  now = at_rest [];
  before = [];
  age = 0;
  faults = d.faults;
  room = d.room;
  spare = d.spare;
  can_stop = false;
  stops = no_stops;
  is_stopped = false;
}

abbrev pub new_file : FileDiskState
new_file = record { faults = 0; room = 0; spare = 0 }

pub nothing_left : IsLeft (at_rest []) []
nothing_left = record { no_shorter = omega arith; no_longer = omega arith; same = λ i inside outside. refl }
