-- What the disks of all shards tell.
use Rattle.std.specs.Prelude.{◌≡◌, ◌≤◌, ℕ, Bool, false, Result, Ok, Err}
use Rattle.vl_base.specs.Faults.{Rose}
use Rattle.vl_disk.specs.DiskView.{DiskView}
use Rattle.vl_disk.specs.declared.open_fault.OpenFault.{OpenFault}
use Rattle.vl_disk.specs.declared.open_fault.OpenFault.TheVariants.{Failed, Memory}

-- the two sides of a shard; where they are handed out, a and b say nothing
pub record SidesView : Type 0 where
  pub a : DiskView
  pub b : DiskView
  pub is_out : Bool

-- sides that are held and tell this
abbrev pub kept : DiskView → DiskView → SidesView
kept a b = record { a = a; b = b; is_out = false }

-- The count of faults never falls, and `Failed` is told only where it rose.
abbrev pub IsOpenCounted : {T : Type 0} → ℕ → ℕ → Result T OpenFault → Type 0
IsOpenCounted before now (Ok sides) = now ≡ before
IsOpenCounted before now (Err Memory) = now ≡ before
IsOpenCounted before now (Err Failed) = Rose before now

pub record HasOpenCause {T : Type 0} (before now : ℕ) (result : Result T OpenFault) : Type 0 where
  pub later : before ≤ now
  pub counted : IsOpenCounted before now result
