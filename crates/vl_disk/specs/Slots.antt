-- The sides of the shards, each in a slot of its own.
use Rattle.std.specs.Prelude.{◌≡◌, ◌≢◌, ◌<◌, ℕ, length, slice_index_or, List, [], ◌∷◌, true, false, if◌then◌else◌, ◌==◌, Option, Some, None}
use Rattle.vl_base.specs.Fakes.{PlanState}
use Rattle.vl_disk.specs.DiskView.{DiskView}
use Rattle.vl_disk.specs.Sides.{SidesView}
use Rattle.vl_disk.specs.declared.sides.Sides.{Sides}
use Rattle.vl_disk.specs.declared.slot.Slot.{Slot}

-- what the slot of this shard has: none where they are handed out; none at all where there is no slot yet
abbrev pub found : {D : Type 0} → List (Slot D) → ℕ → Option (Option (Sides D))
found [] shard = None
found (slot ∷ slots) shard = if slot.shard == shard then Some slot.sides else found slots shard

-- the first slot of this shard
pub record IsFoundAt {D : Type 0} (slots : List (Slot D)) (shard index : ℕ) : Type 0 where
  pub inside : index < length slots
  pub is : (d : Slot D) → (slice_index_or slots index d).shard ≡ shard
  pub first : (k : ℕ) (d : Slot D) → k < index → (slice_index_or slots k d).shard ≢ shard

-- what these sides tell, where a fresh disk tells this
abbrev pub view_of : {D : Type 0} → (D → DiskView) → DiskView → Option (Option (Sides D)) → SidesView
view_of tell fresh None = record { a = fresh; b = fresh; is_out = false }
view_of tell fresh (Some None) = record { a = fresh; b = fresh; is_out = true }
view_of tell fresh (Some (Some sides)) = record { a = tell sides.a; b = tell sides.b; is_out = false }

-- disks with a list of the calls that fail
pub record DisksState (D : Type 0) : Type 0 where
  pub slots : List (Slot D)
  pub plan : PlanState

-- disks over a folder
pub record FolderState (D : Type 0) : Type 0 where
  pub slots : List (Slot D)
  pub faults : ℕ

-- what the disks of this shard tell
abbrev pub held_in : {D : Type 0} → (D → DiskView) → DiskView → List (Slot D) → ℕ → SidesView
held_in tell fresh slots shard = view_of tell fresh (found slots shard)
