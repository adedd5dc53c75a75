use Rattle.std.proofs.Common.{◌≢◌, ◌<◌, ℕ, slice_index_or}
use Rattle.vl_disk.specs.declared.slot.Slot.{Slot as ASlot}
use Rattle.vl_disk.proofs.slots.index_of.Given as goal

abbrev pub invariant-loop-index : goal.invariant-loop-index
invariant-loop-index g l =
    (k : ℕ) (d : ASlot g.row.D.Denot) → k < l.index → (slice_index_or l.slots k d).shard ≢ l.shard
