use Rattle.std.proofs.Common.{◌≡◌, ◌<◌, length, sym, ◌∙◌, ap, arith, slice_index_or}
use Rattle.std.proofs.lemmas.List.{get_or_read}
use Rattle.vl_disk.proofs.Found.{found_none}
use Rattle.vl_disk.specs.declared.slot.Slot.{Slot as ASlot}
use Rattle.vl_disk.proofs.slots.index_of.Goals as goal

pub returns-then-slot-shard : goal.returns-then-slot-shard
returns-then-slot-shard g c =
    let D : Type 0 = g.row.D.Denot in
    let slots = c.args.slots.now in
    let inside : c.loop-index.index < length slots = c.loop-index-test.true in
    let is : (d : ASlot D) → (slice_index_or slots c.loop-index.index d).shard ≡ c.args.shard =
    λ d. ap (λ (slot : ASlot D). slot.shard) (sym (get_or_read slots c.loop-index.index c.index-slots-index.result inside c.index-slots-index.is d))
    ∙ c.if-slot-shard.true in
    record { inside = inside; is = is; first = c.loop-index.invariant }

pub returns : goal.returns
returns g c =
    found_none c.args.slots.now c.args.shard (λ k d below. c.loop-index.invariant k d (omega (arith, below, c.loop-index-test.false)))
