use Rattle.std.proofs.Common.{Some, refl}
use Rattle.vl_disk.proofs.Found.{changed}
use Rattle.vl_disk.specs.declared.slot.Slot.{Slot}
use Rattle.vl_disk.proofs.slots.put_back.Goals as goal

pub returns-clause-back : goal.returns-clause-back
returns-clause-back g c =
    let D : Type 0 = g.row.D.Denot in
    let new : Slot D = record { shard = c.index_mut.result.now.shard; sides = Some c.args.sides } in
    let change = changed c.args.slots.now.items c.as_slice.result.now c.args.shard c.in-Some.index c.index_mut.result.now new
    c.as_slice.ensures.value c.in-Some.ensures c.index_mut.ensures.value refl in
    change.now

pub returns-clause-others : goal.returns-clause-others
returns-clause-others g c =
    let D : Type 0 = g.row.D.Denot in
    let new : Slot D = record { shard = c.index_mut.result.now.shard; sides = Some c.args.sides } in
    let change = changed c.args.slots.now.items c.as_slice.result.now c.args.shard c.in-Some.index c.index_mut.result.now new
    c.as_slice.ensures.value c.in-Some.ensures c.index_mut.ensures.value refl in
    change.others
