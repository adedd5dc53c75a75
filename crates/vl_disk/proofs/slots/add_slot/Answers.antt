use Rattle.std.proofs.Common.{◌∙◌, ap}
use Rattle.std.proofs.Common.{List}
use Rattle.vl_disk.specs.Slots.{found}
use Rattle.vl_disk.proofs.Found.{found_more, found_more_other}
use Rattle.vl_disk.specs.declared.slot.Slot.{Slot}
use Rattle.vl_disk.proofs.slots.add_slot.Goals as goal

pub returns-clause-added : goal.returns-clause-added
returns-clause-added g c =
    let D : Type 0 = g.row.D.Denot in
    let slot : Slot D = record { shard = c.args.shard; sides = c.args.sides } in
    ap (λ (slots : List (Slot D)). found slots c.args.shard) c.in-Ok.ensures.items ∙ found_more c.args.slots.now.items slot c.requires

pub returns-clause-others : goal.returns-clause-others
returns-clause-others g c =
    let D : Type 0 = g.row.D.Denot in
    let slot : Slot D = record { shard = c.args.shard; sides = c.args.sides } in
    λ other apart.
    ap (λ (slots : List (Slot D)). found slots other) c.in-Ok.ensures.items
    ∙ found_more_other c.args.slots.now.items slot other apart
