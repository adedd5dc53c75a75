use Rattle.std.proofs.Common.{◌∙◌, ap}
use Rattle.vl_disk.specs.MemoryDisk.{MemoryState}
use Rattle.vl_disk.specs.Slots.{DisksState, found}
use Rattle.vl_disk.proofs.memory_disks.MemoryDisks.take_passed.Goals as goal

pub returns-clause-others : goal.returns-clause-others
returns-clause-others c =
    λ other apart.
    c.add_slot.ensures.others other apart
    ∙ (c.take_out.ensures.others other apart ∙ ap (λ (s : DisksState MemoryState). found s.slots other) c.self.view_is)
