use Rattle.std.proofs.Common.{◌≡◌, false, true, sym, ◌∙◌, ap, subst}
use Rattle.vl_disk.specs.Calls.{IsWritten}
use Rattle.vl_disk.specs.Content.{written}
use Rattle.vl_disk.specs.MemoryDisk.{MemoryState, counted, gone_on, told_memory}
use Rattle.vl_disk.proofs.Writes.{wrote_memory}
use Rattle.vl_disk.proofs.memory_disk.MemoryDiskDisk.write_at.Goals as goal

pub returns-in-Passes-clause-written : goal.returns-in-Passes-clause-written
returns-in-Passes-clause-written c =
    let put : MemoryState → MemoryState = λ d. gone_on (written c.args.at c.args.bytes.now d.content) d in
    let state : c.put.new.self ≡ put (counted c.args.self.now) = c.put.ensures ∙ ap put c.count.ensures.counted in
    let P : MemoryState → Type 0 = λ d. IsWritten c.args.at c.args.bytes.now false (told_memory c.args.self.now) (told_memory d) in
    subst P (sym state) (wrote_memory c.args.at c.args.bytes.now false c.args.self.now c.requires.place)

pub returns-in-Crashes-clause-written : goal.returns-in-Crashes-clause-written
returns-in-Crashes-clause-written c =
    let put : MemoryState → MemoryState = λ d. gone_on (written c.args.at c.args.bytes.now d.content) d in
    let state : c.put-in-Crashes.new.self ≡ put (counted c.args.self.now) = c.put-in-Crashes.ensures ∙ ap put c.count.ensures.counted in
    let P : MemoryState → Type 0 = λ d. IsWritten c.args.at c.args.bytes.now true (told_memory c.args.self.now) (told_memory d) in
    subst P (sym state) (wrote_memory c.args.at c.args.bytes.now true c.args.self.now c.requires.place)
