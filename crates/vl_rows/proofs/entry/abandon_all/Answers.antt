use Rattle.std.proofs.Common.{◌<◌, length, arith}
use Rattle.std.proofs.lemmas.List.Edits.{map_over_more}
use Rattle.vl_rows.specs.Slots.{abandoned_in}
use Rattle.vl_rows.proofs.entry.abandon_all.Goals as goal

pub loop-entry-preserved : goal.loop-entry-preserved
loop-entry-preserved c =
    let within : c.loop-entry.entry-index < length c.args.slots.now = omega arith in
    rw (c.abandon_entry.ensures, ← c.entry-item.is)
    (map_over_more (abandoned_in c.args.conn) c.args.slots.now c.loop-entry.slots c.loop-entry.entry-index c.entry-item.result within c.loop-entry.invariant c.entry-item.is)
