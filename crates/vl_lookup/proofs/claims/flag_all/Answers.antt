use Rattle.std.proofs.Common.{◌<◌, length, arith}
use Rattle.std.proofs.lemmas.List.Edits.{map_over_more}
use Rattle.vl_lookup.specs.Answering.{passed_at}
use Rattle.vl_lookup.proofs.claims.flag_all.Goals as goal

pub loop-claimed-preserved : goal.loop-claimed-preserved
loop-claimed-preserved c =
    let within : c.loop-claimed.claimed-index < length c.args.list.now = omega arith in
    rw (c.flag.ensures, ← c.claimed-item.is)
    (map_over_more (passed_at c.args.key.now) c.args.list.now c.loop-claimed.list c.loop-claimed.claimed-index c.claimed-item.result within c.loop-claimed.invariant c.claimed-item.is)
