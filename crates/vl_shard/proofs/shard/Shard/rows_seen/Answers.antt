use Rattle.vl_shard.specs.Parts.{Parts}
use Rattle.vl_shard.proofs.Doing.{rows_read, reader_is}
use Rattle.vl_shard.proofs.shard.Shard.rows_seen.Goals as goal

pub returns : goal.returns
returns c =
    let parts : Parts = record { rows = c.self.inside.rows; holds = c.self.inside.locks; seats = c.self.inside.seats; incarnation = c.self.inside.incarnation } in
    rw (← c.self.view_is, c.from_vec.ensures)
    (rows_read parts c.args.who.now c.find-reader.result c.self.invariant (reader_is parts.seats c.args.who.now c.find-reader.result c.find-reader.ensures.seated c.find-reader.ensures.absent)
    c.args.pred.now c.in_ok-rows.rows.items c.in_ok-rows.ensures.order c.in_ok-rows.ensures.exact)
