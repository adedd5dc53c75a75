use Rattle.vl_shard.specs.Parts.{Parts}
use Rattle.vl_shard.proofs.Telling.{kept}
use Rattle.vl_shard.proofs.shard.Shard.check.Goals as goal

pub returns : goal.returns
returns c =
    let parts : Parts = record { rows = c.self.inside.rows; holds = c.self.inside.locks; seats = c.self.inside.seats; incarnation = c.self.inside.incarnation } in
    rw (← c.self.view_is) (kept parts c.self.invariant)
