use Rattle.std.proofs.Common.{◌≡◌, Some, refl, sym, subst}
use Rattle.vl_locks.specs.Locks.{holder_of}
use Rattle.vl_shard.specs.Parts.{Parts}
use Rattle.vl_shard.proofs.Doing.{whole_written}
use Rattle.vl_shard.proofs.shard.Shard.write.Goals as goal

pub invariant_of-self : goal.invariant_of-self
invariant_of-self c =
    let held = subst (λ (p : Parts). holder_of p.holds c.args.key.now ≡ Some c.args.conn) (sym c.self.view_is) c.requires.held in
    let old : Parts = record { rows = c.self.inside.rows; holds = c.self.inside.locks; seats = c.self.inside.seats; incarnation = c.self.inside.incarnation } in
    let new : Parts = record { rows = c.write.new.self; holds = c.self.inside.locks; seats = c.self.inside.seats; incarnation = c.self.inside.incarnation } in
    whole_written old new c.args.key.now c.args.row c.args.conn
    (record { committed = c.write.ensures.committed; pending = c.write.ensures.pending; holds = refl; seats = refl; incarnation = refl })
    c.self.invariant held
