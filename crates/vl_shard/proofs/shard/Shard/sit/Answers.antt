use Rattle.std.proofs.Common.{refl}
use Rattle.vl_shard.specs.Parts.{Parts}
use Rattle.vl_shard.proofs.Obtained.{whole_sat, view_refused}
use Rattle.vl_shard.proofs.shard.Shard.sit.Goals as goal

pub invariant_of-self : goal.invariant_of-self
invariant_of-self c = whole_sat c.self.inside.rows c.self.inside.locks c.self.inside.seats c.sit.new.self c.args.who.now c.args.conn c.self.inside.incarnation c.self.invariant c.sit.ensures

pub returns-clause-opened : goal.returns-clause-opened
returns-clause-opened c =
    let old : Parts = record { rows = c.self.inside.rows; holds = c.self.inside.locks; seats = c.self.inside.seats; incarnation = c.self.inside.incarnation } in
    let new : Parts = record { rows = c.self.inside.rows; holds = c.self.inside.locks; seats = c.sit.new.self; incarnation = c.self.inside.incarnation } in
    rw (← c.self.view_is) (view_refused old new c.args.who.now c.args.conn c.self.invariant c.requires.group c.sit.ensures refl refl refl)
