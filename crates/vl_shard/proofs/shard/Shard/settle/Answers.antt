use Rattle.std.proofs.Common.{refl, sym, subst}
use Rattle.vl_shard.specs.Parts.{Parts}
use Rattle.vl_shard.specs.Seats.{IsPlaceFor}
use Rattle.vl_shard.proofs.Leaving.{left_kept, whole_left, view_settled}
use Rattle.vl_shard.proofs.shard.Shard.settle.Goals as goal

pub invariant_of-self : goal.invariant_of-self
invariant_of-self c =
    let place = subst (λ (p : Parts). IsPlaceFor p.seats c.args.who.now c.args.conn) (sym c.self.view_is) c.requires in
    let old : Parts = record { rows = c.self.inside.rows; holds = c.self.inside.locks; seats = c.self.inside.seats; incarnation = c.self.inside.incarnation } in
    let new : Parts = record { rows = c.settle.new.self; holds = c.depart.new.locks; seats = c.depart.new.seats; incarnation = c.self.inside.incarnation } in
    whole_left old new c.args.who.now c.args.conn c.self.invariant place c.settle.ensures.changes c.depart.ensures.locks
    (left_kept old.seats new.seats c.args.who.now c.args.conn place c.depart.ensures.seats) refl c.depart.ensures.seats

pub returns-clause-settled : goal.returns-clause-settled
returns-clause-settled c =
    let place = subst (λ (p : Parts). IsPlaceFor p.seats c.args.who.now c.args.conn) (sym c.self.view_is) c.requires in
    let old : Parts = record { rows = c.self.inside.rows; holds = c.self.inside.locks; seats = c.self.inside.seats; incarnation = c.self.inside.incarnation } in
    let new : Parts = record { rows = c.settle.new.self; holds = c.depart.new.locks; seats = c.depart.new.seats; incarnation = c.self.inside.incarnation } in
    rw (← c.self.view_is) (view_settled old new c.args.who.now c.args.conn c.self.invariant place c.settle.ensures.changes c.depart.ensures.locks
    (left_kept old.seats new.seats c.args.who.now c.args.conn place c.depart.ensures.seats) refl c.depart.ensures.seats c.settle.ensures.committed)
