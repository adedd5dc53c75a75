use Rattle.std.proofs.Common.{refl, sym, subst}
use Rattle.vl_shard.specs.Parts.{Parts}
use Rattle.vl_shard.specs.Seats.{IsPlaceFor}
use Rattle.vl_shard.proofs.Leaving.{lost_kept, whole_lost, view_lost}
use Rattle.vl_shard.proofs.shard.Shard.roll_back.Goals as goal

pub invariant_of-self : goal.invariant_of-self
invariant_of-self c =
    let place = subst (λ (p : Parts). IsPlaceFor p.seats c.args.who.now c.args.conn) (sym c.self.view_is) c.requires.place in
    let old : Parts = record { rows = c.self.inside.rows; holds = c.self.inside.locks; seats = c.self.inside.seats; incarnation = c.self.inside.incarnation } in
    let new : Parts = record { rows = c.abandon.new.self; holds = c.release.new.self; seats = c.lose.new.self; incarnation = c.self.inside.incarnation } in
    whole_lost old new c.args.who.now c.args.conn c.self.invariant place c.abandon.ensures.changes c.release.ensures.holders
    (lost_kept old.seats new.seats c.args.who.now c.args.conn c.args.fate place c.lose.ensures) refl c.args.fate c.lose.ensures

pub returns : goal.returns
returns c =
    let place = subst (λ (p : Parts). IsPlaceFor p.seats c.args.who.now c.args.conn) (sym c.self.view_is) c.requires.place in
    let old : Parts = record { rows = c.self.inside.rows; holds = c.self.inside.locks; seats = c.self.inside.seats; incarnation = c.self.inside.incarnation } in
    let new : Parts = record { rows = c.abandon.new.self; holds = c.release.new.self; seats = c.lose.new.self; incarnation = c.self.inside.incarnation } in
    rw (← c.self.view_is)
    (view_lost old new c.args.who.now c.args.conn c.self.invariant place c.abandon.ensures.changes c.release.ensures.holders
    (lost_kept old.seats new.seats c.args.who.now c.args.conn c.args.fate place c.lose.ensures) refl c.args.fate c.lose.ensures c.requires.group c.abandon.ensures.committed)
