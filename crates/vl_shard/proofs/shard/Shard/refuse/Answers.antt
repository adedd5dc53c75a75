use Rattle.std.proofs.Common.{refl, sym, subst}
use Rattle.vl_locks.specs.Take.{IsFirstHeld}
use Rattle.vl_shard.specs.Parts.{Parts}
use Rattle.vl_shard.proofs.Obtained.{whole_sat, first_by}
use Rattle.vl_shard.proofs.shard.Shard.refuse.Goals as goal

pub invariant_of-self : goal.invariant_of-self
invariant_of-self c = whole_sat c.self.inside.rows c.self.inside.locks c.self.inside.seats c.sit.new.self c.args.who.now c.args.conn c.self.inside.incarnation c.self.invariant c.sit.ensures

pub returns : goal.returns
returns c =
    let held = subst (λ (p : Parts). IsFirstHeld p.holds c.args.keys.items c.args.conn c.args.place c.args.by) (sym c.self.view_is) c.requires.held in
    let parts : Parts = record { rows = c.self.inside.rows; holds = c.self.inside.locks; seats = c.self.inside.seats; incarnation = c.self.inside.incarnation } in
    rw (← c.self.view_is)
    (record {
      first = first_by parts c.args.keys.items c.args.conn c.args.place c.args.by c.session-session.result c.swap_remove-key.result c.self.invariant held c.swap_remove-key.ensures.value c.session-session.ensures;
      holds = refl;
      rows = refl;
      incarnation = refl;
      sat = c.sit.ensures;
    })
