use Rattle.std.proofs.Common.{◌≡◌, None, sym, subst, All}
use Rattle.vl_locks.specs.Take.{IsFreeFor}
use Rattle.vl_port.specs.Life.{loss_of}
use Rattle.vl_shard.specs.Parts.{Parts, view_of}
use Rattle.vl_shard.proofs.Obtained.{whole_taken}
use Rattle.vl_shard.proofs.shard.Shard.take.Goals as goal

pub invariant_of-self-2 : goal.invariant_of-self-2
invariant_of-self-2 c =
    let free = subst (λ (p : Parts). All (IsFreeFor p.holds c.args.conn) c.args.keys.now) (sym c.self.view_is) c.requires.free in
    whole_taken c.self.inside.rows c.self.inside.locks c.self.inside.seats c.args.who.now c.args.conn c.self.inside.incarnation c.args.keys.now c.take_all.new.self c.sit.new.self c.self.invariant free c.in_ok-take_all.ensures.ok c.sit.ensures
    (subst (λ (p : Parts). loss_of (view_of p) c.args.who.now ≡ None) (sym c.self.view_is) c.requires.live)
