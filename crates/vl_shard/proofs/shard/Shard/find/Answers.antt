use Rattle.std.proofs.Common.{ℕ, Option, subst}
use Rattle.vl_values.specs.declared.key.Key.{Key}
use Rattle.vl_port.specs.declared.act.Act.TheVariants.{Find}
use Rattle.vl_shard.specs.Obtaining.{Obtains, HasObtained, IsRefused}
use Rattle.vl_shard.proofs.Answering.{refused, obtained}
use Rattle.vl_shard.proofs.shard.Shard.find.Goals as goal

pub returns-in-None-clause-ok : goal.returns-in-None-clause-ok
returns-in-None-clause-ok c =
    let o : HasObtained c.reserve_seat.new.self c.args.who.now c.in_ok-conn.conn c.in_ok-keys.keys.items c.obtain.new.self =
    subst (λ (h : Option (ℕ × Key)). Obtains c.reserve_seat.new.self c.args.who.now c.in_ok-conn.conn c.in_ok-keys.keys.items h c.obtain.new.self) c.in-None.is c.in_ok-held.ensures.ok in
    let t = obtained c.args.self.now c.reserve_seat.new.self c.obtain.new.self c.args.who.now c.in_ok-conn.conn (Find c.args.pred.now c.args.locking) c.in_ok-keys.keys.items
    c.in_ok-conn.ensures.same c.in_ok-conn.ensures.whole c.in_ok-conn.ensures.place c.requires.group c.in_ok-keys.ensures.needed o in
    ((t.0, c.in_ok-rows.ensures, t.1), tt)

pub returns-in-Some-clause-ok : goal.returns-in-Some-clause-ok
returns-in-Some-clause-ok c =
    let r : IsRefused c.reserve_seat.new.self c.args.who.now c.in_ok-conn.conn c.in_ok-keys.keys.items c.in-Some.by c.in-Some.key c.obtain.new.self =
    subst (λ (h : Option (ℕ × Key)). Obtains c.reserve_seat.new.self c.args.who.now c.in_ok-conn.conn c.in_ok-keys.keys.items h c.obtain.new.self) c.in-Some.is c.in_ok-held.ensures.ok in (
      refused c.args.self.now c.reserve_seat.new.self c.obtain.new.self c.args.who.now c.in_ok-conn.conn (Find c.args.pred.now c.args.locking) c.in_ok-keys.keys.items
          c.in_ok-conn.ensures.same c.in_ok-conn.ensures.whole c.in_ok-conn.ensures.place c.requires.group c.in_ok-keys.ensures.needed c.in_ok-keys.ensures.order c.in-Some.by c.in-Some.key r,
      tt,
    )
