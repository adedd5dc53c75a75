use Rattle.std.proofs.Common.{ℕ, Option, subst}
use Rattle.vl_values.specs.declared.key.Key.{Key}
use Rattle.vl_port.specs.declared.act.Act.TheVariants.{Remove}
use Rattle.vl_shard.specs.Obtaining.{Obtains, HasObtained, IsRefused}
use Rattle.vl_shard.proofs.Answering.{refused, changed, only_held, only_in_order}
use Rattle.vl_shard.proofs.Doing.{only_needed}
use Rattle.vl_shard.proofs.shard.Shard.change.Goals as goal

pub write-requires-clause-held : goal.write-requires-clause-held
write-requires-clause-held c =
    let o : HasObtained c.reserve.new.self c.args.who.now c.in_ok-conn.conn c.in_ok-keys.keys.items c.obtain.new.self =
    subst (λ (h : Option (ℕ × Key)). Obtains c.reserve.new.self c.args.who.now c.in_ok-conn.conn c.in_ok-keys.keys.items h c.obtain.new.self) c.in-None.is c.in_ok-held.ensures.ok in
    only_held c.reserve.new.self c.obtain.new.self c.args.who.now c.in_ok-conn.conn c.in_ok-keys.keys.items c.args.key.now c.in_ok-keys.ensures o

pub returns-in-Some-clause-ok : goal.returns-in-Some-clause-ok
returns-in-Some-clause-ok c =
    let r : IsRefused c.reserve.new.self c.args.who.now c.in_ok-conn.conn c.in_ok-keys.keys.items c.in-Some.holder.0 c.in-Some.holder.1 c.obtain.new.self =
    subst (λ (h : Option (ℕ × Key)). Obtains c.reserve.new.self c.args.who.now c.in_ok-conn.conn c.in_ok-keys.keys.items h c.obtain.new.self) c.in-Some.is c.in_ok-held.ensures.ok in
    refused c.args.self.now c.reserve.new.self c.obtain.new.self c.args.who.now c.in_ok-conn.conn (Remove c.args.key.now) c.in_ok-keys.keys.items
    c.in_ok-conn.ensures.same c.in_ok-conn.ensures.whole c.in_ok-conn.ensures.place c.requires.group (only_needed c.in_ok-keys.keys.items c.args.key.now c.in_ok-keys.ensures)
    (only_in_order c.in_ok-keys.keys.items c.args.key.now c.in_ok-keys.ensures) c.in-Some.holder.0 c.in-Some.holder.1 r

pub returns-in-None-clause-ok : goal.returns-in-None-clause-ok
returns-in-None-clause-ok c =
    let o : HasObtained c.reserve.new.self c.args.who.now c.in_ok-conn.conn c.in_ok-keys.keys.items c.obtain.new.self =
    subst (λ (h : Option (ℕ × Key)). Obtains c.reserve.new.self c.args.who.now c.in_ok-conn.conn c.in_ok-keys.keys.items h c.obtain.new.self) c.in-None.is c.in_ok-held.ensures.ok in
    changed c.args.self.now c.reserve.new.self c.obtain.new.self c.write.new.self c.args.who.now c.in_ok-conn.conn c.in_ok-keys.keys.items c.args.key.now c.args.row
    c.in_ok-conn.ensures.same c.in_ok-conn.ensures.whole c.in_ok-conn.ensures.place c.requires.group c.in_ok-keys.ensures o c.write.ensures
