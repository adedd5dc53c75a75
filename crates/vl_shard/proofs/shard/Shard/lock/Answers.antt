use Rattle.vl_shard.proofs.Answering.{takes_key}
use Rattle.vl_shard.proofs.shard.Shard.lock.Goals as goal

pub returns-clause-ok : goal.returns-clause-ok
returns-clause-ok c =
    takes_key c.args.self.now c.reserve_seat.new.self c.obtain.new.self c.args.who.now c.in_ok-conn.conn c.in_ok-keys.keys.items c.args.key.now c.in_ok-held.held
    c.in_ok-conn.ensures.same c.in_ok-conn.ensures.whole c.in_ok-conn.ensures.place c.requires.group c.in_ok-keys.ensures c.in_ok-held.ensures.ok
