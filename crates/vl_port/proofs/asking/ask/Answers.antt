use Rattle.std.proofs.Common.{ℕ, sym, subst}
use Rattle.vl_port.specs.Transaction.{IsIn}
use Rattle.vl_port.proofs.Answered.{asked_in, asked_others, asked_same, asked_serves}
use Rattle.vl_port.proofs.Causes.{asked_cause}
use Rattle.vl_port.proofs.Served.{serves_same}
use Rattle.vl_port.proofs.asking.ask.Goals as goal

pub returns-clause-tx : goal.returns-clause-tx
returns-clause-tx g c =
    asked_same c.args.tx.now c.asked.new.tx c.args.group c.args.shard c.args.act.now (g.P.ShardPort.told c.args.port.now) (g.P.ShardPort.told c.asked.new.port) c.asked.result c.asked.ensures.more c.asked.ensures.asked

pub returns-clause-sessions : goal.returns-clause-sessions
returns-clause-sessions g c = λ isin.
    subst (λ (count : ℕ). IsIn c.asked.new.tx count (g.P.ShardPort.told c.asked.new.port).shards) (sym c.asked.ensures.port.counts)
    (asked_in c.args.tx.now c.asked.new.tx (g.P.ShardPort.count c.args.port.now) c.args.group c.args.shard c.args.act.now (g.P.ShardPort.told c.args.port.now) (g.P.ShardPort.told c.asked.new.port) c.asked.result c.requires.shard
    c.asked.ensures.asked isin)

pub returns-clause-serves : goal.returns-clause-serves
returns-clause-serves g c = λ serves.
    serves_same (g.P.ShardPort.catalog c.args.port.now) (g.P.ShardPort.catalog c.asked.new.port) (g.P.ShardPort.count c.args.port.now) (g.P.ShardPort.count c.asked.new.port) (g.P.ShardPort.told c.asked.new.port).shards
    c.asked.ensures.port
    (asked_serves (g.P.ShardPort.catalog c.args.port.now) c.args.tx.now c.asked.new.tx (g.P.ShardPort.count c.args.port.now) c.args.group c.args.shard c.args.act.now (g.P.ShardPort.told c.args.port.now)
    (g.P.ShardPort.told c.asked.new.port) c.asked.result c.requires.fits c.asked.ensures.asked serves)

pub returns-clause-others : goal.returns-clause-others
returns-clause-others g c = λ serves.
    asked_others (g.P.ShardPort.catalog c.args.port.now) c.args.tx.now c.asked.new.tx (g.P.ShardPort.count c.args.port.now) c.args.group c.args.shard c.args.act.now (g.P.ShardPort.told c.args.port.now)
    (g.P.ShardPort.told c.asked.new.port) c.asked.result c.requires.shard c.asked.ensures.asked serves

pub returns-clause-cause : goal.returns-clause-cause
returns-clause-cause g c = λ uncut is.
    asked_cause (g.P.ShardPort.told c.args.port.now) (g.P.ShardPort.told c.asked.new.port) c.args.tx.now c.asked.new.tx c.args.group c.args.shard c.args.act.now c.asked.result c.asked.ensures.asked uncut is
