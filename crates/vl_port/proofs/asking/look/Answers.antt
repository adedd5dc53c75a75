use Rattle.std.proofs.Common.{ℕ, sym, subst}
use Rattle.vl_port.specs.declared.answer.Answer.{Answer}
use Rattle.vl_port.specs.declared.who.Who.{Who}
use Rattle.vl_port.specs.Asking.{IsUncut}
use Rattle.vl_port.specs.Calls.{HasActed}
use Rattle.vl_port.specs.Transaction.{IsIn}
use Rattle.vl_port.proofs.Answered.{looked_others, looked_serves, reads_for}
use Rattle.vl_port.proofs.Causes.{lost_by_link}
use Rattle.vl_port.proofs.Enlisting.{in_looked}
use Rattle.vl_port.proofs.Served.{serves_same}
use Rattle.vl_port.proofs.asking.look.Goals as goal

pub returns-clause-sessions : goal.returns-clause-sessions
returns-clause-sessions g c = λ isin.
    subst (λ (count : ℕ). IsIn c.args.tx.now count (g.P.ShardPort.told c.act.new.self).shards) (sym c.act.ensures.same.counts)
    (in_looked c.args.tx.now (g.P.ShardPort.count c.args.port.now) (g.P.ShardPort.told c.args.port.now) (g.P.ShardPort.told c.act.new.self) c.args.group c.args.shard c.args.act.now isin c.requires.shard c.reader.ensures.0 c.reader.ensures.1.0
    c.act.result (subst (λ (who : Who). HasActed (g.P.ShardPort.told c.args.port.now) who c.args.shard c.args.act.now c.act.result (g.P.ShardPort.told c.act.new.self)) c.reader.ensures.2 c.act.ensures.acts))

pub returns-clause-serves : goal.returns-clause-serves
returns-clause-serves g c = λ serves.
    serves_same (g.P.ShardPort.catalog c.args.port.now) (g.P.ShardPort.catalog c.act.new.self) (g.P.ShardPort.count c.args.port.now) (g.P.ShardPort.count c.act.new.self) (g.P.ShardPort.told c.act.new.self).shards c.act.ensures.same
    (looked_serves (g.P.ShardPort.catalog c.args.port.now) (g.P.ShardPort.count c.args.port.now) c.reader.result c.args.shard c.args.act.now c.act.result (g.P.ShardPort.told c.args.port.now) (g.P.ShardPort.told c.act.new.self)
    c.requires.plain c.requires.fits c.act.ensures.acts serves)

pub returns-clause-others : goal.returns-clause-others
returns-clause-others g c = λ serves.
    reads_for c.args.tx.now c.args.group c.reader.ensures.0 c.reader.result (g.P.ShardPort.told c.args.port.now).shards (g.P.ShardPort.told c.act.new.self).shards c.reader.ensures.2
    (looked_others (g.P.ShardPort.catalog c.args.port.now) (g.P.ShardPort.count c.args.port.now) c.reader.result c.args.shard c.args.act.now c.act.result (g.P.ShardPort.told c.args.port.now) (g.P.ShardPort.told c.act.new.self)
    c.requires.shard c.requires.plain c.act.ensures.acts serves)

pub returns-clause-cause : goal.returns-clause-cause
returns-clause-cause g c = λ uncut is.
    lost_by_link (g.P.ShardPort.told c.args.port.now) (g.P.ShardPort.told c.act.new.self) c.reader.result c.args.shard c.args.act.now
    (subst (λ (who : Who). IsUncut ((g.P.ShardPort.told c.args.port.now).shards c.args.shard) who) (sym c.reader.ensures.2) (uncut c.reader.ensures.0))
    (subst (λ (a : Answer). HasActed (g.P.ShardPort.told c.args.port.now) c.reader.result c.args.shard c.args.act.now a (g.P.ShardPort.told c.act.new.self)) is c.act.ensures.acts)
