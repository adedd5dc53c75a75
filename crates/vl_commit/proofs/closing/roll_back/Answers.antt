use Rattle.std.proofs.Common.{arith}
use Rattle.vl_commit.proofs.Closings.{all_closed}
use Rattle.vl_commit.proofs.Leaving.{all_left}
use Rattle.vl_commit.proofs.closing.roll_back.Goals as goal

pub close_from-requires-clause-left : goal.close_from-requires-clause-left
close_from-requires-clause-left g c = all_left c.args.tx (g.P.ShardPort.count c.args.port.now) (g.P.ShardPort.told c.args.port.now).shards c.requires.sessions

pub returns-clause-nothing : goal.returns-clause-nothing
returns-clause-nothing g c =
    (all_closed (g.P.ShardPort.catalog c.args.port.now) (g.P.ShardPort.catalog c.close_from.new.port) (g.P.ShardPort.count c.args.port.now) (g.P.ShardPort.count c.close_from.new.port) c.args.tx 0
    (g.P.ShardPort.told c.args.port.now) (g.P.ShardPort.told c.close_from.new.port) (omega arith)
    (all_left c.args.tx (g.P.ShardPort.count c.args.port.now) (g.P.ShardPort.told c.args.port.now).shards c.requires.sessions) c.requires.serves c.close_from.ensures.closed c.close_from.ensures.same).nothing

pub returns-clause-serves : goal.returns-clause-serves
returns-clause-serves g c =
    (all_closed (g.P.ShardPort.catalog c.args.port.now) (g.P.ShardPort.catalog c.close_from.new.port) (g.P.ShardPort.count c.args.port.now) (g.P.ShardPort.count c.close_from.new.port) c.args.tx 0
    (g.P.ShardPort.told c.args.port.now) (g.P.ShardPort.told c.close_from.new.port) (omega arith)
    (all_left c.args.tx (g.P.ShardPort.count c.args.port.now) (g.P.ShardPort.told c.args.port.now).shards c.requires.sessions) c.requires.serves c.close_from.ensures.closed c.close_from.ensures.same).serves

pub returns-clause-others : goal.returns-clause-others
returns-clause-others g c =
    (all_closed (g.P.ShardPort.catalog c.args.port.now) (g.P.ShardPort.catalog c.close_from.new.port) (g.P.ShardPort.count c.args.port.now) (g.P.ShardPort.count c.close_from.new.port) c.args.tx 0
    (g.P.ShardPort.told c.args.port.now) (g.P.ShardPort.told c.close_from.new.port) (omega arith)
    (all_left c.args.tx (g.P.ShardPort.count c.args.port.now) (g.P.ShardPort.told c.args.port.now).shards c.requires.sessions) c.requires.serves c.close_from.ensures.closed c.close_from.ensures.same).others

pub returns-clause-incarnations : goal.returns-clause-incarnations
returns-clause-incarnations g c =
    (all_closed (g.P.ShardPort.catalog c.args.port.now) (g.P.ShardPort.catalog c.close_from.new.port) (g.P.ShardPort.count c.args.port.now) (g.P.ShardPort.count c.close_from.new.port) c.args.tx 0
    (g.P.ShardPort.told c.args.port.now) (g.P.ShardPort.told c.close_from.new.port) (omega arith)
    (all_left c.args.tx (g.P.ShardPort.count c.args.port.now) (g.P.ShardPort.told c.args.port.now).shards c.requires.sessions) c.requires.serves c.close_from.ensures.closed c.close_from.ensures.same).stays
