use Rattle.std.proofs.Common.{◌∙◌}
use Rattle.vl_running.proofs.Hand.{did_on, others_on, owned_on}
use Rattle.vl_running.proofs.running.advance.Goals as goal

pub tell-requires-clause-owned : goal.tell-requires-clause-owned
tell-requires-clause-owned g c =
    owned_on c.args.catalog.now (g.P.ShardPort.count c.args.port.now) (g.P.ShardPort.count c.take_outcome-outcome.new.self) c.args.tx c.step-told.new.tx (g.P.ShardPort.told c.args.port.now) (g.P.ShardPort.told c.step-told.new.port) (g.P.ShardPort.told c.take_outcome-outcome.new.self) c.args.program
    c.step-told.new.self c.step-told.result c.step-told.ensures.stepped c.step-told.ensures.same c.take_outcome-outcome.ensures.taken (c.take_outcome-outcome.ensures.same.counts ∙ c.step-told.ensures.port.counts) c.requires.ready.0.owned

pub returns-clause-ran : goal.returns-clause-ran
returns-clause-ran g c =
    did_on c.args.catalog.now (g.P.ShardPort.count c.args.port.now) (g.P.ShardPort.count c.step-told.new.port) c.args.tx c.step-told.new.tx (g.P.ShardPort.told c.args.port.now) (g.P.ShardPort.told c.step-told.new.port) (g.P.ShardPort.told c.take_outcome-outcome.new.self) c.args.program c.step-told.new.self
    c.step-told.result c.step-told.ensures.stepped c.step-told.ensures.same c.step-told.ensures.port.counts c.step-told.ensures.serves c.step-told.ensures.sessions c.take_outcome-outcome.ensures.taken c.args.opens c.args.due c.take_outcome-outcome.result c.of-done.result c.tell.result
    (g.P.ShardPort.told c.tell.new.port) c.requires.due c.take_outcome-outcome.ensures.outcome c.of-done.ensures c.tell.ensures.told

pub returns-clause-others : goal.returns-clause-others
returns-clause-others g c =
    others_on c.args.tx c.step-told.new.tx (g.P.ShardPort.told c.args.port.now) (g.P.ShardPort.told c.step-told.new.port) (g.P.ShardPort.told c.take_outcome-outcome.new.self) (g.P.ShardPort.told c.tell.new.port) c.step-told.ensures.same c.take_outcome-outcome.ensures.taken c.step-told.ensures.others c.tell.ensures.others
