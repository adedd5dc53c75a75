use Rattle.vl_insert.proofs.Steps.{stepped_kept, stepped_locked}
use Rattle.vl_insert.proofs.insert.Insert.step.Goals as goal

pub returns-clause-kept : goal.returns-clause-kept
returns-clause-kept g c = stepped_kept c.args.catalog.now c.args.self.now c.advance.new.self c.args.tx.now c.advance.new.tx (g.P.ShardPort.told c.args.port.now) (g.P.ShardPort.told c.advance.new.port) c.advance.result c.advance.ensures.stepped

pub returns-clause-locked : goal.returns-clause-locked
returns-clause-locked g c = stepped_locked c.args.catalog.now c.args.self.now c.advance.new.self c.args.tx.now c.advance.new.tx (g.P.ShardPort.told c.args.port.now) (g.P.ShardPort.told c.advance.new.port) c.advance.result c.advance.ensures.stepped
