use Rattle.std.proofs.Common.{ℕ, sym, subst}
use Rattle.vl_change.specs.Making.{IsMade}
use Rattle.vl_change.proofs.Steps.{stepped_counted, stepped_kept, stepped_locked, stepped_made, stepped_nearer, stepped_owed, stepped_written}
use Rattle.vl_change.proofs.change.Change.step.Goals as goal

pub returns-clause-written : goal.returns-clause-written
returns-clause-written g c = stepped_written c.args.catalog.now (g.P.ShardPort.count c.args.port.now) c.args.self.now c.advance.new.self c.args.tx.now c.advance.new.tx (g.P.ShardPort.told c.args.port.now) (g.P.ShardPort.told c.advance.new.port) c.advance.result
    (record { checked = c.requires.checked; serves = c.requires.serves; made = c.requires.made }) c.advance.ensures.tx c.advance.ensures.stepped

pub returns-clause-owed : goal.returns-clause-owed
returns-clause-owed g c = stepped_owed c.args.catalog.now (g.P.ShardPort.count c.args.port.now) c.args.self.now c.advance.new.self c.args.tx.now c.advance.new.tx (g.P.ShardPort.told c.args.port.now) (g.P.ShardPort.told c.advance.new.port) c.advance.result
    (record { checked = c.requires.checked; serves = c.requires.serves; made = c.requires.made }) c.advance.ensures.tx c.advance.ensures.stepped

pub returns-clause-kept : goal.returns-clause-kept
returns-clause-kept g c = stepped_kept c.args.catalog.now c.args.self.now c.advance.new.self c.args.tx.now c.advance.new.tx (g.P.ShardPort.told c.args.port.now) (g.P.ShardPort.told c.advance.new.port) c.advance.result c.advance.ensures.stepped

pub returns-clause-locked : goal.returns-clause-locked
returns-clause-locked g c = stepped_locked c.args.catalog.now c.args.self.now c.advance.new.self c.args.tx.now c.advance.new.tx (g.P.ShardPort.told c.args.port.now) (g.P.ShardPort.told c.advance.new.port) c.advance.result c.advance.ensures.stepped

pub returns-clause-bound : goal.returns-clause-bound
returns-clause-bound g c = stepped_nearer c.args.catalog.now (g.P.ShardPort.count c.args.port.now) c.args.self.now c.advance.new.self c.args.tx.now c.advance.new.tx (g.P.ShardPort.told c.args.port.now) (g.P.ShardPort.told c.advance.new.port) c.advance.result
    (record { checked = c.requires.checked; serves = c.requires.serves; made = c.requires.made }) c.advance.ensures.stepped

pub returns-clause-counted : goal.returns-clause-counted
returns-clause-counted g c = stepped_counted c.args.catalog.now (g.P.ShardPort.count c.args.port.now) c.args.self.now c.advance.new.self c.args.tx.now c.advance.new.tx (g.P.ShardPort.told c.args.port.now) (g.P.ShardPort.told c.advance.new.port) c.advance.result
    (record { checked = c.requires.checked; serves = c.requires.serves; made = c.requires.made }) c.advance.ensures.stepped

pub returns-clause-made : goal.returns-clause-made
returns-clause-made g c = λ well.
    subst (λ (count : ℕ). IsMade c.args.catalog.now count c.advance.new.tx.limits.tries c.advance.new.self) (sym c.advance.ensures.port.counts)
    (stepped_made c.args.catalog.now (g.P.ShardPort.count c.args.port.now) c.args.self.now c.advance.new.self c.args.tx.now c.advance.new.tx (g.P.ShardPort.told c.args.port.now) (g.P.ShardPort.told c.advance.new.port) c.advance.result
    (record { checked = c.requires.checked; serves = c.requires.serves; made = c.requires.made }) c.advance.ensures.tx c.advance.ensures.stepped well)
