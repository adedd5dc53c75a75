use Rattle.std.proofs.Common.{◌+◌, ◌≤◌, ℕ, length, sym, subst}
use Rattle.vl_select.specs.Making.{IsMade}
use Rattle.vl_select.specs.Progress.{acts_done}
use Rattle.vl_select.proofs.Steps.{few_acts, stepped_counted, stepped_entries, stepped_kept, stepped_locked, stepped_made, stepped_nearer}
use Rattle.vl_select.proofs.select.Select.step.Goals as goal

pub returns-clause-kept : goal.returns-clause-kept
returns-clause-kept g c = stepped_kept c.args.catalog.now c.args.self.now c.advance.new.self c.args.tx.now c.advance.new.tx (g.P.ShardPort.told c.args.port.now) (g.P.ShardPort.told c.advance.new.port) c.advance.result c.advance.ensures.stepped

pub returns-clause-locked : goal.returns-clause-locked
returns-clause-locked g c = stepped_locked c.args.catalog.now c.args.self.now c.advance.new.self c.args.tx.now c.advance.new.tx (g.P.ShardPort.told c.args.port.now) (g.P.ShardPort.told c.advance.new.port) c.advance.result c.advance.ensures.stepped

pub returns-clause-bound : goal.returns-clause-bound
returns-clause-bound g c = stepped_nearer c.args.catalog.now c.args.self.now c.advance.new.self c.args.tx.now c.advance.new.tx (g.P.ShardPort.told c.args.port.now) (g.P.ShardPort.told c.advance.new.port) c.advance.result c.advance.ensures.stepped

pub returns-clause-counted : goal.returns-clause-counted
returns-clause-counted g c = stepped_counted c.args.catalog.now c.args.self.now c.advance.new.self c.args.tx.now c.advance.new.tx (g.P.ShardPort.told c.args.port.now) (g.P.ShardPort.told c.advance.new.port) c.advance.result c.advance.ensures.stepped

pub returns-clause-entries : goal.returns-clause-entries
returns-clause-entries g c = stepped_entries c.args.catalog.now c.args.self.now c.advance.new.self c.args.tx.now c.advance.new.tx (g.P.ShardPort.told c.args.port.now) (g.P.ShardPort.told c.advance.new.port) c.advance.result c.advance.ensures.stepped

pub returns-clause-made : goal.returns-clause-made
returns-clause-made g c = λ on.
    subst (λ (count : ℕ). IsMade c.args.catalog.now count c.advance.new.tx.limits.tries c.advance.new.self) (sym c.advance.ensures.port.counts)
    (stepped_made c.args.catalog.now (g.P.ShardPort.count c.args.port.now) c.args.self.now c.advance.new.self c.args.tx.now c.advance.new.tx (g.P.ShardPort.told c.args.port.now) (g.P.ShardPort.told c.advance.new.port) c.advance.result c.requires.serves.shards c.requires.made c.advance.ensures.tx c.advance.ensures.stepped on)

pub returns-clause-few : goal.returns-clause-few
returns-clause-few g c = λ on.
    subst (λ (count : ℕ). acts_done c.advance.new.self ≤ length c.advance.new.self.entries + count) (sym c.advance.ensures.port.counts)
    (few_acts c.args.catalog.now (g.P.ShardPort.count c.args.port.now) c.advance.new.tx.limits.tries c.advance.new.self
    (stepped_made c.args.catalog.now (g.P.ShardPort.count c.args.port.now) c.args.self.now c.advance.new.self c.args.tx.now c.advance.new.tx (g.P.ShardPort.told c.args.port.now) (g.P.ShardPort.told c.advance.new.port) c.advance.result c.requires.serves.shards c.requires.made c.advance.ensures.tx c.advance.ensures.stepped on))
