use Rattle.vl_commit.proofs.Nothing.{nothing_left}
use Rattle.vl_commit.proofs.Steps.{step_done, step_leaves}
use Rattle.vl_commit.proofs.Turns.{in_turn}
use Rattle.vl_commit.proofs.commit.Commit.step.Goals as goal

pub returns-clause-turn : goal.returns-clause-turn
returns-clause-turn g c = λ session is. in_turn c.args.self.now.tx c.args.self.now.at (g.P.ShardPort.count c.args.port.now) (g.P.ShardPort.told c.args.port.now).shards session c.requires.left is

pub returns-clause-done : goal.returns-clause-done
returns-clause-done g c = λ more. step_done c.args.self.now c.advance.new.self (g.P.ShardPort.told c.args.port.now) (g.P.ShardPort.told c.advance.new.port) c.advance.result c.advance.ensures.stepped more

pub returns-clause-left : goal.returns-clause-left
returns-clause-left g c =
    (step_leaves (g.P.ShardPort.catalog c.args.port.now) (g.P.ShardPort.catalog c.advance.new.port) (g.P.ShardPort.count c.args.port.now) (g.P.ShardPort.count c.advance.new.port) c.args.self.now c.advance.new.self
    (g.P.ShardPort.told c.args.port.now) (g.P.ShardPort.told c.advance.new.port) c.advance.result c.requires.left c.requires.serves c.advance.ensures.stepped c.advance.ensures.same_port).left

pub returns-clause-counted : goal.returns-clause-counted
returns-clause-counted g c =
    (step_leaves (g.P.ShardPort.catalog c.args.port.now) (g.P.ShardPort.catalog c.advance.new.port) (g.P.ShardPort.count c.args.port.now) (g.P.ShardPort.count c.advance.new.port) c.args.self.now c.advance.new.self
    (g.P.ShardPort.told c.args.port.now) (g.P.ShardPort.told c.advance.new.port) c.advance.result c.requires.left c.requires.serves c.advance.ensures.stepped c.advance.ensures.same_port).counted

pub returns-clause-same : goal.returns-clause-same
returns-clause-same g c =
    (step_leaves (g.P.ShardPort.catalog c.args.port.now) (g.P.ShardPort.catalog c.advance.new.port) (g.P.ShardPort.count c.args.port.now) (g.P.ShardPort.count c.advance.new.port) c.args.self.now c.advance.new.self
    (g.P.ShardPort.told c.args.port.now) (g.P.ShardPort.told c.advance.new.port) c.advance.result c.requires.left c.requires.serves c.advance.ensures.stepped c.advance.ensures.same_port).tx

pub returns-clause-serves : goal.returns-clause-serves
returns-clause-serves g c =
    (step_leaves (g.P.ShardPort.catalog c.args.port.now) (g.P.ShardPort.catalog c.advance.new.port) (g.P.ShardPort.count c.args.port.now) (g.P.ShardPort.count c.advance.new.port) c.args.self.now c.advance.new.self
    (g.P.ShardPort.told c.args.port.now) (g.P.ShardPort.told c.advance.new.port) c.advance.result c.requires.left c.requires.serves c.advance.ensures.stepped c.advance.ensures.same_port).serves

pub returns-clause-others : goal.returns-clause-others
returns-clause-others g c =
    (step_leaves (g.P.ShardPort.catalog c.args.port.now) (g.P.ShardPort.catalog c.advance.new.port) (g.P.ShardPort.count c.args.port.now) (g.P.ShardPort.count c.advance.new.port) c.args.self.now c.advance.new.self
    (g.P.ShardPort.told c.args.port.now) (g.P.ShardPort.told c.advance.new.port) c.advance.result c.requires.left c.requires.serves c.advance.ensures.stepped c.advance.ensures.same_port).others

pub returns-clause-rises : goal.returns-clause-rises
returns-clause-rises g c =
    (step_leaves (g.P.ShardPort.catalog c.args.port.now) (g.P.ShardPort.catalog c.advance.new.port) (g.P.ShardPort.count c.args.port.now) (g.P.ShardPort.count c.advance.new.port) c.args.self.now c.advance.new.self
    (g.P.ShardPort.told c.args.port.now) (g.P.ShardPort.told c.advance.new.port) c.advance.result c.requires.left c.requires.serves c.advance.ensures.stepped c.advance.ensures.same_port).rises

pub returns-clause-nothing : goal.returns-clause-nothing
returns-clause-nothing g c = λ over.
    let leaves = (step_leaves (g.P.ShardPort.catalog c.args.port.now) (g.P.ShardPort.catalog c.advance.new.port) (g.P.ShardPort.count c.args.port.now) (g.P.ShardPort.count c.advance.new.port) c.args.self.now c.advance.new.self
    (g.P.ShardPort.told c.args.port.now) (g.P.ShardPort.told c.advance.new.port) c.advance.result c.requires.left c.requires.serves c.advance.ensures.stepped c.advance.ensures.same_port) in
    nothing_left (g.P.ShardPort.catalog c.advance.new.port) c.args.self.now.tx (g.P.ShardPort.count c.advance.new.port) (g.P.ShardPort.told c.advance.new.port).shards leaves.serves (leaves.ended over)
