use Rattle.std.proofs.Common.{◌-◌, ◌≤◌, length, subst}
use Rattle.vl_commit.specs.Closing.{AreClosed}
use Rattle.vl_commit.specs.Sessions.{sessions}
use Rattle.vl_commit.specs.Stepping.{Committing}
use Rattle.vl_commit.proofs.Closings.{all_closed}
use Rattle.vl_commit.proofs.commit.Commit.abandon.Goals as goal

pub returns-clause-nothing : goal.returns-clause-nothing
returns-clause-nothing g c =
    (all_closed (g.P.ShardPort.catalog c.args.port.now) (g.P.ShardPort.catalog c.close_from.new.port) (g.P.ShardPort.count c.args.port.now) (g.P.ShardPort.count c.close_from.new.port) c.args.self.tx c.args.self.at
    (g.P.ShardPort.told c.args.port.now) (g.P.ShardPort.told c.close_from.new.port) (subst (λ (v : Committing). v.at ≤ length (sessions v.tx)) c.self.view_is c.self.invariant.0) c.requires.left c.requires.serves
    (subst (λ (v : Committing). AreClosed v.tx v.at (length (sessions v.tx) - v.at) (g.P.ShardPort.told c.args.port.now) (g.P.ShardPort.told c.close_from.new.port)) c.self.view_is c.close_from.ensures.closed) c.close_from.ensures.same).nothing

pub returns-clause-serves : goal.returns-clause-serves
returns-clause-serves g c =
    (all_closed (g.P.ShardPort.catalog c.args.port.now) (g.P.ShardPort.catalog c.close_from.new.port) (g.P.ShardPort.count c.args.port.now) (g.P.ShardPort.count c.close_from.new.port) c.args.self.tx c.args.self.at
    (g.P.ShardPort.told c.args.port.now) (g.P.ShardPort.told c.close_from.new.port) (subst (λ (v : Committing). v.at ≤ length (sessions v.tx)) c.self.view_is c.self.invariant.0) c.requires.left c.requires.serves
    (subst (λ (v : Committing). AreClosed v.tx v.at (length (sessions v.tx) - v.at) (g.P.ShardPort.told c.args.port.now) (g.P.ShardPort.told c.close_from.new.port)) c.self.view_is c.close_from.ensures.closed) c.close_from.ensures.same).serves

pub returns-clause-others : goal.returns-clause-others
returns-clause-others g c =
    (all_closed (g.P.ShardPort.catalog c.args.port.now) (g.P.ShardPort.catalog c.close_from.new.port) (g.P.ShardPort.count c.args.port.now) (g.P.ShardPort.count c.close_from.new.port) c.args.self.tx c.args.self.at
    (g.P.ShardPort.told c.args.port.now) (g.P.ShardPort.told c.close_from.new.port) (subst (λ (v : Committing). v.at ≤ length (sessions v.tx)) c.self.view_is c.self.invariant.0) c.requires.left c.requires.serves
    (subst (λ (v : Committing). AreClosed v.tx v.at (length (sessions v.tx) - v.at) (g.P.ShardPort.told c.args.port.now) (g.P.ShardPort.told c.close_from.new.port)) c.self.view_is c.close_from.ensures.closed) c.close_from.ensures.same).others

pub returns-clause-incarnations : goal.returns-clause-incarnations
returns-clause-incarnations g c =
    (all_closed (g.P.ShardPort.catalog c.args.port.now) (g.P.ShardPort.catalog c.close_from.new.port) (g.P.ShardPort.count c.args.port.now) (g.P.ShardPort.count c.close_from.new.port) c.args.self.tx c.args.self.at
    (g.P.ShardPort.told c.args.port.now) (g.P.ShardPort.told c.close_from.new.port) (subst (λ (v : Committing). v.at ≤ length (sessions v.tx)) c.self.view_is c.self.invariant.0) c.requires.left c.requires.serves
    (subst (λ (v : Committing). AreClosed v.tx v.at (length (sessions v.tx) - v.at) (g.P.ShardPort.told c.args.port.now) (g.P.ShardPort.told c.close_from.new.port)) c.self.view_is c.close_from.ensures.closed) c.close_from.ensures.same).stays
