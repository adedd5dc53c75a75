use Rattle.std.proofs.Common.{◌≡◌, ℕ, ◌+◌, Some, sym, ◌∙◌, subst}
use Rattle.vl_port.specs.declared.who.Who.{Who}
use Rattle.vl_port.specs.Calls.{HasCommitted}
use Rattle.vl_port.specs.Transaction.{session_of}
use Rattle.vl_commit.specs.Sessions.{AreLeft}
use Rattle.vl_commit.specs.Stepping.{Committing, due}
use Rattle.vl_commit.proofs.Steps.{dealt_at, left_behind}
use Rattle.vl_commit.proofs.commit.Commit.advance.Goals as goal

pub deal-requires-clause-left : goal.deal-requires-clause-left
deal-requires-clause-left g c =
    let its = subst (λ (v : Committing). due v ≡ Some (c.in-Some.group, c.in-Some.shard)) c.self.view_is (sym c.session_at.ensures ∙ c.in-Some.is) in
    let own = subst (λ (v : Committing). c.who.result ≡ session_of v.tx c.in-Some.group) c.self.view_is c.who.ensures in
    subst (λ (count : ℕ). AreLeft c.args.self.now.tx (c.args.self.now.at + 1) count (g.P.ShardPort.told c.commit-outcome.new.self).shards) (sym c.commit-outcome.ensures.same.counts)
    (left_behind c.args.self.now (g.P.ShardPort.count c.args.port.now) (g.P.ShardPort.told c.args.port.now) (g.P.ShardPort.told c.commit-outcome.new.self) (c.in-Some.group, c.in-Some.shard) c.commit-outcome.result
    c.requires.left its (subst (λ (w : Who). HasCommitted (g.P.ShardPort.told c.args.port.now) w c.in-Some.shard c.commit-outcome.result (g.P.ShardPort.told c.commit-outcome.new.self)) own c.commit-outcome.ensures.commits))

pub returns-clause-stepped : goal.returns-clause-stepped
returns-clause-stepped g c =
    let its = subst (λ (v : Committing). due v ≡ Some (c.in-Some.group, c.in-Some.shard)) c.self.view_is (sym c.session_at.ensures ∙ c.in-Some.is) in
    let own = subst (λ (v : Committing). c.who.result ≡ session_of v.tx c.in-Some.group) c.self.view_is c.who.ensures in
    dealt_at c.args.self.now c.deal.new.self (g.P.ShardPort.told c.args.port.now) (g.P.ShardPort.told c.commit-outcome.new.self) (g.P.ShardPort.told c.deal.new.port) c.deal.result (c.in-Some.group, c.in-Some.shard)
    c.who.result c.commit-outcome.result its own c.commit-outcome.ensures.commits c.deal.ensures.deals
