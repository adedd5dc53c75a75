use Rattle.std.proofs.Common.{◌<◌, length, length-set, set, sym, subst, ◌∙◌}
use Rattle.vl_port.specs.View.{View}
use Rattle.vl_shard.specs.Banks.{BankParts}
use Rattle.vl_shard.specs.Banks.{seen_of, shard_seen}
use Rattle.vl_shard.specs.Calls.{DropLeaves, Drops}
use Rattle.vl_shard.proofs.Banking.{bank_killed, bank_others, between}
use Rattle.vl_shard.proofs.Dropping.{drop_leaves}
use Rattle.vl_shard.proofs.bank.Bank.drop_session.Goals as goal

pub returns-clause-serves : goal.returns-clause-serves
returns-clause-serves g c =
    let within = subst (λ (b : BankParts g.row.L.Denot). c.args.shard < length b.shards) (sym c.self.view_is) c.requires in
    bank_killed c.self.inside.catalog c.self.inside.shards.items c.args.shard c.index_mut.result.now c.drop_session.new.self within c.index_mut.ensures.value c.self.invariant.serves
    c.args.session c.args.group c.drop_session.result c.drop_session.ensures.dropped

pub returns-clause-leaves : goal.returns-clause-leaves
returns-clause-leaves g c =
    let within = subst (λ (b : BankParts g.row.L.Denot). c.args.shard < length b.shards) (sym c.self.view_is) c.requires in
    let shards = c.self.inside.shards.items in
    let new = set shards c.args.shard c.drop_session.new.self in
    subst (λ (b : BankParts g.row.L.Denot). DropLeaves (seen_of b) c.args.shard c.args.session c.args.group c.drop_session.result (shard_seen new)) c.self.view_is
    (drop_leaves (shard_seen shards) (shard_seen new) c.args.shard c.args.session c.args.group c.drop_session.result (c.self.invariant.serves.each c.args.shard within).kept
    (bank_others c.self.inside.catalog shards c.args.shard c.index_mut.result.now c.drop_session.new.self within c.index_mut.ensures.value)
    (between c.self.inside.catalog shards c.args.shard c.index_mut.result.now c.drop_session.new.self within c.index_mut.ensures.value
    (λ (v w : View). Drops v c.args.session c.args.group c.drop_session.result w) c.drop_session.ensures.dropped))

pub invariant_of-self : goal.invariant_of-self
invariant_of-self g c =
    let within = subst (λ (b : BankParts g.row.L.Denot). c.args.shard < length b.shards) (sym c.self.view_is) c.requires in
    record {
      serves =
          bank_killed c.self.inside.catalog c.self.inside.shards.items c.args.shard c.index_mut.result.now c.drop_session.new.self within c.index_mut.ensures.value c.self.invariant.serves
          c.args.session c.args.group c.drop_session.result c.drop_session.ensures.dropped;
      counts = c.self.invariant.counts ∙ sym (length-set c.self.inside.shards.items c.args.shard c.drop_session.new.self);
    }
