use Rattle.std.proofs.Common.{◌<◌, length, length-set, sym, subst, ◌∙◌}
use Rattle.vl_shard.specs.Banks.{BankParts}
use Rattle.vl_shard.proofs.Banking.{bank_closed}
use Rattle.vl_shard.proofs.bank.BankShardPort.close.Goals as goal

pub returns-clause-serves : goal.returns-clause-serves
returns-clause-serves g c =
    let within = subst (λ (b : BankParts g.row.L.Denot). c.args.shard < length b.shards) (sym c.self.view_is) c.requires in
    bank_closed c.self.inside.catalog c.self.inside.shards.items c.args.shard c.index_mut.result.now c.close.new.self within c.index_mut.ensures.value c.self.invariant.serves
    c.args.who c.close.ensures.closed

pub invariant_of-self : goal.invariant_of-self
invariant_of-self g c =
    let within = subst (λ (b : BankParts g.row.L.Denot). c.args.shard < length b.shards) (sym c.self.view_is) c.requires in
    record {
      serves =
          bank_closed c.self.inside.catalog c.self.inside.shards.items c.args.shard c.index_mut.result.now c.close.new.self within c.index_mut.ensures.value c.self.invariant.serves
          c.args.who c.close.ensures.closed;
      counts = c.self.invariant.counts ∙ sym (length-set c.self.inside.shards.items c.args.shard c.close.new.self);
    }
