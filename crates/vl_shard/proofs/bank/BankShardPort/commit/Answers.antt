use Rattle.std.proofs.Common.{◌<◌, List, length, length-set, sym, ap, subst, ◌∙◌}
use Rattle.vl_shard.specs.Parts.{Parts}
use Rattle.vl_shard.specs.Banks.{BankParts}
use Rattle.vl_shard.proofs.Banking.{bank_committed}
use Rattle.vl_shard.proofs.bank.BankShardPort.commit.Goals as goal

pub returns-clause-serves : goal.returns-clause-serves
returns-clause-serves g c =
    let shards = ap (λ (b : BankParts g.row.L.Denot). b.shards) c.self.view_is ∙ c.carry-way.ensures.shards in
    let within = subst (λ (l : List Parts). c.args.shard < length l) (sym shards) c.requires in
    bank_committed c.self.inside.catalog c.self.inside.shards.items c.args.shard c.index_mut.result.now c.commit.new.self within c.index_mut.ensures.value c.self.invariant.serves
    c.args.who c.carry-way.result c.commit.result c.commit.ensures.settled

pub invariant_of-self : goal.invariant_of-self
invariant_of-self g c =
    let shards = ap (λ (b : BankParts g.row.L.Denot). b.shards) c.self.view_is ∙ c.carry-way.ensures.shards in
    let within = subst (λ (l : List Parts). c.args.shard < length l) (sym shards) c.requires in
    record {
      serves =
          bank_committed c.self.inside.catalog c.self.inside.shards.items c.args.shard c.index_mut.result.now c.commit.new.self within c.index_mut.ensures.value c.self.invariant.serves
          c.args.who c.carry-way.result c.commit.result c.commit.ensures.settled;
      counts = c.self.invariant.counts ∙ sym (length-set c.self.inside.shards.items c.args.shard c.commit.new.self);
    }
