use Rattle.std.proofs.Common.{◌<◌, List, length, length-set, sym, ap, subst, ◌∙◌}
use Rattle.vl_shard.specs.Parts.{Parts}
use Rattle.vl_shard.specs.Banks.{BankParts}
use Rattle.vl_catalog.specs.declared.catalog.Catalog.{Catalog}
use Rattle.vl_port.specs.Placing.{IsActOn}
use Rattle.vl_shard.proofs.Banking.{bank_acted}
use Rattle.vl_shard.proofs.bank.BankShardPort.act.Goals as goal

pub returns-clause-serves : goal.returns-clause-serves
returns-clause-serves g c =
    let shards = ap (λ (b : BankParts g.row.L.Denot). b.shards) c.self.view_is ∙ c.carry-way.ensures.shards in
    let within = subst (λ (l : List Parts). c.args.shard < length l) (sym shards) c.requires.shard in
    let catalog = ap (λ (b : BankParts g.row.L.Denot). b.catalog) c.self.view_is ∙ c.carry-way.ensures.catalog in
    let fits = subst (λ (k : Catalog). IsActOn k c.args.shard c.args.act.now) (sym catalog) c.requires.fits in
    bank_acted c.self.inside.catalog c.self.inside.shards.items c.args.shard c.index_mut.result.now c.act-answer.new.self within c.index_mut.ensures.value c.self.invariant.serves
    c.args.who c.args.act.now c.carry-way.result c.act-answer.result c.requires.group fits c.act-answer.ensures.acted

pub invariant_of-self : goal.invariant_of-self
invariant_of-self g c =
    let shards = ap (λ (b : BankParts g.row.L.Denot). b.shards) c.self.view_is ∙ c.carry-way.ensures.shards in
    let within = subst (λ (l : List Parts). c.args.shard < length l) (sym shards) c.requires.shard in
    let catalog = ap (λ (b : BankParts g.row.L.Denot). b.catalog) c.self.view_is ∙ c.carry-way.ensures.catalog in
    let fits = subst (λ (k : Catalog). IsActOn k c.args.shard c.args.act.now) (sym catalog) c.requires.fits in
    record {
      serves =
          bank_acted c.self.inside.catalog c.self.inside.shards.items c.args.shard c.index_mut.result.now c.act-answer.new.self within c.index_mut.ensures.value c.self.invariant.serves
          c.args.who c.args.act.now c.carry-way.result c.act-answer.result c.requires.group fits c.act-answer.ensures.acted;
      counts = c.self.invariant.counts ∙ sym (length-set c.self.inside.shards.items c.args.shard c.act-answer.new.self);
    }
