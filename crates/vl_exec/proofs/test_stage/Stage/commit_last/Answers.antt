use Rattle.std.proofs.Common.{arith, sym, subst, ◌∙◌}
use Rattle.vl_catalog.specs.declared.catalog.Catalog.{Catalog}
use Rattle.vl_port.specs.Serving.{Serves}
use Rattle.vl_shard.specs.Banks.{count_of, seen_of}
use Rattle.vl_exec.specs.Staging.{IsClient}
use Rattle.vl_exec.proofs.Staged.{client_at, turned}
use Rattle.vl_exec.proofs.test_stage.Stage.commit_last.Goals as goal

pub commit-requires-clause-client : goal.commit-requires-clause-client
commit-requires-clause-client c =
    let it = c.self.inside in
    subst (λ (catalog : Catalog). IsClient catalog (seen_of it.bank) c.index_mut.result.now) (sym c.self.invariant.1)
    (client_at it.catalog (count_of it.bank) (count_of it.bank) (seen_of it.bank) (seen_of it.bank) it.clients.items c.args.place c.index_mut.result.now c.index_mut.result.now c.self.invariant.0 (omega (arith, c.if-place-len.false, c.len.ensures)) c.index_mut.ensures.value).1

pub invariant_of-self : goal.invariant_of-self
invariant_of-self c =
    let it = c.self.inside in
    let same = c.commit.ensures.agree ∙ c.self.invariant.1 in (
      turned it.catalog (count_of it.bank) (count_of c.commit.new.bank) (seen_of it.bank) (seen_of c.commit.new.bank) it.clients.items c.args.place c.index_mut.result.now c.commit.new.client c.self.invariant.0
          (omega (arith, c.if-place-len.false, c.len.ensures)) c.index_mut.ensures.value
          (subst (λ (catalog : Catalog). Serves catalog (count_of c.commit.new.bank) (seen_of c.commit.new.bank)) same c.commit.ensures.serves)
          (subst (λ (catalog : Catalog). IsClient catalog (seen_of c.commit.new.bank) c.commit.new.client) c.self.invariant.1 c.commit.ensures.client) c.commit.ensures.number c.commit.ensures.foreign,
      same,
    )
