use Rattle.std.proofs.Common.{arith, sym, subst, ◌∙◌}
use Rattle.vl_catalog.specs.declared.catalog.Catalog.{Catalog}
use Rattle.vl_port.specs.Serving.{Serves}
use Rattle.vl_shard.specs.Banks.{count_of, seen_of}
use Rattle.vl_exec.specs.Staging.{IsClient}
use Rattle.vl_exec.proofs.Staged.{client_at, turned}
use Rattle.vl_exec.proofs.test_stage.Stage.close_last.Goals as goal

pub close-requires-clause-client : goal.close-requires-clause-client
close-requires-clause-client c =
    let it = c.self.inside in
    subst (λ (catalog : Catalog). IsClient catalog (seen_of it.bank) c.index_mut.result.now) (sym c.self.invariant.1)
    (client_at it.catalog (count_of it.bank) (count_of it.bank) (seen_of it.bank) (seen_of it.bank) it.clients.items c.args.place c.index_mut.result.now c.index_mut.result.now c.self.invariant.0 (omega (arith, c.if-place-len.false, c.len.ensures)) c.index_mut.ensures.value).1

pub invariant_of-self : goal.invariant_of-self
invariant_of-self c =
    let it = c.self.inside in
    let same = c.close.ensures.agree ∙ c.self.invariant.1 in (
      turned it.catalog (count_of it.bank) (count_of c.close.new.bank) (seen_of it.bank) (seen_of c.close.new.bank) it.clients.items c.args.place c.index_mut.result.now c.close.new.client c.self.invariant.0
          (omega (arith, c.if-place-len.false, c.len.ensures)) c.index_mut.ensures.value
          (subst (λ (catalog : Catalog). Serves catalog (count_of c.close.new.bank) (seen_of c.close.new.bank)) same c.close.ensures.serves)
          (subst (λ (catalog : Catalog). IsClient catalog (seen_of c.close.new.bank) c.close.new.client) c.self.invariant.1 c.close.ensures.client) c.close.ensures.number c.close.ensures.foreign,
      same,
    )
