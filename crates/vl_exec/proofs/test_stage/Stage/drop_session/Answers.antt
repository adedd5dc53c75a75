use Rattle.std.proofs.Common.{subst, ◌∙◌}
use Rattle.vl_values.specs.declared.group.Group.TheVariants.{Main}
use Rattle.vl_catalog.specs.declared.catalog.Catalog.{Catalog}
use Rattle.vl_port.specs.Serving.{Serves}
use Rattle.vl_shard.specs.Banks.{count_of, seen_of}
use Rattle.vl_exec.proofs.Staged.{clients_alike, dropped_alike}
use Rattle.vl_exec.proofs.test_stage.Stage.drop_session.Goals as goal

pub invariant_of-self : goal.invariant_of-self
invariant_of-self c =
    let it = c.self.inside in
    let same = c.drop_session.ensures.same.serves ∙ c.self.invariant.1 in (
      clients_alike it.catalog (count_of it.bank) (count_of c.drop_session.new.self) (seen_of it.bank) (seen_of c.drop_session.new.self) it.clients.items c.self.invariant.0
          (subst (λ (catalog : Catalog). Serves catalog (count_of c.drop_session.new.self) (seen_of c.drop_session.new.self)) same c.drop_session.ensures.serves)
          (dropped_alike c.drop_session.result (seen_of it.bank) (seen_of c.drop_session.new.self) c.args.shard c.args.session Main c.drop_session.ensures.dropped c.drop_session.ensures.others),
      same,
    )
