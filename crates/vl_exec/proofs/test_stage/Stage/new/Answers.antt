use Rattle.std.proofs.Common.{List, sym, subst}
use Rattle.vl_catalog.specs.declared.catalog.Catalog.{Catalog}
use Rattle.vl_port.specs.Serving.{Serves}
use Rattle.vl_shard.specs.Banks.{count_of, seen_of}
use Rattle.vl_exec.specs.Staging.{AreClients, Client}
use Rattle.vl_exec.proofs.Staged.{nobody}
use Rattle.vl_exec.proofs.test_stage.Stage.new.Goals as goal

pub invariant_of-result : goal.invariant_of-result
invariant_of-result c =
    let catalog = c.args.catalog in
    let bank = c.in_ok-bank.bank in (
      subst (λ (clients : List Client). AreClients catalog (count_of bank) (seen_of bank) clients) (sym c.new-2.ensures.items)
          (nobody catalog (count_of bank) (seen_of bank) c.requires (subst (λ (it : Catalog). Serves it (count_of bank) (seen_of bank)) c.in_ok-bank.ensures.fresh.catalog c.in_ok-bank.ensures.serves)
          (λ shard who within. (c.in_ok-bank.ensures.new.empty shard within).sessions who)),
      c.in_ok-bank.ensures.fresh.catalog,
    )
