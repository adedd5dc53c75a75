use Rattle.std.proofs.Common.{sym, subst}
use Rattle.vl_catalog.specs.declared.catalog.Catalog.{Catalog}
use Rattle.vl_port.specs.Placing.{IsActOn}
use Rattle.vl_shard.proofs.tests.second.Goals as goal

pub act-requires-clause-fits : goal.act-requires-clause-fits
act-requires-clause-fits c = subst (λ (catalog : Catalog). IsActOn catalog 1 c.in_ok-act.act) (sym c.requires) (c.in_ok-act.ensures.fits 1)
