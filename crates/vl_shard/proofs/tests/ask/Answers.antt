use Rattle.std.proofs.Common.{sym, subst}
use Rattle.vl_catalog.specs.declared.catalog.Catalog.{Catalog}
use Rattle.vl_port.specs.Placing.{IsActOn}
use Rattle.vl_shard.proofs.tests.ask.Goals as goal

pub act-requires-clause-fits : goal.act-requires-clause-fits
act-requires-clause-fits c = subst (λ (catalog : Catalog). IsActOn catalog 0 c.in_ok-act-in-Look.act) (sym c.requires) (c.in_ok-act-in-Look.ensures.fits 0)
