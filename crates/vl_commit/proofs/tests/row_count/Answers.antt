use Rattle.std.proofs.Common.{sym, subst}
use Rattle.vl_catalog.specs.declared.catalog.Catalog.{Catalog}
use Rattle.vl_port.specs.Placing.{IsActOn}
use Rattle.vl_commit.proofs.tests.row_count.Goals as goal

pub act-requires-clause-fits : goal.act-requires-clause-fits
act-requires-clause-fits c = subst (λ (catalog : Catalog). IsActOn catalog c.args.shard c.look.result) (sym c.requires.catalog) (c.look.ensures.fits c.args.shard)
