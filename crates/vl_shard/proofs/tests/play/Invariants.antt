use Rattle.std.proofs.Common.{◌≡◌}
use Rattle.vl_catalog.specs.CatalogA.{catalog_a}
use Rattle.vl_shard.proofs.tests.play.Given as goal

abbrev pub invariant-loop-session : goal.invariant-loop-session
invariant-loop-session g l = l.bank.catalog ≡ catalog_a
