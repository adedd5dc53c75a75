-- The built-in catalog keeps the rules.
use Rattle.std.proofs.Common.{refl}
use Rattle.vl_catalog.specs.CatalogA.{catalog_a}
use Rattle.vl_rules.specs.Order.{Checked}

pub built_in_checked : Checked catalog_a
built_in_checked = refl
