use Rattle.std.proofs.Common.{Result, ap}
use Rattle.std.specs.Result.{result_unwrap_or}
use Rattle.vl_vindex.specs.KeyRange.{Range}
use Rattle.vl_vindex.specs.declared.bad_range.BadRange.{BadRange}
use Rattle.vl_catalog.specs.CatalogA.{high_half}
use Rattle.vl_catalog.proofs.BuiltIn.{high_half_read}
use Rattle.vl_catalog.proofs.catalog_a.high_half.Goals as goal

pub unreachable-requires : goal.unreachable-requires
unreachable-requires c = let same = c.in-Err.ensures.only high_half high_half_read in cc same

pub returns : goal.returns
returns c = ap (λ (r : Result Range BadRange). result_unwrap_or r high_half) (c.in-Ok.ensures.only high_half high_half_read)
