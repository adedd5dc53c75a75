-- The built-in catalog is what its parts mean, and the texts of its two ranges.
use Rattle.std.proofs.Common.{◌≡◌, inr, [], ◌∷◌, refl, arith, codes}
use Rattle.std.proofs.Common.{List, Result, Ok, Err, ap, ◌∙◌}
use Rattle.std.specs.Prelude.{IfOk}
use Rattle.vl_catalog.specs.declared.catalog.Catalog.{Catalog}
use Rattle.vl_catalog.specs.declared.keyspace_parts.KeyspaceParts.{KeyspaceParts}
use Rattle.hex.specs.Hex.{decode_pairs}
use Rattle.vl_vindex.specs.KeyRange.{IsRead}
use Rattle.vl_catalog.specs.Build.{catalog_of}
use Rattle.vl_catalog.specs.CatalogA.{catalog_a, parts_a, low_half, high_half}

pub built : catalog_of (parts_a ∷ []) ≡ catalog_a
built = refl

-- ---- the texts of the two ranges

pub low_half_read : IsRead (codes "-80") low_half
unfolding decode_pairs
low_half_read = (inr ([], codes "80", refl, (refl, omega arith), (refl, omega arith)), refl)

pub high_half_read : IsRead (codes "80-") high_half
unfolding decode_pairs
high_half_read = (inr (codes "80", [], refl, (refl, omega arith), (refl, omega arith)), refl)

pub built_from : {E : Type 0} (r : Result Catalog E) (parts : List KeyspaceParts) → parts ≡ parts_a ∷ []
    → IfOk r (λ catalog. catalog ≡ catalog_of parts) → IfOk r (λ catalog. catalog ≡ catalog_a)
built_from (Ok catalog) parts same made = made ∙ ap catalog_of same ∙ built
built_from (Err error) parts same made = tt
