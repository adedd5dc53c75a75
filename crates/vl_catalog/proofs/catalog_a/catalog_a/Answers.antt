use Rattle.std.proofs.Common.{◌∷◌, [], ap, ◌∙◌}
use Rattle.vl_catalog.specs.declared.keyspace_parts.KeyspaceParts.{KeyspaceParts}
use Rattle.vl_catalog.proofs.BuiltIn.{built_from}
use Rattle.vl_catalog.proofs.catalog_a.catalog_a.Goals as goal

pub returns : goal.returns
returns c =
    let same =
    c.deref.ensures.value ∙ c.in_ok-parts-2.ensures.items ∙ ap (λ (part : KeyspaceParts). part ∷ []) c.in_ok-parts.ensures in
    built_from c.catalog_of.result c.deref.result.now same c.catalog_of.ensures
