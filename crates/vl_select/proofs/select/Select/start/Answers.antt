use Rattle.std.proofs.Common.{List, length, sym, subst, ◌∙◌}
use Rattle.vl_vindex.specs.KeyRange.{Range}
use Rattle.vl_catalog.specs.Place.{shard_count}
use Rattle.vl_route.proofs.Homes.{AreCovering}
use Rattle.vl_select.specs.Making.{IsMade}
use Rattle.vl_select.proofs.Beginning.{begun_laid, begun_made}
use Rattle.vl_select.proofs.select.Select.start.Goals as goal

pub returns-in-Ok-clause-begun : goal.returns-in-Ok-clause-begun
returns-in-Ok-clause-begun c = c.begin.ensures ∙ begun_laid c.args.catalog.now c.args.plan c.group_of-group.result c.in-Ok.laid.entries.items c.in-Ok.laid.shards.items c.group_of-group.ensures c.in-Ok.ensures.entries c.in-Ok.ensures.shards

pub returns-in-Ok-clause-made : goal.returns-in-Ok-clause-made
returns-in-Ok-clause-made c = λ limit least.
    subst (IsMade c.args.catalog.now (shard_count c.args.catalog.now.rings) limit)
    (sym (c.begin.ensures ∙ begun_laid c.args.catalog.now c.args.plan c.group_of-group.result c.in-Ok.laid.entries.items c.in-Ok.laid.shards.items c.group_of-group.ensures c.in-Ok.ensures.entries c.in-Ok.ensures.shards))
    (begun_made c.args.catalog.now c.args.plan limit c.requires.checked (subst (λ (rings : List (List Range)). AreCovering rings (length rings)) c.as_slice.ensures c.each_covers.ensures) c.requires.fits least)
