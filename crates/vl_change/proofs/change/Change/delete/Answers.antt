use Rattle.std.proofs.Common.{sym, subst, ap, ◌∙◌}
use Rattle.vl_catalog.specs.Place.{shard_count}
use Rattle.vl_change.specs.declared.row_change.RowChange.TheVariants.{Remove}
use Rattle.vl_change.specs.Begun.{searching}
use Rattle.vl_change.specs.Making.{IsMade}
use Rattle.vl_change.proofs.Beginning.{search_made}
use Rattle.vl_change.proofs.change.Change.delete.Goals as goal

pub returns-in-Ok-clause-made : goal.returns-in-Ok-clause-made
returns-in-Ok-clause-made c = λ limit least.
    subst (IsMade c.args.catalog.now (shard_count c.args.catalog.now.rings) limit) (sym (c.begin.ensures ∙ ap (searching c.args.plan.pred Remove) c.in-Ok.ensures.shards))
    (search_made c.args.catalog.now c.args.plan.pred c.args.plan.route Remove limit c.requires.fits.pred tt least)
