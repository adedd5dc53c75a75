use Rattle.std.proofs.lemmas.List.Filters.{dedup_is}
use Rattle.vl_vschema.proofs.Ordering.{listing_of}
use Rattle.vl_vschema.proofs.listing.in_order.Goals as goal

pub returns : goal.returns
returns c =
    let is = dedup_is _ _ _ c.dedup.ensures.filtered in
    rw is (listing_of _ _ c.sort_unstable.ensures.permutation c.sort_unstable.ensures.sorted)
