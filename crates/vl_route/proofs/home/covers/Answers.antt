use Rattle.std.proofs.Common.{◌<◌, List, [], get_or, length, sym, subst}
use Rattle.vl_vindex.specs.KeyRange.{Range}
use Rattle.vl_vindex.specs.Ring.{CoversOnce}
use Rattle.vl_route.proofs.Homes.{covered}
use Rattle.vl_route.proofs.home.covers.Goals as goal

pub returns : goal.returns
returns c =
    subst (λ (rings : List (List Range)). CoversOnce (get_or rings c.args.keyspace [])) c.as_slice.ensures
    (covered c.as_slice.result.now c.args.keyspace c.index-as_slice-keyspace.result (subst (λ (rings : List (List Range)). c.args.keyspace < length rings) (sym c.as_slice.ensures) c.requires) c.index-as_slice-keyspace.is c.ranges-ranges.ensures.once)
