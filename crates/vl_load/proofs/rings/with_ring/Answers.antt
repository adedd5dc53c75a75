use Rattle.vl_load.specs.Rings.{RefusesRing, RefusesShards}
use Rattle.vl_load.specs.Rings.RefusesShards.{BadRing}
use Rattle.vl_load.proofs.Faults.{unfit}
use Rattle.vl_load.proofs.rings.with_ring.Goals as goal

pub returns-clause-err : goal.returns-clause-err
returns-clause-err c =
    let read = c.args.read in
    let ranges = c.in-Ok.ranges.items in
    let spelled = rw c.as_slice.ensures at c.in-Ok.ensures.ok in
    unfit (RefusesRing read.keyspace.name ranges) (RefusesShards read) c.in-Err-ring_of.fault (λ fault is. BadRing ranges spelled is) c.in-Err-ring_of.ensures.err
