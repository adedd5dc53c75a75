use Rattle.std.proofs.Common.{◌≡◌, take}
use Rattle.vl_catalog.specs.Place.{shard_count}
use Rattle.vl_catalog.proofs.place.shard_count.Given as goal

abbrev pub invariant-loop-ring : goal.invariant-loop-ring
invariant-loop-ring l = l.count ≡ shard_count (take l.ring-index l.rings)
