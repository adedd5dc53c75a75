use Rattle.std.proofs.Common.{◌≡◌, map, take}
use Rattle.vl_catalog.specs.Place.{shard_in}
use Rattle.vl_route.proofs.visiting.homes_of.Given as goal

abbrev pub invariant-loop-ksid : goal.invariant-loop-ksid
invariant-loop-ksid l = l.places.items ≡ map (shard_in l.catalog.rings l.keyspace) (take l.ksid-index l.ksids)
