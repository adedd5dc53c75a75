use Rattle.std.proofs.Common.{◌≡◌, take}
use Rattle.std.specs.List.{filter_map}
use Rattle.vl_catalog.specs.Place.{place_of_value}
use Rattle.vl_route.proofs.visiting.places_of.Given as goal

abbrev pub invariant-loop-value : goal.invariant-loop-value
invariant-loop-value l = l.places.items ≡ filter_map (place_of_value l.catalog l.number) (take l.value-index l.values)
