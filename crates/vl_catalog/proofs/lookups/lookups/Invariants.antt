use Rattle.std.proofs.Common.{◌≡◌, take}
use Rattle.std.specs.List.{filter_map}
use Rattle.vl_catalog.specs.Build.{lookup_of}
use Rattle.vl_catalog.proofs.lookups.lookups.Given as goal

abbrev pub invariant-loop-id : goal.invariant-loop-id
invariant-loop-id l = l.lookups.items ≡ filter_map (lookup_of l.parts l.tables) (take l.id-index l.ids)
