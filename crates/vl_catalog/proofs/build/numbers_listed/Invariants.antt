use Rattle.std.proofs.Common.{◌≡◌, take}
use Rattle.std.specs.List.{filter_map}
use Rattle.vl_catalog.specs.Build.{number_listed}
use Rattle.vl_catalog.proofs.build.numbers_listed.Given as goal

abbrev pub invariant-loop-vindex : goal.invariant-loop-vindex
invariant-loop-vindex l = l.numbers.items ≡ filter_map (number_listed l.ids l.keyspace l.vindexes) (take l.vindex-index l.listed)
