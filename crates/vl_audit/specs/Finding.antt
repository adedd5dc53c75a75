-- The rows that were found, in an ordered map.
use Rattle.std.specs.Prelude.{List, Contains, IsSome, ◌↔◌, ◌⊎◌}
use Rattle.std.specs.BTreeMap.{BTreeMap, get}
use Rattle.vl_catalog.specs.declared.lookup.Lookup.{Lookup}
use Rattle.vl_model.specs.Tables.{Pair, Stands, Tables}
use Rattle.vl_audit.specs.declared.found.Found.{Found}
use Rattle.vl_audit.specs.Audit.{found_cmp, pair_of}

abbrev pub Has : BTreeMap Found (Unit {0}) → Found → Type 0
Has map found = IsSome (get found_cmp map found)

-- the row stands on its shard, and is so
abbrev pub StandsSo : Tables → (Pair → Type 0) → Found → Type 0
StandsSo tables P found = Stands tables found.shard (pair_of found) × P (pair_of found)

-- these come to the map, and no others
abbrev pub Adds : (Found → Type 0) → BTreeMap Found (Unit {0}) → BTreeMap Found (Unit {0}) → Type 0
Adds P old new = (found : Found) → Has new found ↔ (Has old found ⊎ P found)

-- the row stands on its shard, and is so by one of these lookups
abbrev pub ByThese : Tables → (Lookup → Pair → Type 0) → List Lookup → Found → Type 0
ByThese tables P lookups found =
    Stands tables found.shard (pair_of found) × ((lookup : Lookup) × Contains lookups lookup × P lookup (pair_of found))
