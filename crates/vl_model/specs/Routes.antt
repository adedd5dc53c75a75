-- By which shards a statement goes: the first route that its tests give.
use Rattle.std.specs.Prelude.{ℕ, Bool, false, not, ◌==◌, List, [], ◌∷◌, ◌++◌, map, filter, find, slice_get, unwrap_or, option_and_then, Option, Some, None}
use Rattle.std.specs.Option.{option_map, option_map_or}
use Rattle.vl_values.specs.declared.test.Test.{Test}
use Rattle.vl_values.specs.declared.value.Value.{Value}
use Rattle.vl_catalog.specs.declared.catalog.Catalog.{Catalog}
use Rattle.vl_catalog.specs.declared.lookup.Lookup.{Lookup}
use Rattle.vl_catalog.specs.declared.primary.Primary.{Primary}
use Rattle.vl_catalog.specs.declared.table.Table.{Table}
use Rattle.vl_model.specs.declared.route.Route.{Route}
use Rattle.vl_model.specs.declared.route.Route.TheVariants as routes

-- the test of a column is the first one on it
abbrev pub values_tested : List Test → ℕ → Option (List Value)
values_tested tests column = option_map (λ (test : Test). test.values) (find (λ (test : Test). test.column == column) tests)

-- a test of the primary vindex column
abbrev pub by_primary : Option Primary → List Test → Option Route
by_primary None tests = None
by_primary (Some primary) tests = option_map (λ values. routes.Primary values) (values_tested tests primary.column)

-- a test of the lookup's column
abbrev pub by_lookup : Catalog → List Test → ℕ → Option Route
by_lookup catalog tests l =
    option_and_then (λ (lookup : Lookup). option_map (λ values. routes.Lookup l values) (option_and_then (values_tested tests) lookup.column))
    (slice_get catalog.lookups l)

abbrev pub is_unique_lookup : Catalog → ℕ → Bool
is_unique_lookup catalog l = option_map_or (λ (lookup : Lookup). lookup.unique) (slice_get catalog.lookups l) false

-- the unique lookups come first, and each kind in the order of the table's column vindexes
abbrev pub lookups_in_order : Catalog → Table → List ℕ
lookups_in_order catalog table = filter (is_unique_lookup catalog) table.lookups ++ filter (λ l. not (is_unique_lookup catalog l)) table.lookups

abbrev pub first_route : List (Option Route) → Option Route
first_route [] = None
first_route (None ∷ rest) = first_route rest
first_route (Some route ∷ rest) = Some route

-- the primary vindex, then the lookups, else all shards
abbrev pub route_of : Catalog → Table → List Test → Route
route_of catalog table tests =
    unwrap_or (first_route (by_primary table.primary tests ∷ map (by_lookup catalog tests) (lookups_in_order catalog table))) routes.All
