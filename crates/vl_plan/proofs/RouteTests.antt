-- The route of a statement goes by one of its tests.
use Rattle.std.proofs.Common.{◌≡◌, ℕ, inl, inr, List, [], ◌∷◌, Option, Some, None, map, refl, subst}
use Rattle.std.specs.Prelude.{◌==◌, Contains, filter, find, not, option_and_then, slice_get, unwrap_or}
use Rattle.std.specs.Option.{option_map}
use Rattle.std.proofs.lemmas.Bool.{eqb-true}
use Rattle.std.proofs.lemmas.List.Elements.{Contains-append_cases}
use Rattle.std.proofs.lemmas.Option.{same_Some}
use Rattle.vl_values.specs.declared.pred.Pred.{Pred}
use Rattle.vl_values.specs.declared.test.Test.{Test}
use Rattle.vl_values.specs.declared.value.Value.{Value}
use Rattle.vl_catalog.specs.declared.catalog.Catalog.{Catalog}
use Rattle.vl_catalog.specs.declared.lookup.Lookup.{Lookup}
use Rattle.vl_catalog.specs.declared.primary.Primary.{Primary}
use Rattle.vl_catalog.specs.declared.table.Table.{Table}
use Rattle.vl_model.specs.declared.route.Route.{Route}
use Rattle.vl_model.specs.declared.route.Route.TheVariants as routes
use Rattle.vl_model.specs.Routes.{by_lookup, by_primary, first_route, is_unique_lookup, lookups_in_order, route_of, values_tested}
use Rattle.vl_plan.specs.Fits.{IsRouteOf, IsTested}
use Rattle.vl_plan.proofs.Sorting.{found_in, here, no_member, split_member, there}
use Rattle.vl_plan.proofs.Testing.{kept_member}

-- ---- the test of a column

tested_by : (pred : Pred) (column : ℕ) (values : List Value) (o : Option Test) → find (λ (test : Test). test.column == column) pred.tests ≡ o
    → option_map (λ (test : Test). test.values) o ≡ Some values → IsTested pred column values
tested_by pred column values None found e = cc
tested_by pred column values (Some test) found e =
    let it = found_in (λ (each : Test). each.column == column) pred.tests test found in
    record { test = test; stands = it.1; tests = eqb-true test.column column it.0; tested = same_Some test.values values e }

tested : (pred : Pred) (column : ℕ) (values : List Value) → values_tested pred.tests column ≡ Some values → IsTested pred column values
tested pred column values e = tested_by pred column values (find (λ (test : Test). test.column == column) pred.tests) refl e

-- ---- the primary vindex

primary_by : (catalog : Catalog) (table : Table) (pred : Pred) (primary : Primary) (route : Route) (o : Option (List Value)) → table.primary ≡ Some primary
    → values_tested pred.tests primary.column ≡ o → option_map (λ (values : List Value). routes.Primary values) o ≡ Some route → IsRouteOf catalog table pred route
primary_by catalog table pred primary route None has found e = cc
primary_by catalog table pred primary route (Some values) has found e =
    subst (λ (it : Route). IsRouteOf catalog table pred it) (same_Some (routes.Primary values) route e)
    (record { primary = primary; is_primary = has; tested = tested pred primary.column values found })

primary_fits : (catalog : Catalog) (table : Table) (pred : Pred) (route : Route) (o : Option Primary) → table.primary ≡ o → by_primary o pred.tests ≡ Some route → IsRouteOf catalog table pred route
primary_fits catalog table pred route None has e = cc
primary_fits catalog table pred route (Some primary) has e = primary_by catalog table pred primary route (values_tested pred.tests primary.column) has refl e

-- ---- a lookup

lookup_by : (catalog : Catalog) (table : Table) (pred : Pred) (l n : ℕ) (lookup : Lookup) (route : Route) (o : Option (List Value)) → Contains table.lookups l
    → slice_get catalog.lookups l ≡ Some lookup → lookup.column ≡ Some n → values_tested pred.tests n ≡ o
    → option_map (λ (values : List Value). routes.Lookup l values) o ≡ Some route → IsRouteOf catalog table pred route
lookup_by catalog table pred l n lookup route None listed at on found e = cc
lookup_by catalog table pred l n lookup route (Some values) listed at on found e =
    subst (λ (it : Route). IsRouteOf catalog table pred it) (same_Some (routes.Lookup l values) route e)
    (record { lookup = lookup; listed = listed; is_lookup = at; column = n; has_column = on; tested = tested pred n values found })

lookup_on : (catalog : Catalog) (table : Table) (pred : Pred) (l : ℕ) (lookup : Lookup) (route : Route) (o : Option ℕ) → Contains table.lookups l
    → slice_get catalog.lookups l ≡ Some lookup → lookup.column ≡ o
    → option_map (λ (values : List Value). routes.Lookup l values) (option_and_then (values_tested pred.tests) o) ≡ Some route → IsRouteOf catalog table pred route
lookup_on catalog table pred l lookup route None listed at on e = cc
lookup_on catalog table pred l lookup route (Some n) listed at on e = lookup_by catalog table pred l n lookup route (values_tested pred.tests n) listed at on refl e

lookup_at : (catalog : Catalog) (table : Table) (pred : Pred) (l : ℕ) (route : Route) (o : Option Lookup) → Contains table.lookups l → slice_get catalog.lookups l ≡ o
    → option_and_then (λ (lookup : Lookup). option_map (λ (values : List Value). routes.Lookup l values) (option_and_then (values_tested pred.tests) lookup.column)) o ≡ Some route
    → IsRouteOf catalog table pred route
lookup_at catalog table pred l route None listed at e = cc
lookup_at catalog table pred l route (Some lookup) listed at e = lookup_on catalog table pred l lookup route lookup.column listed at refl e

lookup_fits : (catalog : Catalog) (table : Table) (pred : Pred) (l : ℕ) (route : Route) → Contains table.lookups l → by_lookup catalog pred.tests l ≡ Some route → IsRouteOf catalog table pred route
lookup_fits catalog table pred l route listed e = lookup_at catalog table pred l route (slice_get catalog.lookups l) listed refl e

-- ---- the first of all

listed_in_order : (catalog : Catalog) (table : Table) (l : ℕ) → Contains (lookups_in_order catalog table) l → Contains table.lookups l
listed_in_order catalog table l h =
    elim (Contains-append_cases (filter (is_unique_lookup catalog) table.lookups) (filter (λ (k : ℕ). not (is_unique_lookup catalog k)) table.lookups) l h) [
      | inl g ↦ (kept_member (is_unique_lookup catalog) table.lookups l g).1
      | inr g ↦ (kept_member (λ (k : ℕ). not (is_unique_lookup catalog k)) table.lookups l g).1
    ]

-- the first that there is, is one of them
first_is : (P : Route → Type 0) (os : List (Option Route)) (route : Route) → first_route os ≡ Some route → ((it : Route) → Contains os (Some it) → P it) → P route
first_is P [] route e each = cc
first_is P (None ∷ rest) route e each = first_is P rest route e (λ it h. each it (there None rest (Some it) h))
first_is P (Some first ∷ rest) route e each = subst P (same_Some first route e) (each first (here (Some first) rest))

mapped : (f : ℕ → Option Route) (numbers : List ℕ) (o : Option Route) → Contains (map f numbers) o → (l : ℕ) × Contains numbers l × (f l ≡ o)
mapped f [] o h = absurd (no_member o h)
mapped f (l ∷ numbers) o h =
    elim (split_member (f l) (map f numbers) o h) [
      | inl same ↦ (l, here l numbers, same)
      | inr rest ↦ let it = mapped f numbers o rest in (it.0, there l numbers it.0 it.1, it.2)
    ]

each_fits : (catalog : Catalog) (table : Table) (pred : Pred) (route : Route)
    → Contains (by_primary table.primary pred.tests ∷ map (by_lookup catalog pred.tests) (lookups_in_order catalog table)) (Some route) → IsRouteOf catalog table pred route
each_fits catalog table pred route h =
    elim (split_member (by_primary table.primary pred.tests) (map (by_lookup catalog pred.tests) (lookups_in_order catalog table)) (Some route) h) [
      | inl e ↦ primary_fits catalog table pred route table.primary refl e
      | inr rest ↦
          let it = mapped (by_lookup catalog pred.tests) (lookups_in_order catalog table) (Some route) rest in
          lookup_fits catalog table pred it.0 route (listed_in_order catalog table it.0 it.1) it.2
    ]

first_fits : (catalog : Catalog) (table : Table) (pred : Pred) (o : Option Route)
    → first_route (by_primary table.primary pred.tests ∷ map (by_lookup catalog pred.tests) (lookups_in_order catalog table)) ≡ o → IsRouteOf catalog table pred (unwrap_or o routes.All)
first_fits catalog table pred None e = tt
first_fits catalog table pred (Some route) e =
    first_is (λ (it : Route). IsRouteOf catalog table pred it) (by_primary table.primary pred.tests ∷ map (by_lookup catalog pred.tests) (lookups_in_order catalog table)) route e
    (each_fits catalog table pred)

pub route_fits : (catalog : Catalog) (table : Table) (pred : Pred) → IsRouteOf catalog table pred (route_of catalog table pred.tests)
route_fits catalog table pred =
    first_fits catalog table pred (first_route (by_primary table.primary pred.tests ∷ map (by_lookup catalog pred.tests) (lookups_in_order catalog table))) refl
