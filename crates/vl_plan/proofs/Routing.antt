-- The first route of several.
use Rattle.std.proofs.Common.{◌≡◌, ℕ, ◌+◌, ◌<◌, Bool, true, false, List, [], ◌∷◌, ◌++◌, length, get_or, take, drop, Option, Some, None, map, refl, sym, ap, ◌∙◌}
use Rattle.std.specs.Prelude.{filter, unwrap_or, not}
use Rattle.std.proofs.lemmas.List.{map-append}
use Rattle.std.proofs.lemmas.List.Elements.{filter-append}
use Rattle.std.proofs.lemmas.Option.{same_Some, slice_get-get_or}
use Rattle.vl_values.specs.declared.test.Test.{Test}
use Rattle.vl_catalog.specs.declared.catalog.Catalog.{Catalog}
use Rattle.vl_catalog.specs.declared.table.Table.{Table}
use Rattle.vl_model.specs.declared.route.Route.{Route}
use Rattle.vl_model.specs.declared.route.Route.TheVariants as routes
use Rattle.vl_model.specs.Routes.{by_lookup, by_primary, first_route, is_unique_lookup, route_of}
use Rattle.vl_plan.specs.Kinds.{is_of_kind}
use Rattle.vl_plan.proofs.Firsts.{one_more, parted}

first_none : (xs ys : List (Option Route)) → first_route xs ≡ None → first_route (xs ++ ys) ≡ first_route ys
first_none [] ys e = refl
first_none (None ∷ xs) ys e = first_none xs ys e
first_none (Some r ∷ xs) ys e = cc

first_some : (xs ys : List (Option Route)) (r : Route) → first_route xs ≡ Some r → first_route (xs ++ ys) ≡ Some r
first_some [] ys r e = cc
first_some (None ∷ xs) ys r e = first_some xs ys r e
first_some (Some q ∷ xs) ys r e = e

kept_append : {X Y : Type 0} (f : X → Y) (p : X → Bool) (xs ys : List X) → map f (filter p (xs ++ ys)) ≡ map f (filter p xs) ++ map f (filter p ys)
kept_append f p xs ys = ap (map f) (filter-append p xs ys) ∙ map-append f (filter p xs) (filter p ys)

-- no route so far, and here is one
pub route_here : (f : ℕ → Option Route) (p : ℕ → Bool) (xs : List ℕ) (i x : ℕ) (r : Route) → i < length xs → x ≡ get_or xs i x
    → first_route (map f (filter p (take i xs))) ≡ None → first_route (map f (filter p (x ∷ []))) ≡ Some r → first_route (map f (filter p xs)) ≡ Some r
route_here f p xs i x r lt at none here =
    ap (λ (zs : List ℕ). first_route (map f (filter p zs))) (parted xs i x lt at)
    ∙ ap first_route (kept_append f p (take i xs) (x ∷ drop (i + 1) xs))
    ∙ first_none (map f (filter p (take i xs))) (map f (filter p (x ∷ drop (i + 1) xs))) none
    ∙ ap first_route (kept_append f p (x ∷ []) (drop (i + 1) xs))
    ∙ first_some (map f (filter p (x ∷ []))) (map f (filter p (drop (i + 1) xs))) r here

-- no route so far, and none here
pub no_route_here : (f : ℕ → Option Route) (p : ℕ → Bool) (xs : List ℕ) (i x : ℕ) → i < length xs → x ≡ get_or xs i x
    → first_route (map f (filter p (take i xs))) ≡ None → first_route (map f (filter p (x ∷ []))) ≡ None → first_route (map f (filter p (take (i + 1) xs))) ≡ None
no_route_here f p xs i x lt at none here =
    ap (λ (zs : List ℕ). first_route (map f (filter p zs))) (one_more xs i x lt at)
    ∙ ap first_route (kept_append f p (take i xs) (x ∷ []))
    ∙ first_none (map f (filter p (take i xs))) (map f (filter p (x ∷ []))) none
    ∙ here

-- a number that was read is itself, whatever stands past the end
pub as_read : (xs : List ℕ) (i : ℕ) → i < length xs → get_or xs i 0 ≡ get_or xs i (get_or xs i 0)
as_read xs i lt = same_Some _ _ (sym (slice_get-get_or xs i 0 lt) ∙ slice_get-get_or xs i (get_or xs i 0) lt)

-- ---- the primary vindex, the unique lookups, the others, all shards

split_route : (catalog : Catalog) (table : Table) (tests : List Test) → route_of catalog table tests
    ≡ unwrap_or (first_route (by_primary table.primary tests ∷ (map (by_lookup catalog tests) (filter (is_of_kind catalog true) table.lookups) ++ map (by_lookup catalog tests) (filter (is_of_kind catalog false) table.lookups)))) routes.All
split_route catalog table tests =
    ap (λ (rs : List (Option Route)). unwrap_or (first_route (by_primary table.primary tests ∷ rs)) routes.All)
    (map-append (by_lookup catalog tests) (filter (is_of_kind catalog true) table.lookups) (filter (is_of_kind catalog false) table.lookups))

second_of : (o : Option Route) (us ns : List (Option Route)) (r : Route) → o ≡ None → first_route us ≡ Some r → unwrap_or (first_route (o ∷ (us ++ ns))) routes.All ≡ r
second_of None us ns r e here = ap (λ (q : Option Route). unwrap_or q routes.All) (first_some us ns r here)
second_of (Some q) us ns r e here = cc

third_of : (o : Option Route) (us ns : List (Option Route)) → o ≡ None → first_route us ≡ None → unwrap_or (first_route (o ∷ (us ++ ns))) routes.All ≡ unwrap_or (first_route ns) routes.All
third_of None us ns e none = ap (λ (q : Option Route). unwrap_or q routes.All) (first_none us ns none)
third_of (Some q) us ns e none = cc

pub route_unique : (catalog : Catalog) (table : Table) (tests : List Test) (lookups : List ℕ) (r : Route) (o p : Option Route) → lookups ≡ table.lookups
    → o ≡ by_primary table.primary tests → o ≡ None
    → p ≡ first_route (map (by_lookup catalog tests) (filter (is_of_kind catalog true) lookups)) → p ≡ Some r → r ≡ route_of catalog table tests
route_unique catalog table tests lookups r o p same is none here it =
    let found : first_route (map (by_lookup catalog tests) (filter (is_of_kind catalog true) table.lookups)) ≡ Some r =
    ap (λ (ls : List ℕ). first_route (map (by_lookup catalog tests) (filter (is_of_kind catalog true) ls))) (sym same) ∙ sym here ∙ it in
    sym (split_route catalog table tests ∙ second_of (by_primary table.primary tests) (map (by_lookup catalog tests) (filter (is_of_kind catalog true) table.lookups)) (map (by_lookup catalog tests) (filter (is_of_kind catalog false) table.lookups)) r (sym is ∙ none) found)

pub route_left : (catalog : Catalog) (table : Table) (tests : List Test) (lookups : List ℕ) (o p q : Option Route) → lookups ≡ table.lookups
    → o ≡ by_primary table.primary tests → o ≡ None
    → p ≡ first_route (map (by_lookup catalog tests) (filter (is_of_kind catalog true) lookups)) → p ≡ None
    → q ≡ first_route (map (by_lookup catalog tests) (filter (is_of_kind catalog false) lookups)) → unwrap_or q routes.All ≡ route_of catalog table tests
route_left catalog table tests lookups o p q same is none here no_unique last =
    let nothing : first_route (map (by_lookup catalog tests) (filter (is_of_kind catalog true) table.lookups)) ≡ None =
    ap (λ (ls : List ℕ). first_route (map (by_lookup catalog tests) (filter (is_of_kind catalog true) ls))) (sym same) ∙ sym here ∙ no_unique in
    sym
    (split_route catalog table tests
    ∙ third_of (by_primary table.primary tests) (map (by_lookup catalog tests) (filter (is_of_kind catalog true) table.lookups)) (map (by_lookup catalog tests) (filter (is_of_kind catalog false) table.lookups)) (sym is ∙ none) nothing
    ∙ ap (λ (ls : List ℕ). unwrap_or (first_route (map (by_lookup catalog tests) (filter (is_of_kind catalog false) ls))) routes.All) (sym same)
    ∙ ap (λ (r : Option Route). unwrap_or r routes.All) (sym last))
