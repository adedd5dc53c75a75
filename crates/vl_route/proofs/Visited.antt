-- The shards that a route visits are some of the catalog's, and they ascend.
use Rattle.std.proofs.Common.{◌≡◌, ℕ, zero, suc, ◌+◌, ◌<◌, Bool, true, false, cond, List, [], ◌∷◌, Option, Some, None, arith}
use Rattle.std.specs.Prelude.{Contains, filter, slice_get}
use Rattle.std.specs.List.{AllPairs, range_with_len}
use Rattle.std.specs.Option.{option_map_or}
use Rattle.std.proofs.lemmas.List.FromFn.{get_or-range_with_len, length-range_with_len}
use Rattle.std.proofs.lemmas.List.Kept.{AllPairs-filter}
use Rattle.vl_catalog.specs.declared.catalog.Catalog.{Catalog}
use Rattle.vl_catalog.specs.declared.table.Table.{Table}
use Rattle.vl_catalog.specs.Place.{first_shard, shard_count, shards_in}
use Rattle.vl_model.specs.declared.route.Route.{Route}
use Rattle.vl_model.specs.declared.route.Route.TheVariants as routes
use Rattle.vl_model.specs.Visiting.{visited, visited_in}
use Rattle.vl_route.proofs.Homes.{shards_within}

-- ---- elements

kept_head : (b : Bool) (y : ℕ) (kept xs : List ℕ) (x : ℕ) → ((z : ℕ) → Contains kept z → Contains xs z) → Contains (cond b (y ∷ kept) kept) x → Contains (y ∷ xs) x
kept_head false y kept xs x rest among = let it = rest x among in (suc it.0, omega (arith, it.1), it.2)
kept_head true y kept xs x rest (zero, within, at) = (0, omega arith, at)
kept_head true y kept xs x rest (suc k, within, at) = let it = rest x (k, omega (arith, within), at) in (suc it.0, omega (arith, it.1), it.2)

filtered_from : (p : ℕ → Bool) (xs : List ℕ) (x : ℕ) → Contains (filter p xs) x → Contains xs x
filtered_from p [] x among = among
filtered_from p (y ∷ xs) x among = kept_head (p y) y (filter p xs) xs x (filtered_from p xs) among

range_below : (a n x : ℕ) → Contains (range_with_len a n) x → x < a + n
range_below a n x among =
    let within : among.0 < n = omega (arith, among.1, length-range_with_len a n) in
    omega (arith, within, among.2, get_or-range_with_len a n among.0 x within)

range_ascends : (a n : ℕ) → AllPairs (λ one other. one < other) (range_with_len a n)
range_ascends a n i j d below within =
    let last : j < n = omega (arith, within, length-range_with_len a n) in
    omega (arith, below, get_or-range_with_len a n i d (omega (arith, below, last)), get_or-range_with_len a n j d last)

-- ---- the shards of a keyspace

shard_below : (catalog : Catalog) (k shard : ℕ) → Contains (range_with_len (first_shard catalog.rings k) (shards_in catalog.rings k)) shard → shard < shard_count catalog.rings
shard_below catalog k shard among = omega (arith, shards_within catalog.rings k, range_below (first_shard catalog.rings k) (shards_in catalog.rings k) shard among)

some_below : (catalog : Catalog) (k : ℕ) (p : ℕ → Bool) (shard : ℕ) → Contains (filter p (range_with_len (first_shard catalog.rings k) (shards_in catalog.rings k))) shard → shard < shard_count catalog.rings
some_below catalog k p shard among = shard_below catalog k shard (filtered_from p (range_with_len (first_shard catalog.rings k) (shards_in catalog.rings k)) shard among)

some_ascend : (catalog : Catalog) (k : ℕ) (p : ℕ → Bool) → AllPairs (λ one other. one < other) (filter p (range_with_len (first_shard catalog.rings k) (shards_in catalog.rings k)))
some_ascend catalog k p = AllPairs-filter (λ one other. one < other) p (range_with_len (first_shard catalog.rings k) (shards_in catalog.rings k)) (range_ascends (first_shard catalog.rings k) (shards_in catalog.rings k))

-- ---- a route

in_below : (catalog : Catalog) (number : ℕ) (route : Route) (ksids : List (List ℕ)) (table : Table) (shard : ℕ) → Contains (visited_in catalog number route ksids table) shard → shard < shard_count catalog.rings
in_below catalog number (routes.Primary values) ksids table shard among = some_below catalog table.keyspace _ shard among
in_below catalog number (routes.Lookup l values) ksids table shard among = some_below catalog table.keyspace _ shard among
in_below catalog number routes.All ksids table shard among = shard_below catalog table.keyspace shard among

in_ascend : (catalog : Catalog) (number : ℕ) (route : Route) (ksids : List (List ℕ)) (table : Table) → AllPairs (λ one other. one < other) (visited_in catalog number route ksids table)
in_ascend catalog number (routes.Primary values) ksids table = some_ascend catalog table.keyspace _
in_ascend catalog number (routes.Lookup l values) ksids table = some_ascend catalog table.keyspace _
in_ascend catalog number routes.All ksids table = range_ascends (first_shard catalog.rings table.keyspace) (shards_in catalog.rings table.keyspace)

of_below : (catalog : Catalog) (number : ℕ) (route : Route) (ksids : List (List ℕ)) (o : Option Table) (shard : ℕ) → Contains (option_map_or (visited_in catalog number route ksids) o []) shard → shard < shard_count catalog.rings
of_below catalog number route ksids None shard among = absurd (omega (arith, among.1))
of_below catalog number route ksids (Some table) shard among = in_below catalog number route ksids table shard among

of_ascend : (catalog : Catalog) (number : ℕ) (route : Route) (ksids : List (List ℕ)) (o : Option Table) → AllPairs (λ one other. one < other) (option_map_or (visited_in catalog number route ksids) o [])
of_ascend catalog number route ksids None = λ i j d below within. absurd (omega (arith, within))
of_ascend catalog number route ksids (Some table) = in_ascend catalog number route ksids table

pub visited_below : (catalog : Catalog) (number : ℕ) (route : Route) (ksids : List (List ℕ)) (shard : ℕ) → Contains (visited catalog number route ksids) shard → shard < shard_count catalog.rings
visited_below catalog number route ksids shard among = of_below catalog number route ksids (slice_get catalog.tables number) shard among

pub visited_ascend : (catalog : Catalog) (number : ℕ) (route : Route) (ksids : List (List ℕ)) → AllPairs (λ one other. one < other) (visited catalog number route ksids)
visited_ascend catalog number route ksids = of_ascend catalog number route ksids (slice_get catalog.tables number)
