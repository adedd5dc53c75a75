-- The shards that a statement visits by its route, each once and in the order of their numbers, and the reads of
-- entries by which a route of a lookup finds them.
use Rattle.std.specs.Prelude.{ℕ, ◌==◌, List, [], ◌∷◌, filter, map, slice_get, option_and_then, Option, Some, None}
use Rattle.std.specs.List.{filter_map, list_any, range_with_len}
use Rattle.std.specs.Option.{option_map, option_map_or}
use Rattle.vl_values.specs.declared.pred.Pred.{Pred}
use Rattle.vl_values.specs.declared.value.Value.{Value}
use Rattle.vl_catalog.specs.declared.catalog.Catalog.{Catalog}
use Rattle.vl_catalog.specs.declared.lookup.Lookup.{Lookup}
use Rattle.vl_catalog.specs.declared.table.Table.{Table}
use Rattle.vl_catalog.specs.Place.{first_shard, place_of_value, shard_in, shards_in}
use Rattle.vl_model.specs.declared.route.Route.{Route}
use Rattle.vl_model.specs.declared.route.Route.TheVariants as routes
use Rattle.vl_model.specs.Entries.{named_by}

-- ---- shards

-- all shards of keyspace k
abbrev pub keyspace_shards : Catalog → ℕ → List ℕ
keyspace_shards catalog k = range_with_len (first_shard catalog.rings k) (shards_in catalog.rings k)

-- those of a keyspace that are among the places
abbrev pub shards_among : Catalog → ℕ → List ℕ → List ℕ
shards_among catalog k places = filter (λ shard. list_any (λ place. place == shard) places) (keyspace_shards catalog k)

-- the shards of the rows of a table that have one of these values in the column of its primary vindex
abbrev pub places_of : Catalog → ℕ → List Value → List ℕ
places_of catalog number values = filter_map (place_of_value catalog number) values

-- the shards of the rows that have one of these keyspace ids
abbrev pub homes_of : Catalog → ℕ → List (List ℕ) → List ℕ
homes_of catalog k ksids = map (shard_in catalog.rings k) ksids

-- those of the table's keyspace that its route visits. A route of a lookup goes by the keyspace ids that were read
-- in its entries; no other route looks at them
abbrev pub visited_in : Catalog → ℕ → Route → List (List ℕ) → Table → List ℕ
visited_in catalog number (routes.Primary values) ksids table = shards_among catalog table.keyspace (places_of catalog number values)
visited_in catalog number (routes.Lookup l values) ksids table = shards_among catalog table.keyspace (homes_of catalog table.keyspace ksids)
visited_in catalog number routes.All ksids table = keyspace_shards catalog table.keyspace

-- the shards of a statement on the table of this number
abbrev pub visited : Catalog → ℕ → Route → List (List ℕ) → List ℕ
visited catalog number route ksids = option_map_or (visited_in catalog number route ksids) (slice_get catalog.tables number) []

-- ---- entries

-- the entries of one value: those that have it in the first column by which they are found
abbrev pub entries_with : ℕ → ℕ → Value → Pred
entries_with table column value = record { table = table; tests = record { column = column; values = value ∷ [] } ∷ [] }

-- the read of the entries of a value, on their place
abbrev pub entry_read_in : Catalog → ℕ → ℕ → Value → Option (ℕ × Pred)
entry_read_in catalog table column value = option_map (λ shard. (shard, entries_with table column value)) (place_of_value catalog table value)

abbrev pub entry_reads_in : Catalog → Option ℕ → Option ℕ → List Value → List (ℕ × Pred)
entry_reads_in catalog (Some table) (Some column) values = filter_map (entry_read_in catalog table column) values
entry_reads_in catalog _ _ values = []

abbrev pub entry_reads_by : Catalog → List Value → Lookup → List (ℕ × Pred)
entry_reads_by catalog values lookup = entry_reads_in catalog lookup.table (slice_get lookup.from 0) values

-- the reads of entries that a route begins with, one for each value, in their order
abbrev pub entry_reads : Catalog → Route → List (ℕ × Pred)
entry_reads catalog (routes.Primary values) = []
entry_reads catalog (routes.Lookup l values) = option_map_or (entry_reads_by catalog values) (slice_get catalog.lookups l) []
entry_reads catalog routes.All = []

-- the keyspace id that an entry of a lookup names; one that is NULL names none
abbrev pub ksid_named : Catalog → ℕ → List Value → Option (List ℕ)
ksid_named catalog l entry = option_and_then (λ to. named_by to entry) (option_and_then (λ (lookup : Lookup). lookup.to) (slice_get catalog.lookups l))
