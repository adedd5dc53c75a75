-- The shard of a row: its keyspace id, and the shard whose range holds that.
use Rattle.std.specs.Prelude.{ℕ, ◌+◌, List, [], length, take, slice_index_or, slice_get, Option, Some, None}
use Rattle.std.specs.List.{sum_by}
use Rattle.std.specs.Option.{option_map}
use Rattle.std.specs.Prelude.{option_and_then}
use Rattle.vl_values.specs.declared.value.Value.{Value}
use Rattle.vl_values.specs.declared.value.Value.TheVariants.{Null}
use Rattle.vl_vindex.specs.KeyRange.{Range}
use Rattle.vl_vindex.specs.Ring.{shard_of}
use Rattle.vl_catalog.specs.declared.catalog.Catalog.{Catalog}
use Rattle.vl_catalog.specs.declared.primary.Primary.{Primary}
use Rattle.vl_catalog.specs.declared.table.Table.{Table}
use Rattle.vl_catalog.specs.Vindex.{ksid_of_value}

-- the number of the first shard of keyspace k: those of the keyspaces before it come first
abbrev pub first_shard : List (List Range) → ℕ → ℕ
first_shard rings k = sum_by length (take k rings)

-- how many shards the catalog has
abbrev pub shard_count : List (List Range) → ℕ
shard_count rings = sum_by length rings

-- the keyspace id of a row, or of an entry of a lookup: its table's primary vindex applied to the
-- column of that vindex
abbrev pub ksid_by : Option Primary → List Value → Option (List ℕ)
ksid_by None row = None
ksid_by (Some primary) row = ksid_of_value primary.vindex (slice_index_or row primary.column Null)

abbrev pub ksid_in : Table → List Value → Option (List ℕ)
ksid_in table row = ksid_by table.primary row

-- the shard of keyspace k whose range holds a keyspace id
abbrev pub shard_in : List (List Range) → ℕ → List ℕ → ℕ
shard_in rings k ksid = first_shard rings k + shard_of (slice_index_or rings k []) ksid

-- where the table has no primary vindex, the one shard of its keyspace
abbrev pub place_by : List (List Range) → ℕ → Option Primary → List Value → Option ℕ
place_by rings k None row = Some (first_shard rings k)
place_by rings k (Some primary) row = option_map (shard_in rings k) (ksid_by (Some primary) row)

abbrev pub place_in : Catalog → Table → List Value → Option ℕ
place_in catalog table row = place_by catalog.rings table.keyspace table.primary row

-- the place of a row of this table; none where its keyspace id doesn't exist, as of a negative number
-- under `numeric`
abbrev pub place : Catalog → ℕ → List Value → Option ℕ
place catalog table row = option_and_then (λ t. place_in catalog t row) (slice_get catalog.tables table)

-- the keyspace id of a row of this table
abbrev pub ksid_of : Catalog → ℕ → List Value → Option (List ℕ)
ksid_of catalog table row = option_and_then (λ t. ksid_in t row) (slice_get catalog.tables table)

-- the shard of the rows of this table that have a value in the column of its primary vindex; where the
-- table has none, the one shard of its keyspace
abbrev pub value_place_by : List (List Range) → ℕ → Option Primary → Value → Option ℕ
value_place_by rings k None value = Some (first_shard rings k)
value_place_by rings k (Some primary) value = option_map (shard_in rings k) (ksid_of_value primary.vindex value)

abbrev pub place_of_value : Catalog → ℕ → Value → Option ℕ
place_of_value catalog table value = option_and_then (λ t. value_place_by catalog.rings t.keyspace t.primary value) (slice_get catalog.tables table)

-- how many shards keyspace k has
abbrev pub shards_in : List (List Range) → ℕ → ℕ
shards_in rings k = length (slice_index_or rings k [])
