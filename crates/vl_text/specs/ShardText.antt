-- The name of a shard: `keyspace/range`, as `commerce/-80`.
use Rattle.std.specs.Prelude.{ℕ, List, [], ◌∷◌, ◌++◌, map, slice_index_or}
use Rattle.vl_catalog.specs.declared.catalog.Catalog.{Catalog}
use Rattle.vl_catalog.specs.declared.keyspace.Keyspace.{Keyspace}
use Rattle.vl_vindex.specs.KeyRange.{Range, text_of}

-- the name of the shard of this range in a keyspace
abbrev pub range_name : List ℕ → Range → List ℕ
range_name keyspace range = keyspace ++ (47 ∷ text_of range)

-- the names of the shards of these keyspaces, each of which has a ring
abbrev pub names_in : List Keyspace → List (List Range) → List (List ℕ)
names_in [] rings = []
names_in (keyspace ∷ keyspaces) [] = []
names_in (keyspace ∷ keyspaces) (ring ∷ rings) = map (range_name keyspace.name) ring ++ names_in keyspaces rings

-- the names of a catalog's shards, in the order of their numbers
abbrev pub shard_texts : Catalog → List (List ℕ)
shard_texts catalog = names_in catalog.keyspaces catalog.rings

-- the name of shard n; no bytes where there is none
abbrev pub shard_text : Catalog → ℕ → List ℕ
shard_text catalog n = slice_index_or (shard_texts catalog) n []
