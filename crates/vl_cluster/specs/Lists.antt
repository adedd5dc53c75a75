-- What each shard holds, as lists.
use Rattle.std.specs.Prelude.{ℕ, List, [], ◌∷◌, ◌++◌, map, Contains, slice_index_or, slice_set}
use Rattle.std.specs.List.{flat_map}
use Rattle.vl_values.specs.declared.value.Value.TheVariants.{Uint, Bytes}
use Rattle.vl_model.specs.Tables.{Tables, Pair}
use Rattle.vl_model.specs.CatalogA.{t1_u_idx, numeric, shard_of}
use Rattle.vl_model.specs.Steps.{Rows, t1_row}
use Rattle.vl_cluster.specs.declared.line.Line.{Line}
use Rattle.vl_cluster.specs.declared.entry.Entry.{Entry}

-- the rows of t1 and of t1_u_idx that one shard holds
pub record Lists : Type 0 where
  pub rows : List Line
  pub entries : List Entry

abbrev pub nothing : Lists
nothing = record { rows = []; entries = [] }

abbrev pub on_shard : List Lists → ℕ → Lists
on_shard shards shard = slice_index_or shards shard nothing

abbrev pub HasRow : List Lists → ℕ → Line → Type 0
HasRow shards shard row = Contains (on_shard shards shard).rows row

abbrev pub HasEntry : List Lists → ℕ → Entry → Type 0
HasEntry shards shard entry = Contains (on_shard shards shard).entries entry

-- where a number's row or entry belongs
abbrev pub place_of : ℕ → ℕ
place_of n = shard_of (numeric n)

-- the entry that a row needs
abbrev pub entry_for : Line → Entry
entry_for row = record { u = row.u; ksid = numeric row.id }

abbrev pub row_pair : Line → Pair
row_pair row = t1_row row.id row.u

abbrev pub entry_pair : Entry → Pair
entry_pair entry = (record { table = t1_u_idx; pk = Uint entry.u ∷ [] }, Uint entry.u ∷ Bytes entry.ksid ∷ [])

abbrev pub pairs_of : Lists → List Pair
pairs_of lists = map row_pair lists.rows ++ map entry_pair lists.entries

-- the tables that the shards hold
abbrev pub tables_of : List Lists → Tables
tables_of = map pairs_of

-- the rows of t1 over all shards
abbrev pub all_rows : List Lists → Rows
all_rows = flat_map (λ lists. map row_pair lists.rows)

-- one row more, or one entry more, on a shard
abbrev pub with_row : List Lists → ℕ → Line → List Lists
with_row shards shard row = slice_set shards shard (record (on_shard shards shard) { rows = (on_shard shards shard).rows ++ row ∷ [] })

abbrev pub with_entry : List Lists → ℕ → Entry → List Lists
with_entry shards shard entry = slice_set shards shard (record (on_shard shards shard) { entries = (on_shard shards shard).entries ++ entry ∷ [] })
