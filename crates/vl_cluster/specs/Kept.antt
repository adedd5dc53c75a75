-- What the lists of the shards keep after every event.
use Rattle.std.specs.Prelude.{◌≡◌, ◌≢◌, ℕ, List, length}
use Rattle.std.specs.List.{AllPairs}
use Rattle.vl_cluster.specs.declared.line.Line.{Line}
use Rattle.vl_cluster.specs.declared.entry.Entry.{Entry}
use Rattle.vl_cluster.specs.Lists.{Lists, HasRow, HasEntry, on_shard, place_of, entry_for}

pub record IsKept (shards : List Lists) : Type 0 where
  pub two : length shards ≡ 2
  pub row_placed : (s : ℕ) (row : Line) → HasRow shards s row → place_of row.id ≡ s
  pub entry_placed : (s : ℕ) (entry : Entry) → HasEntry shards s entry → place_of entry.u ≡ s
  -- each key stands once
  pub ids : (s : ℕ) → AllPairs (λ one other. one.id ≢ other.id) (on_shard shards s).rows
  pub values : (s : ℕ) → AllPairs (λ one other. one.u ≢ other.u) (on_shard shards s).entries
  -- each row has its entry, and each entry has its row
  pub covered : (s : ℕ) (row : Line) → HasRow shards s row → HasEntry shards (place_of row.u) (entry_for row)
  pub tidy : (s : ℕ) (entry : Entry) → HasEntry shards s entry → (row : Line) × HasRow shards (place_of row.id) row × (entry ≡ entry_for row)
  -- one value of u stands in one row
  pub unique : (s t : ℕ) (row other : Line) → HasRow shards s row → HasRow shards t other → row.u ≡ other.u → row.id ≡ other.id
