-- How far a statement has come: the action that is due, and what is left after one.
use Rattle.std.specs.Prelude.{◌≡◌, ◌<◌, ◌⊎◌, ℕ, ◌+◌, ◌-◌, Bool, true, List, ◌++◌, length, slice_get, Option, None}
use Rattle.std.specs.Option.{option_map, option_or}
use Rattle.vl_values.specs.declared.group.Group.TheVariants.{Main}
use Rattle.vl_values.specs.declared.key.Key.{Key}
use Rattle.vl_port.specs.View.{Values}
use Rattle.vl_statement.specs.declared.tally.Tally.{Tally}
use Rattle.vl_statement.specs.Tallies.{counted}
use Rattle.vl_change.specs.declared.action.Action.{Action}
use Rattle.vl_change.specs.declared.row_change.RowChange.{RowChange}
use Rattle.vl_change.specs.declared.row_change.RowChange.TheVariants.{Remove, Set}
use Rattle.vl_change.specs.declared.search.Search.{Search}
use Rattle.vl_change.specs.Changes.{writes_of}

-- the search for rows; the writes that are known so far, and how many of them
-- are done; whether a version was written; how often the action that is due was answered `Held`
pub record Progress : Type 0 where
  pub search : Search
  pub writes : List Action
  pub done : ℕ
  pub wrote : Bool
  pub tries : ℕ

-- the next locking read, by the main session of its shard
abbrev pub read_due : Search → Option Action
read_due search = option_map (λ shard. record { group = Main; shard = shard; act = search.find; old = None }) (slice_get search.shards search.read)

-- the action that is due: all reads come before the writes
abbrev pub due : Progress → Option Action
due p = option_or (read_due p.search) (slice_get p.writes p.done)

-- a write was done
abbrev pub with_write : Progress → Progress
with_write p = record p { done = p.done + 1; wrote = true; tries = 0 }

abbrev pub has_read : Tally → Search → Search
has_read tally search = record search { read = search.read + 1; tally = tally }

-- a read gave these rows of a shard
abbrev pub with_rows : ℕ → List (Key × Values) → Progress → Progress
with_rows shard rows p = record p { search = has_read (counted p.search.tally rows) p.search; writes = p.writes ++ writes_of p.search.change shard rows; tries = 0 }

-- the action that is due was answered `Held` once more
abbrev pub with_try : Progress → Progress
with_try p = record p { tries = p.tries + 1 }

-- how many rows were found: those that an UPDATE read, else those that were written
abbrev pub found_by : RowChange → ℕ → ℕ → ℕ
found_by Remove found done = done
found_by (Set settings) found done = found

abbrev pub found : Progress → ℕ
found p = found_by p.search.change p.search.tally.rows p.done

-- ---- the end of a statement

-- how many reads and writes are done
abbrev pub acts_done : Progress → ℕ
acts_done p = p.search.read + p.done

-- how many shards are still to be read, and how many writes of those that are known still to be done
abbrev pub reads_left : Progress → ℕ
reads_left p = length p.search.shards - p.search.read

abbrev pub writes_left : Progress → ℕ
writes_left p = length p.writes - p.done

-- nearer to the statement's end: a read is done, or a write and no read comes in its place
abbrev pub IsNearer : Progress → Progress → Type 0
IsNearer old new = (reads_left new < reads_left old) ⊎ ((reads_left new ≡ reads_left old) × (writes_left new < writes_left old))
