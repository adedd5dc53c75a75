-- How far a SELECT has come: the action that is due, and what is left after one.
use Rattle.std.specs.Prelude.{◌≡◌, ◌<◌, ◌⊎◌, ℕ, ◌+◌, ◌-◌, Bool, true, false, nat_lt, List, [], ◌++◌, length, slice_get, Option, None}
use Rattle.std.specs.List.{filter_map}
use Rattle.std.specs.Option.{option_map, option_or}
use Rattle.vl_values.specs.declared.group.Group.{Group}
use Rattle.vl_values.specs.declared.group.Group.TheVariants.{Pre}
use Rattle.vl_values.specs.declared.key.Key.{Key}
use Rattle.vl_catalog.specs.declared.catalog.Catalog.{Catalog}
use Rattle.vl_model.specs.declared.route.Route.{Route}
use Rattle.vl_model.specs.declared.route.Route.TheVariants as routes
use Rattle.vl_model.specs.Visiting.{ksid_named, visited}
use Rattle.vl_plan.specs.declared.projection.Projection.{Projection}
use Rattle.vl_plan.specs.declared.projection.Projection.TheVariants as projections
use Rattle.vl_plan.specs.declared.sort.Sort.{Sort}
use Rattle.vl_port.specs.declared.act.Act.{Act}
use Rattle.vl_port.specs.declared.limits.Limits.{Limits}
use Rattle.vl_port.specs.View.{Values}
use Rattle.vl_values.specs.declared.limit.Limit.{Limit}
use Rattle.vl_statement.specs.declared.tally.Tally.{Tally}
use Rattle.vl_statement.specs.Tallies.{counted, first_over}
use Rattle.vl_select.specs.declared.entry_read.EntryRead.{EntryRead}

-- what is answered of the rows, how they are found, and what was read so far. `looked` is how many of the
-- entries were read, and `read` how many of the shards
pub record Progress : Type 0 where
  pub table : ℕ
  pub what : Projection
  pub sorts : List Sort
  pub limit : Option ℕ
  pub route : Route
  -- the read of rows, which is the same on each shard, and the group that it goes by
  pub find : Act
  pub group : Group
  -- the reads of entries, and the keyspace ids that were found there
  pub entries : List EntryRead
  pub looked : ℕ
  pub ksids : List (List ℕ)
  -- the shards, once they are known
  pub shards : List ℕ
  pub read : ℕ
  pub rows : List (Key × Values)
  pub tally : Tally
  -- how often the action that is due was answered `Held`
  pub tries : ℕ

-- ---- the action that is due

-- a read on a shard, by a session of the group or, where it takes no lock, maybe without one
pub record Action : Type 0 where
  pub group : Group
  pub shard : ℕ
  pub act : Act

-- entries are read in pre
abbrev pub entry_due : Progress → Option Action
entry_due p = option_map (λ (entry : EntryRead). record { group = Pre; shard = entry.shard; act = entry.find }) (slice_get p.entries p.looked)

abbrev pub row_due : Progress → Option Action
row_due p = option_map (λ shard. record { group = p.group; shard = shard; act = p.find }) (slice_get p.shards p.read)

-- all entries are read before the rows
abbrev pub due : Progress → Option Action
due p = option_or (entry_due p) (row_due p)

-- ---- after a read of entries

-- the keyspace id that an entry names by which the route goes
abbrev pub named_on : Catalog → Route → Key × Values → Option (List ℕ)
named_on catalog (routes.Primary values) entry = None
named_on catalog (routes.Lookup l values) entry = ksid_named catalog l entry.1
named_on catalog routes.All entry = None

-- the shards are known when no entry is left to be read
abbrev pub shards_known : Catalog → ℕ → Route → Bool → List (List ℕ) → List ℕ
shards_known catalog table route true ksids = []
shards_known catalog table route false ksids = visited catalog table route ksids

-- as many entries were read, and these keyspace ids are known
abbrev pub with_ksids : Catalog → ℕ → List (List ℕ) → Progress → Progress
with_ksids catalog looked ksids p = record p { looked = looked; ksids = ksids; shards = shards_known catalog p.table p.route (nat_lt looked (length p.entries)) ksids; tries = 0 }

-- a read gave these entries
abbrev pub with_entries : Catalog → List (Key × Values) → Progress → Progress
with_entries catalog entries p = with_ksids catalog (p.looked + 1) (p.ksids ++ filter_map (named_on catalog p.route) entries) p

-- ---- after a read of rows

-- COUNT(*) keeps no rows
abbrev pub kept : Projection → List (Key × Values) → List (Key × Values)
kept projections.All rows = rows
kept projections.Count rows = []
kept (projections.Columns columns) rows = rows

-- it counts them, and no bytes
abbrev pub tallied : Projection → Tally → List (Key × Values) → Tally
tallied projections.All tally rows = counted tally rows
tallied projections.Count tally rows = record tally { rows = tally.rows + length rows }
tallied (projections.Columns columns) tally rows = counted tally rows

-- and meets no limit
abbrev pub passed : Projection → Limits → Tally → List (Key × Values) → Option (Limit × ℕ)
passed projections.All limits tally rows = first_over limits tally rows
passed projections.Count limits tally rows = None
passed (projections.Columns columns) limits tally rows = first_over limits tally rows

-- a read gave these rows of a shard
abbrev pub with_rows : List (Key × Values) → Progress → Progress
with_rows rows p = record p { read = p.read + 1; rows = p.rows ++ kept p.what rows; tally = tallied p.what p.tally rows; tries = 0 }

-- the action that is due was answered `Held` once more
abbrev pub with_try : Progress → Progress
with_try p = record p { tries = p.tries + 1 }

-- ---- the end of a statement

-- how many reads are done
abbrev pub acts_done : Progress → ℕ
acts_done p = p.looked + p.read

abbrev pub entries_left : Progress → ℕ
entries_left p = length p.entries - p.looked

abbrev pub shards_left : Progress → ℕ
shards_left p = length p.shards - p.read

-- nearer to the statement's end: an entry is read, or a shard and no entry is to be read in its place
abbrev pub IsNearer : Progress → Progress → Type 0
IsNearer old new = (entries_left new < entries_left old) ⊎ ((entries_left new ≡ entries_left old) × (shards_left new < shards_left old))
