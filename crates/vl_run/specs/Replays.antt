-- What the shards show is what the run says.
use Rattle.std.specs.Prelude.{◌≡◌, Bool, true, false, Option, None}
use Rattle.vl_values.specs.declared.key.Key.{Key}
use Rattle.vl_catalog.specs.declared.catalog.Catalog.{Catalog}
use Rattle.vl_port.specs.declared.change.Change.{Change}
use Rattle.vl_port.specs.Serving.{Shards}
use Rattle.vl_port.specs.View.{View}
use Rattle.vl_run.specs.Machine.{Cell, Machine, is_entry, key_place}
use Rattle.vl_run.specs.Run.{Run, cells, rows_of, state}

abbrev pub cell_of : View → Key → Cell
cell_of shard k = record { row = shard.committed k; change = shard.pending k; holder = shard.holder k }

-- rows and entries, each on its shard
abbrev pub shards_cells : Catalog → Shards → Machine
shards_cells catalog seen k = cell_of (seen (key_place catalog k)) k

abbrev pub changes_of : Bool → Option Change → Option Change
changes_of true change = None
changes_of false change = change

-- the one table that the shards show: entries are no rows of it, and changes of them no changes
abbrev pub shown_machine : Catalog → Shards → Machine
shown_machine catalog seen k = record (shards_cells catalog seen k) {
  row = rows_of (is_entry catalog k) ((shards_cells catalog seen k).row);
  change = changes_of (is_entry catalog k) ((shards_cells catalog seen k).change);
}

-- the steps of the events, from the opening on, give what the shards show
pub record Replays (catalog : Catalog) (past : Run) (seen : Shards) : Type 0 where
  pub table : (k : Key) → state catalog past k ≡ shown_machine catalog seen k
  pub versions : (k : Key) → cells catalog past k ≡ shards_cells catalog seen k
