-- The versions that slots keep: each slot has the versions of one key.
use Rattle.std.specs.Prelude.{ℕ, Bool, List, if◌then◌else◌, ◌&&◌, ◌||◌}
use Rattle.std.specs.declared.option.Option.{Option}
use Rattle.std.specs.declared.option.Option.TheVariants.{Some, None}
use Rattle.std.specs.Map.{keys_of}
use Rattle.std.specs.Option.{is_none}
use Rattle.vl_values.specs.declared.key.Key.{Key}
use Rattle.vl_values.specs.declared.pred.Pred.{Pred}
use Rattle.vl_values.specs.declared.value.Value.{Value}
use Rattle.vl_values.specs.Keyed.{select}
use Rattle.vl_rows.specs.declared.change.Change.{Change}
use Rattle.vl_rows.specs.declared.slot.Slot.{Slot}
use Rattle.vl_rows.specs.Matching.{matches_at, row_of}
use Rattle.vl_rows.specs.Versions.{Versions, version_for, other_than, changed_to}

abbrev pub committed_in : Key × Slot → Option (List Value)
committed_in entry = entry.1.committed

abbrev pub pending_in : Key × Slot → Option Change
pending_in entry = entry.1.pending

-- the two lists that slots mean; a key with a slot has room
abbrev pub versions_of : List (Key × Slot) → Versions
versions_of slots = record { committed = select committed_in slots; pending = select pending_in slots; room = keys_of slots }

abbrev pub empty_slot : Slot
empty_slot = record { committed = None; pending = None }

abbrev pub is_empty_slot : Slot → Bool
is_empty_slot slot = is_none slot.committed && is_none slot.pending

abbrev pub settled_slot : ℕ → Slot → Slot
settled_slot conn slot = record { committed = version_for (Some conn) slot.pending slot.committed; pending = other_than conn slot.pending }

abbrev pub abandoned_slot : ℕ → Slot → Slot
abandoned_slot conn slot = record slot { pending = other_than conn slot.pending }

abbrev pub written_slot : ℕ → Option (List Value) → Slot → Slot
written_slot conn row slot = record slot { pending = Some (changed_to conn row) }

-- the same, of a slot with its key
abbrev pub settled_in : ℕ → Key × Slot → Key × Slot
settled_in conn entry = (entry.0, settled_slot conn entry.1)

abbrev pub abandoned_in : ℕ → Key × Slot → Key × Slot
abandoned_in conn entry = (entry.0, abandoned_slot conn entry.1)

abbrev pub written_in : ℕ → Option (List Value) → Key × Slot → Key × Slot
written_in conn row entry = (entry.0, written_slot conn row entry.1)

-- a version, if it matches
abbrev pub found_version : Pred → Key → Option (List Value) → Option (List Value)
found_version pred key version = if matches_at pred key version then version else None

abbrev pub found_in : Pred → Option ℕ → Key × Slot → Option (List Value)
found_in pred reader entry = found_version pred entry.0 (version_for reader entry.1.pending entry.1.committed)

abbrev pub is_match_in : Pred → Key × Slot → Bool
is_match_in pred entry = matches_at pred entry.0 entry.1.committed || matches_at pred entry.0 (row_of entry.1.pending)
