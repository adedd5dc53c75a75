-- A record of one part while its changes are collected: each changed key stands once, with the bytes of its last change.
use Rattle.std.specs.Prelude.{◌≡◌, ◌<◌, ◌^◌, ◌+◌, ◌∷◌, ◌++◌, ℕ, List, [], length, map, Option, Some, None}
use Rattle.std.specs.Int.{w16, w32, w64}
use Rattle.std.specs.List.{flat_map}
use Rattle.std.specs.Map.{values_of}
use Rattle.std.specs.BTreeMap.{insert_entry}
use Rattle.vl_values.specs.declared.group.Group.{Group}
use Rattle.vl_values.specs.declared.key.Key.{Key}
use Rattle.vl_values.specs.declared.value.Value.{Value}
use Rattle.vl_values.specs.Key.{key_cmp}
use Rattle.vl_catalog.specs.declared.catalog.Catalog.{Catalog}
use Rattle.vl_catalog.specs.declared.change.Change.{Change}
use Rattle.vl_catalog.specs.declared.part.Part.{Part}
use Rattle.vl_record.specs.Spelling.{change_bytes, group_byte, number_bytes, sized}
use Rattle.vl_record.specs.Grammar.{IsNewRow, IsNextKey}

-- the part's numbers, and the bytes of each key's last change, in the order of keys
pub record Collected : Type 0 where
  pub tx : ℕ
  pub group : Group
  pub changes : List (Key × List ℕ)

-- a key with the row that a change gives it, or with none where it is removed
abbrev pub Entry : Type 0
Entry = Key × Option (List Value)

abbrev pub change_of : Entry → Change
change_of entry = record { key = entry.0; row = entry.1 }

abbrev pub spelled : Entry → Key × List ℕ
spelled entry = (entry.0, change_bytes (change_of entry))

-- these are the changes that were collected
abbrev pub Holds : List Entry → Collected → Type 0
Holds entries collected = collected.changes ≡ map spelled entries

-- the entries with this one at its key's place in the order, instead of an earlier one of the key
abbrev pub with_entry : {X : Type 0} → List (Key × X) → Key → X → List (Key × X)
with_entry entries key x = insert_entry key_cmp entries key x

-- the part that has these changes
abbrev pub part_of : Collected → List Entry → Part
part_of collected entries = record { tx = collected.tx; group = collected.group; changes = map change_of entries }

-- the bytes of all changes, in the order of keys
abbrev pub changes_bytes : Collected → List ℕ
changes_bytes collected = flat_map (λ bytes. bytes) (values_of collected.changes)

-- the bytes of its part
abbrev pub collected_bytes : Collected → List ℕ
collected_bytes collected =
    number_bytes w64 collected.tx ++ (group_byte collected.group ∷ (number_bytes w32 (length collected.changes) ++ changes_bytes collected))

-- what stands behind a record's gate, for a record of the one part with these bytes
abbrev pub one_part : List ℕ → List ℕ
one_part text = sized (number_bytes w16 1 ++ text)

-- how many bytes its record has, with the gate before it or the one behind it
abbrev pub record_len : Collected → ℕ
record_len collected = 20 + length (changes_bytes collected)

-- a change that the catalog allows on the shard
abbrev pub IsAllowed : Catalog → ℕ → Entry → Type 0
IsAllowed catalog shard entry = IsNextKey catalog shard None entry.0 × IsNewRow catalog entry.0 entry.1
