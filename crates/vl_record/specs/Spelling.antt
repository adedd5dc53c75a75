-- The bytes of a shard's file. Numbers are little-endian.
use Rattle.std.specs.Prelude.{ℕ, List, [], ◌∷◌, ◌++◌, ◌+◌, ◌-◌, ◌^◌, length, map, Option, Some, None}
use Rattle.std.specs.Int.{Width, w16, w32, w64, to_le_bytes, cast_unsigned}
use Rattle.std.specs.List.{flat_map}
use Rattle.vl_values.specs.declared.group.Group.{Group}
use Rattle.vl_values.specs.declared.group.Group.TheVariants as groups
use Rattle.vl_values.specs.declared.key.Key.{Key}
use Rattle.vl_values.specs.declared.value.Value.{Value}
use Rattle.vl_values.specs.declared.value.Value.TheVariants.{Null, Int, Uint, Bytes}
use Rattle.vl_catalog.specs.declared.change.Change.{Change}
use Rattle.vl_catalog.specs.declared.part.Part.{Part}

-- the byte of an open gate; every other byte is a closed one
abbrev pub open_gate : ℕ
open_gate = 167

-- the greatest transaction number, and the greatest epoch
abbrev pub last_transaction : ℕ
last_transaction = 4611686018427387903

abbrev pub last_epoch : ℕ
last_epoch = 4611686018427387902

-- a number in the bytes of its width
unfoldable pub number_bytes : Width → ℕ → List ℕ
number_bytes w n = to_le_bytes w n

abbrev pub value_bytes : Value → List ℕ
value_bytes Null = 0 ∷ []
value_bytes (Int z) = 1 ∷ number_bytes w64 (cast_unsigned w64 z)
value_bytes (Uint n) = 2 ∷ number_bytes w64 n
value_bytes (Bytes s) = 3 ∷ (number_bytes w32 (length s) ++ s)

-- their number, and each
abbrev pub values_bytes : List Value → List ℕ
values_bytes values = number_bytes w16 (length values) ++ flat_map value_bytes values

abbrev pub key_bytes : Key → List ℕ
key_bytes key = number_bytes w32 key.table ++ values_bytes key.pk

abbrev pub new_row_bytes : Option (List Value) → List ℕ
new_row_bytes None = 0 ∷ []
new_row_bytes (Some row) = 1 ∷ values_bytes row

abbrev pub change_bytes : Change → List ℕ
change_bytes change = key_bytes change.key ++ new_row_bytes change.row

abbrev pub group_byte : Group → ℕ
group_byte groups.Pre = 0
group_byte groups.Main = 1
group_byte groups.Post = 2

abbrev pub part_bytes : Part → List ℕ
part_bytes part =
    number_bytes w64 part.tx ++ (group_byte part.group ∷ (number_bytes w32 (length part.changes) ++ flat_map change_bytes part.changes))

abbrev pub body_bytes : List Part → List ℕ
body_bytes parts = number_bytes w16 (length parts) ++ flat_map part_bytes parts

-- a record behind its gate: the length of its body, and the body
abbrev pub sized : List ℕ → List ℕ
sized body = number_bytes w32 (length body) ++ body

abbrev pub record_bytes : List Part → List ℕ
record_bytes parts = sized (body_bytes parts)

abbrev pub pair_bytes : Key × List Value → List ℕ
pair_bytes pair = key_bytes pair.0 ++ values_bytes pair.1

-- `VLSHARD1`
abbrev pub mark : List ℕ
mark = 86 ∷ 76 ∷ 83 ∷ 72 ∷ 65 ∷ 82 ∷ 68 ∷ 49 ∷ []

-- what stands behind the file gate, up to the first record's gate
abbrev pub header_bytes : ℕ → ℕ → ℕ → List (Key × List Value) → List ℕ
header_bytes shard epoch last_tx pairs =
    mark ++ (number_bytes w32 shard ++ (number_bytes w64 epoch ++ (number_bytes w64 last_tx ++ (number_bytes w64 (length pairs) ++ flat_map pair_bytes pairs))))

-- records behind one another, each with its open gate; each is a list of parts
abbrev pub records_bytes : List (List Part) → List ℕ
records_bytes records = flat_map (λ parts. open_gate ∷ record_bytes parts) records
