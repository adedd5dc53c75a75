-- Reading a shard's file from left to right. A fault is the offset of the first field that breaks a rule.
use Rattle.std.specs.Prelude.{ℕ, zero, suc, ◌+◌, ◌==◌, ◌&&◌, List, [], ◌∷◌, ◌++◌, length, take, drop, Bool, true, false, Option, Some, None, Result, Ok, Err, nat_lt, nat_le, slice_get, if◌then◌else◌}
use Rattle.std.specs.Int.{Width, w8, w16, w32, w64, byte_len, from_le_bytes, cast_signed}
use Rattle.vl_values.specs.declared.group.Group.{Group}
use Rattle.vl_values.specs.declared.group.Group.TheVariants as groups
use Rattle.vl_values.specs.declared.key.Key.{Key}
use Rattle.vl_values.specs.declared.value.Value.{Value}
use Rattle.vl_values.specs.declared.value.Value.TheVariants.{Null, Int, Uint, Bytes}
use Rattle.vl_catalog.specs.declared.catalog.Catalog.{Catalog}
use Rattle.vl_catalog.specs.declared.change.Change.{Change}
use Rattle.vl_catalog.specs.declared.column.Column.{Column}
use Rattle.vl_catalog.specs.declared.part.Part.{Part}
use Rattle.vl_catalog.specs.declared.table.Table.{Table}
use Rattle.vl_record.specs.Spelling.{open_gate, last_transaction, last_epoch, mark}
use Rattle.vl_record.specs.Allowed.{column_at, fits, has_key, is_above, is_here, last_changed, last_key, width_of}

-- Bytes that aren't read yet, and the offset of the first of them in the file. They end with a record's body, or with
-- the file.
pub record Rest : Type 0 where
  pub bytes : List ℕ
  pub offset : ℕ
  pub is_body : Bool

abbrev pub behind : ℕ → Rest → Rest
behind n r = record { bytes = drop n r.bytes; offset = r.offset + n; is_body = r.is_body }

infixl 10 ◌>>=◌
abbrev pub ◌>>=◌ : {A B : Type 0} → Result A ℕ → (A → Result B ℕ) → Result B ℕ
(Ok x) >>= f = f x
(Err e) >>= f = Err e

-- the offset that is told of a field that is cut: its first byte where a body ends, else the file's length
abbrev pub cut_at : ℕ → Rest → ℕ
cut_at first r = if r.is_body then first else r.offset + length r.bytes

-- a number of the field that begins at `first`
abbrev pub number_at : Width → ℕ → Rest → Result (ℕ × Rest) ℕ
number_at w first r =
    if nat_lt (length r.bytes) (byte_len w) then Err (cut_at first r) else Ok (from_le_bytes w (take (byte_len w) r.bytes), behind (byte_len w) r)

-- a number that is a field of its own, from least to most
unfoldable pub number_within : Width → ℕ → ℕ → Rest → Result (ℕ × Rest) ℕ
number_within w least most r = do
  n ← number_at w r.offset r
  if nat_le least n.0 && nat_le n.0 most then Ok n else Err r.offset

-- so many bytes of the field that begins at `first`
abbrev pub text_at : ℕ → ℕ → Rest → Result (List ℕ × Rest) ℕ
text_at n first r = if nat_lt (length r.bytes) n then Err (cut_at first r) else Ok (take n r.bytes, behind n r)

-- a value behind its leading byte
unfoldable pub value_of_kind : ℕ → ℕ → Rest → Result (Value × Rest) ℕ
value_of_kind zero first r = Ok (Null, r)
value_of_kind (suc zero) first r = do
  n ← number_at w64 first r
  Ok (Int (cast_signed w64 n.0), n.1)
value_of_kind (suc (suc zero)) first r = do
  n ← number_at w64 first r
  Ok (Uint n.0, n.1)
value_of_kind (suc (suc (suc zero))) first r = do
  n ← number_at w32 first r
  text ← text_at n.0 first n.1
  Ok (Bytes text.0, text.1)
value_of_kind (suc (suc (suc (suc kind)))) first r = Err first

unfoldable pub value_at : Rest → Result (Value × Rest) ℕ
value_at r = do
  kind ← number_at w8 r.offset r
  value_of_kind kind.0 r.offset kind.1

-- a value that the column may hold
unfoldable pub value_in : Option Column → Rest → Result (Value × Rest) ℕ
value_in column r = do
  value ← value_at r
  if fits column value.0 then Ok value else Err r.offset

-- so many more, each read by what stands before it
unfoldable pub many_at : {X : Type 0} → (List X → Rest → Result (X × Rest) ℕ) → ℕ → List X → Rest → Result (List X × Rest) ℕ
many_at step zero front r = Ok (front, r)
many_at step (suc n) front r = do
  x ← step front r
  many_at step n (front ++ x.0 ∷ []) x.1

-- the values of a key of the table (true), or of a row (false)
abbrev pub next_value : Table → Bool → List Value → Rest → Result (Value × Rest) ℕ
next_value table is_key front = value_in (column_at table is_key (length front))

unfoldable pub values_at : Table → Bool → Rest → Result (List Value × Rest) ℕ
values_at table is_key r = do
  count ← number_at w16 r.offset r
  if count.0 == width_of table is_key then many_at (next_value table is_key) count.0 [] count.1 else Err r.offset

-- a key behind the number of its table
unfoldable pub key_in : Catalog → ℕ → Option Key → ℕ → Option Table → ℕ → Rest → Result (Key × Rest) ℕ
key_in catalog shard before number None first r = Err first
key_in catalog shard before number (Some table) first r = do
  pk ← values_at table true r
  if is_here catalog shard table (record { table = number; pk = pk.0 }) && is_above before (record { table = number; pk = pk.0 }) then Ok (record { table = number; pk = pk.0 }, pk.1) else Err first

unfoldable pub key_at : Catalog → ℕ → Option Key → Rest → Result (Key × Rest) ℕ
key_at catalog shard before r = do
  number ← number_at w32 r.offset r
  key_in catalog shard before number.0 (slice_get catalog.tables number.0) r.offset number.1

-- the row of a key
unfoldable pub row_in : Key → Option Table → Rest → Result (List Value × Rest) ℕ
row_in key None r = Err r.offset
row_in key (Some table) r = do
  row ← values_at table false r
  if has_key table key row.0 then Ok row else Err r.offset

abbrev pub row_at : Catalog → Key → Rest → Result (List Value × Rest) ℕ
row_at catalog key r = row_in key (slice_get catalog.tables key.table) r

-- what a key's change is, behind the byte that tells it
unfoldable pub new_row_of : Catalog → Key → ℕ → ℕ → Rest → Result (Option (List Value) × Rest) ℕ
new_row_of catalog key zero first r = Ok (None, r)
new_row_of catalog key (suc zero) first r = do
  row ← row_at catalog key r
  Ok (Some row.0, row.1)
new_row_of catalog key (suc (suc kind)) first r = Err first

unfoldable pub new_row_at : Catalog → Key → Rest → Result (Option (List Value) × Rest) ℕ
new_row_at catalog key r = do
  kind ← number_at w8 r.offset r
  new_row_of catalog key kind.0 r.offset kind.1

unfoldable pub change_at : Catalog → ℕ → List Change → Rest → Result (Change × Rest) ℕ
change_at catalog shard front r = do
  key ← key_at catalog shard (last_changed front) r
  row ← new_row_at catalog key.0 key.1
  Ok (record { key = key.0; row = row.0 }, row.1)

unfoldable pub group_of : ℕ → ℕ → Rest → Result (Group × Rest) ℕ
group_of zero first r = Ok (groups.Pre, r)
group_of (suc zero) first r = Ok (groups.Main, r)
group_of (suc (suc zero)) first r = Ok (groups.Post, r)
group_of (suc (suc (suc kind))) first r = Err first

unfoldable pub group_at : Rest → Result (Group × Rest) ℕ
group_at r = do
  kind ← number_at w8 r.offset r
  group_of kind.0 r.offset kind.1

unfoldable pub part_at : Catalog → ℕ → Rest → Result (Part × Rest) ℕ
part_at catalog shard r = do
  tx ← number_within w64 0 last_transaction r
  group ← group_at tx.1
  count ← number_at w32 group.1.offset group.1
  changes ← many_at (change_at catalog shard) count.0 [] count.1
  Ok (record { tx = tx.0; group = group.0; changes = changes.0 }, changes.1)

abbrev pub next_part : Catalog → ℕ → List Part → Rest → Result (Part × Rest) ℕ
next_part catalog shard front = part_at catalog shard

-- a body's parts, behind those of the records before
unfoldable pub body_at : Catalog → ℕ → List Part → Rest → Result (List Part × Rest) ℕ
body_at catalog shard front r = do
  count ← number_within w16 1 65535 r
  many_at (next_part catalog shard) count.0 front count.1

-- a body of this length, or what there is of it
abbrev pub body_of : ℕ → Rest → Rest
body_of n r = record { bytes = take n r.bytes; offset = r.offset; is_body = nat_le n (length r.bytes) }

-- a record behind its gate: the body ends with its last part
unfoldable pub record_at : Catalog → ℕ → List Part → Rest → Result (List Part × Rest) ℕ
record_at catalog shard front r = do
  len ← number_at w32 r.offset r
  parts ← body_at catalog shard front (body_of len.0 len.1)
  if (length parts.1.bytes == 0) && nat_le len.0 (length len.1.bytes) then Ok (parts.0, behind len.0 len.1) else Err parts.1.offset

-- the parts of at most so many records up to the first closed gate, and what begins with that gate
unfoldable pub records_at : Catalog → ℕ → ℕ → List Part → Rest → Result (List Part × Rest) ℕ
records_at catalog shard zero front r = Err r.offset
records_at catalog shard (suc n) front r = do
  gate ← number_at w8 r.offset r
  if gate.0 == open_gate then (record_at catalog shard front gate.1 >>= λ parts. records_at catalog shard n parts.0 parts.1) else Ok (front, r)

unfoldable pub pair_at : Catalog → ℕ → List (Key × List Value) → Rest → Result ((Key × List Value) × Rest) ℕ
pair_at catalog shard front r = do
  key ← key_at catalog shard (last_key front) r
  row ← row_at catalog key.0 key.1
  Ok ((key.0, row.0), row.1)

-- these bytes, each a field of its own
unfoldable pub text_is : List ℕ → Rest → Result Rest ℕ
text_is [] r = Ok r
text_is (byte ∷ bytes) r = do
  first ← number_within w8 byte byte r
  text_is bytes first.1

-- What a file holds: what its header says, the offset of the first gate behind the rows, the parts of its records up to the first
-- closed gate, and that gate's offset.
pub record Held : Type 0 where
  pub epoch : ℕ
  pub last_tx : ℕ
  pub rows : List (Key × List Value)
  pub first : ℕ
  pub parts : List Part
  pub end : ℕ

-- what stands behind the file gate
unfoldable pub header_at : ℕ → Rest → Result ((ℕ × ℕ) × Rest) ℕ
header_at shard r = do
  body ← text_is mark r
  number ← number_within w32 shard shard body
  epoch ← number_within w64 0 last_epoch number.1
  last_tx ← number_within w64 0 last_transaction epoch.1
  Ok ((epoch.0, last_tx.0), last_tx.1)

unfoldable pub rows_at : Catalog → ℕ → Rest → Result (List (Key × List Value) × Rest) ℕ
rows_at catalog shard r = do
  count ← number_at w64 r.offset r
  many_at (pair_at catalog shard) count.0 [] count.1

unfoldable pub held_at : Catalog → ℕ → Rest → Result Held ℕ
held_at catalog shard r = do
  numbers ← header_at shard r
  rows ← rows_at catalog shard numbers.1
  parts ← records_at catalog shard (length rows.1.bytes) [] rows.1
  Ok (record { epoch = numbers.0.0; last_tx = numbers.0.1; rows = rows.0; first = rows.1.offset; parts = parts.0; end = parts.1.offset })

-- a file whose gate is open
abbrev pub file_at : Catalog → ℕ → List ℕ → Result Held ℕ
file_at catalog shard file = held_at catalog shard (record { bytes = drop 1 file; offset = 1; is_body = false })

-- whether the file gate is open
abbrev pub is_open : List ℕ → Bool
is_open [] = false
is_open (gate ∷ []) = false
is_open (gate ∷ next ∷ others) = gate == open_gate
