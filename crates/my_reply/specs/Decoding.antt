-- What bytes say as a reply, and what is read of one that was written.
use Rattle.std.specs.Prelude.{◌≡◌, ℕ, ◌-◌, ◌^◌, ◌<◌, ◌==◌, bit_and, if◌then◌else◌, Bool, true, false, not, ◌&&◌, List, [], ◌∷◌, length, map, All, codes, Option, Some, None, Result, Ok, Err}
use Rattle.my_reply.specs.Fields.{counted, status_flags}
use Rattle.my_reply.specs.Reading.{Read, ◌>>=◌, number_at, ends_with, bytes_at, ok_at, err_at}
use Rattle.my_reply.specs.Reply.{IsEncodable}
use Rattle.my_reply.specs.ResultSet.{charset, greatest_length, type_code, name_in_table, next_number}
use Rattle.my_reply.specs.ResultSetReading.{inside, header_at, columns_at, eof_packet_at, rows_at}
use Rattle.my_reply.specs.declared.wire.Wire.{Wire}
use Rattle.my_reply.specs.declared.wire.Wire.TheVariants as wires
use Rattle.my_reply.specs.declared.wire.BadReply.{BadReply}
use Rattle.my_reply.specs.declared.wire.BadReply.TheVariants as bad
use Rattle.my_reply.specs.declared.wire_column.WireColumn.{WireColumn}
use Rattle.vl_values.specs.Cause.{sql_state, cause_text}
use Rattle.vl_values.specs.declared.reply.Reply.{Reply}
use Rattle.vl_values.specs.declared.reply.Reply.TheVariants as replies
use Rattle.vl_values.specs.declared.reply_column.ReplyColumn.{ReplyColumn}
use Rattle.vl_values.specs.declared.value.Value.{Value}
use Rattle.vl_values.specs.declared.value.Value.TheVariants as values
use Rattle.vl_values.specs.Value.{text_of_value}

-- a column count
abbrev pub count_at : List ℕ → Result ℕ ℕ
count_at payload = do
  len ← number_at payload
  ends_with len.0 len.1

-- what stands behind the definitions of a result set: an EOF, and the rows up to another
abbrev pub rows_behind_at : List WireColumn → ℕ → ℕ → List ℕ → Result Wire ℕ
rows_behind_at columns count due bytes = do
  rest ← eof_packet_at due bytes
  rows ← rows_at (length rest) count (next_number due) rest
  ends_with (wires.Rows columns rows.0.0 rows.0.1.0 rows.0.1.1) rows.1

-- a result set, whose column count has this number and payload
unfoldable pub set_at : ℕ → List ℕ → List ℕ → Result Wire ℕ
set_at number payload rest = do
  count ← inside (length rest) (count_at payload)
  columns ← columns_at count (next_number number) rest
  rows_behind_at columns.0.0 count columns.0.1 columns.1

-- a reply of one packet, behind which nothing may stand
abbrev pub alone_at : Result Wire ℕ → List ℕ → Result Wire ℕ
alone_at told rest = do
  wire ← inside (length rest) told
  ends_with wire rest

-- the reply whose first packet has this number and payload: OK begins with 0, and ERR with 255
unfoldable pub told_at : ℕ → List ℕ → List ℕ → Result Wire ℕ
told_at number [] rest = Err (length rest)
told_at number (first ∷ more) rest =
    if first == 0 then alone_at (ok_at more) rest else
    if first == 255 then alone_at (err_at more) rest else
    set_at number (first ∷ more) rest

-- a reply, whatever the number of its first packet is
unfoldable pub reply_at : List ℕ → Result Wire ℕ
reply_at bytes = do
  header ← header_at bytes
  payload ← bytes_at header.0.0 header.1
  told_at header.0.1 payload.0 payload.1

-- whether a payload begins neither as an OK nor as an ERR
abbrev pub begins_set : List ℕ → Bool
begins_set [] = false
begins_set (first ∷ more) = not (first == 0) && not (first == 255)

abbrev pub begins_in : Read (List ℕ) → Bool
begins_in (Ok payload) = begins_set payload.0
begins_in (Err left) = false

-- whether the bytes begin as a result set, the one reply for which memory is taken
abbrev pub may_be_set : List ℕ → Bool
may_be_set bytes = begins_in (header_at bytes >>= (λ header. bytes_at header.0.0 header.1))

-- what is read of bytes, or the place of the first fault, counted from 0
abbrev pub Decodes : List ℕ → Result Wire BadReply → Type 0
Decodes bytes (Ok wire) = reply_at bytes ≡ Ok wire
Decodes bytes (Err bad.Memory) = may_be_set bytes ≡ true
Decodes bytes (Err (bad.Wrong at)) = (left : ℕ) × (reply_at bytes ≡ Err left) × (at ≡ length bytes - left)

abbrev pub IsSet : Wire → Type 0
IsSet (wires.Ok affected insert_id status warnings) = ⊥
IsSet (wires.Rows columns rows status warnings) = Unit {0}
IsSet (wires.Err code state text) = ⊥

-- this was read, unless memory ran out for a result set
abbrev pub IsRead : Result Wire BadReply → Wire → Type 0
IsRead (Ok read) wire = read ≡ wire
IsRead (Err bad.Memory) wire = IsSet wire
IsRead (Err (bad.Wrong at)) wire = ⊥

-- ---- what is read of a reply

abbrev pub column_wire : ReplyColumn → WireColumn
column_wire column = record {
  catalog = codes "def";
  schema = column.schema;
  table = column.table;
  table_behind = column.table;
  name = column.name;
  name_behind = name_in_table column;
  fixed = record { charset = charset column.ty; greatest_length = greatest_length column.ty; code = type_code column.ty; flags = column.flags };
  decimals = 0;
}

abbrev pub value_wire : Value → Option (List ℕ)
value_wire values.Null = None
value_wire (values.Int n) = Some (text_of_value (values.Int n))
value_wire (values.Uint n) = Some (text_of_value (values.Uint n))
value_wire (values.Bytes s) = Some s

abbrev pub wire_of : Reply → ℕ → Wire
wire_of (replies.Ok affected found warnings tx auto) caps = wires.Ok (counted caps affected found) 0 (status_flags tx auto) warnings
wire_of (replies.Rows columns rows tx auto) caps = wires.Rows (map column_wire columns) (map (map value_wire) rows) (status_flags tx auto) 0
wire_of (replies.Err code why tx) caps = wires.Err code (if bit_and caps 512 == 0 then None else Some (sql_state why)) (cause_text why)

-- a column's flags and the length in its type have 16 bits
abbrev pub FitsColumn : ReplyColumn → Type 0
FitsColumn column = (column.flags < 2 ^ 16) × (greatest_length column.ty < 2 ^ 16)

-- the numbers of a reply have 64 and 16 bits; a result set may be encoded, has columns, and each row has a value for each
abbrev pub Fits : Reply → Type 0
Fits (replies.Ok affected found warnings tx auto) = (affected < 2 ^ 64) × (found < 2 ^ 64) × (warnings < 2 ^ 16)
Fits (replies.Rows columns rows tx auto) =
    (0 < length columns) × IsEncodable (replies.Rows columns rows tx auto) × All FitsColumn columns × All (λ row. length row ≡ length columns) rows
Fits (replies.Err code why tx) = code < 2 ^ 16
