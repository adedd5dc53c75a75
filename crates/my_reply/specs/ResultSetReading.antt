-- What bytes say as the packets of a result set.
use Rattle.std.specs.Prelude.{ℕ, zero, suc, ◌+◌, ◌&&◌, ◌==◌, nat_lt, Bool, false, if◌then◌else◌, List, [], ◌∷◌, length, Option, Some, None, Result, Ok, Err}
use Rattle.std.specs.Int.{from_le_bytes, w32}
use Rattle.my_packet.specs.Bytes.{announced}
use Rattle.my_reply.specs.Reading.{Read, ◌>>=◌, two_at, number_at, ends_with, bytes_at}
use Rattle.my_reply.specs.ResultSet.{next_number}
use Rattle.my_reply.specs.declared.fixed_fields.FixedFields.{FixedFields}
use Rattle.my_reply.specs.declared.said.Said.{Said}
use Rattle.my_reply.specs.declared.said.Said.TheVariants.{Row, Eof}
use Rattle.my_reply.specs.declared.wire_column.WireColumn.{WireColumn}

-- a fault in a payload, which has this many bytes behind it
abbrev pub inside : {A : Type 0} → ℕ → Result A ℕ → Result A ℕ
inside n (Ok x) = Ok x
inside n (Err left) = Err (left + n)

-- a header: the length that it announces and the packet's number
unfoldable pub header_at : List ℕ → Read (ℕ × ℕ)
header_at (low ∷ middle ∷ high ∷ number ∷ rest) = Ok ((announced low middle high, number), rest)
header_at _ = Err 0

-- the payload of the packet that has this number
abbrev pub numbered_at : ℕ → List ℕ → Read (List ℕ)
numbered_at due bytes = do
  header ← header_at bytes
  if header.0.1 == due then bytes_at header.0.0 header.1 else Err (length header.1 + 1)

-- ---- fields

abbrev pub byte_at : List ℕ → Read ℕ
byte_at [] = Err 0
byte_at (byte ∷ rest) = Ok (byte, rest)

-- this byte alone
abbrev pub mark_at : ℕ → List ℕ → Result (List ℕ) ℕ
mark_at mark [] = Err 0
mark_at mark (byte ∷ rest) = if byte == mark then Ok rest else Err (length (byte ∷ rest))

abbrev pub four_at : List ℕ → Read ℕ
four_at bytes = do
  four ← bytes_at 4 bytes
  Ok (from_le_bytes w32 four.0, four.1)

-- a text behind its length
abbrev pub text_at : List ℕ → Read (List ℕ)
text_at bytes = do
  len ← number_at bytes
  bytes_at len.0 len.1

-- ---- payloads

abbrev pub two_texts_at : List ℕ → Read (List ℕ × List ℕ)
two_texts_at bytes = do
  first ← text_at bytes
  second ← text_at first.1
  Ok ((first.0, second.0), second.1)

-- the fixed fields behind their length, which is 12
unfoldable pub fixed_at : List ℕ → Read FixedFields
fixed_at bytes = do
  start ← mark_at 12 bytes
  charset ← two_at start
  greatest ← four_at charset.1
  code ← byte_at greatest.1
  flags ← two_at code.1
  Ok (record { charset = charset.0; greatest_length = greatest.0; code = code.0; flags = flags.0 }, flags.1)

-- the decimals, two bytes 0, and the end
unfoldable pub decimals_at : List ℕ → Result ℕ ℕ
decimals_at bytes = do
  decimals ← byte_at bytes
  filler ← mark_at 0 decimals.1
  end ← mark_at 0 filler
  ends_with decimals.0 end

-- a column's definition
unfoldable pub column_at : List ℕ → Result WireColumn ℕ
column_at payload = do
  schema ← two_texts_at payload
  table ← two_texts_at schema.1
  name ← two_texts_at table.1
  fixed ← fixed_at name.1
  decimals ← decimals_at fixed.1
  Ok (record {
    catalog = schema.0.0;
    schema = schema.0.1;
    table = table.0.0;
    table_behind = table.0.1;
    name = name.0.0;
    name_behind = name.0.1;
    fixed = fixed.0;
    decimals = decimals;
  })

-- a value: its text, or NULL
unfoldable pub value_at : List ℕ → Read (Option (List ℕ))
value_at [] = Err 0
value_at (first ∷ rest) = if first == 251 then Ok (None, rest) else (do
  text ← text_at (first ∷ rest)
  Ok (Some text.0, text.1))

-- a row of this many values
abbrev pub values_at : ℕ → List ℕ → Read (List (Option (List ℕ)))
values_at zero bytes = Ok ([], bytes)
values_at (suc n) bytes = do
  value ← value_at bytes
  values ← values_at n value.1
  Ok (value.0 ∷ values.0, values.1)

abbrev pub row_at : ℕ → List ℕ → Result (List (Option (List ℕ))) ℕ
row_at count payload = do
  values ← values_at count payload
  ends_with values.0 values.1

-- an EOF: its status and its warnings
unfoldable pub eof_at : List ℕ → Result (ℕ × ℕ) ℕ
eof_at payload = do
  rest ← mark_at 254 payload
  warnings ← two_at rest
  status ← two_at warnings.1
  ends_with (status.0, warnings.0) status.1

-- a payload of fewer than nine bytes that begins with 254 is an EOF, and no row
abbrev pub is_eof : List ℕ → Bool
is_eof [] = false
is_eof (first ∷ rest) = first == 254 && nat_lt (length (first ∷ rest)) 9

-- ---- packets, of which the first has this number

-- an EOF by its packet
abbrev pub eof_packet_at : ℕ → List ℕ → Result (List ℕ) ℕ
eof_packet_at due bytes = do
  packet ← numbered_at due bytes
  eof ← inside (length packet.1) (eof_at packet.0)
  Ok packet.1

-- a column by its packet
abbrev pub column_packet_at : ℕ → List ℕ → Read WireColumn
column_packet_at due bytes = do
  packet ← numbered_at due bytes
  column ← inside (length packet.1) (column_at packet.0)
  Ok (column, packet.1)

-- so many columns, and the number behind that of the last
unfoldable pub columns_at : ℕ → ℕ → List ℕ → Read (List WireColumn × ℕ)
columns_at zero due bytes = Ok (([], due), bytes)
columns_at (suc n) due bytes = do
  column ← column_packet_at due bytes
  columns ← columns_at n (next_number due) column.1
  Ok ((column.0 ∷ columns.0.0, columns.0.1), columns.1)

-- a row of so many values or the end of rows, by its packet
abbrev pub said_in : ℕ → List ℕ → Result Said ℕ
said_in count payload = if is_eof payload
    then (do
      eof ← eof_at payload
      Ok (Eof eof.0 eof.1))
    else (do
      row ← row_at count payload
      Ok (Row row))

abbrev pub said_at : ℕ → ℕ → List ℕ → Read Said
said_at count due bytes = do
  packet ← numbered_at due bytes
  said ← inside (length packet.1) (said_in count packet.0)
  Ok (said, packet.1)

-- what is read of the packets behind a row
abbrev pub behind_row : List (Option (List ℕ)) → Read (List (List (Option (List ℕ))) × (ℕ × ℕ)) → Read (List (List (Option (List ℕ))) × (ℕ × ℕ))
behind_row row (Ok ((rows, eof), rest)) = Ok ((row ∷ rows, eof), rest)
behind_row row (Err left) = Err left

-- rows of this many values and the EOF behind them; so many packets at most
unfoldable pub rows_at : ℕ → ℕ → ℕ → List ℕ → Read (List (List (Option (List ℕ))) × (ℕ × ℕ))
rows_at zero count due bytes = Err 0
rows_at (suc most) count due bytes = said_at count due bytes >>= λ said. by said.0 (rows_at most count (next_number due) said.1) said.1
  where
    by : Said → Read (List (List (Option (List ℕ))) × (ℕ × ℕ)) → List ℕ → Read (List (List (Option (List ℕ))) × (ℕ × ℕ))
    by (Row row) more rest = behind_row row more
    by (Eof status warnings) more rest = Ok (([], (status, warnings)), rest)
