-- The packets of a result set: the column count, a definition per column, EOF, the rows, EOF.
use Rattle.std.specs.Prelude.{ℕ, ◌+◌, ◌%◌, ◌==◌, if◌then◌else◌, List, [], ◌∷◌, ◌++◌, length, map, codes}
use Rattle.std.specs.Int.{to_le_bytes, w32}
use Rattle.std.specs.List.{flat_map}
use Rattle.my_packet.specs.Bytes.{header}
use Rattle.my_reply.specs.Fields.{two_bytes, length_encoded, text_bytes}
use Rattle.vl_values.specs.declared.col_type.ColType.{ColType}
use Rattle.vl_values.specs.declared.col_type.ColType.TheVariants.{VarChar, VarBinary}
use Rattle.vl_values.specs.declared.reply_column.ReplyColumn.{ReplyColumn}
use Rattle.vl_values.specs.declared.value.Value.{Value}
use Rattle.vl_values.specs.declared.value.Value.TheVariants.{Null, Int, Uint, Bytes}
use Rattle.vl_values.specs.Value.{text_of_value}

-- a payload as a packet with this number
abbrev pub framed : List ℕ → ℕ → List ℕ
framed payload seq = header (length payload) seq ++ payload

-- the number behind this one: 0 comes after 255
abbrev pub next_number : ℕ → ℕ
next_number seq = (seq + 1) % 256

-- payloads as packets, numbered from this number on
abbrev pub framed_from : ℕ → List (List ℕ) → List ℕ
framed_from seq [] = []
framed_from seq (payload ∷ payloads) = framed payload seq ++ framed_from (next_number seq) payloads

-- the type of a column as the protocol has it: its character set, greatest length and code
abbrev pub charset : ColType → ℕ
charset (VarChar n) = 45
charset _ = 63

abbrev pub greatest_length : ColType → ℕ
greatest_length (VarChar n) = n
greatest_length (VarBinary n) = n
greatest_length _ = 20

abbrev pub type_code : ColType → ℕ
type_code (VarChar n) = 253
type_code (VarBinary n) = 253
type_code _ = 8

-- the name of a column in its table; one of no table has none
abbrev pub name_in_table : ReplyColumn → List ℕ
name_in_table column = if length column.table == 0 then [] else column.name

-- the fixed fields of a definition behind their length, which is 12
abbrev pub fixed_fields : ColType → ℕ → List ℕ
fixed_fields ty flags = 12 ∷ two_bytes (charset ty) ++ (to_le_bytes w32 (greatest_length ty) ++ (type_code ty ∷ two_bytes flags ++ (0 ∷ 0 ∷ 0 ∷ [])))

-- a definition: catalog, schema, table, the table behind that, name, the name behind that, and the fixed fields
abbrev pub column_payload : ReplyColumn → List ℕ
column_payload column =
    text_bytes (codes "def")
    ++ (text_bytes column.schema
    ++ (text_bytes column.table
    ++ (text_bytes column.table
    ++ (text_bytes column.name
    ++ (text_bytes (name_in_table column)
    ++ fixed_fields column.ty column.flags)))))

-- a value: its text, and 251 for NULL
abbrev pub value_bytes : Value → List ℕ
value_bytes Null = 251 ∷ []
value_bytes (Int n) = text_bytes (text_of_value (Int n))
value_bytes (Uint n) = text_bytes (text_of_value (Uint n))
value_bytes (Bytes s) = text_bytes s

abbrev pub row_payload : List Value → List ℕ
row_payload row = flat_map value_bytes row

-- EOF: 254, no warnings, and the status
abbrev pub eof_payload : ℕ → List ℕ
eof_payload status = 254 ∷ two_bytes 0 ++ two_bytes status

abbrev pub result_set_payloads : List ReplyColumn → List (List Value) → ℕ → List (List ℕ)
result_set_payloads columns rows status =
    length_encoded (length columns) ∷ (map column_payload columns ++ (eof_payload status ∷ (map row_payload rows ++ (eof_payload status ∷ []))))
