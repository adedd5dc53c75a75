-- The bytes of a reply: one packet, or those of a result set.
use Rattle.std.specs.Prelude.{ℕ, ◌≤◌, ◌==◌, bit_and, if◌then◌else◌, List, ◌∷◌, ◌++◌, length, All}
use Rattle.my_reply.specs.Fields.{two_bytes, length_encoded, status_flags, counted}
pub use Rattle.my_reply.specs.ResultSet.{framed}
use Rattle.my_reply.specs.ResultSet.{framed_from, result_set_payloads}
use Rattle.vl_values.specs.Cause.{sql_state, cause_text}
use Rattle.vl_values.specs.declared.reply.Reply.{Reply}
use Rattle.vl_values.specs.declared.reply.Reply.TheVariants.{Ok, Rows, Err}
use Rattle.vl_values.specs.declared.reply_column.ReplyColumn.{ReplyColumn}
use Rattle.vl_values.specs.declared.value.Value.{Value}
use Rattle.vl_values.specs.Value.{text_of_value}

-- OK: 0, the rows counted, the last insert id, which is 0, the status and the warnings
abbrev pub ok_payload : ℕ → ℕ → ℕ → List ℕ
ok_payload rows status warnings = 0 ∷ length_encoded rows ++ (0 ∷ two_bytes status ++ two_bytes warnings)

-- ERR: 255, the code, `#` and the SQLSTATE, and the text
abbrev pub err_payload : ℕ → List ℕ → List ℕ → List ℕ
err_payload code state text = 255 ∷ two_bytes code ++ (35 ∷ state ++ text)

-- the ERR of a client that doesn't speak PROTOCOL_41, or of which that isn't known: it has no state
abbrev pub early_err_payload : ℕ → List ℕ → List ℕ
early_err_payload code text = 255 ∷ two_bytes code ++ text

-- a reply of one packet
abbrev pub IsShort : Reply → Type 0
IsShort (Ok affected found warnings tx auto) = Unit {0}
IsShort (Rows columns rows tx auto) = ⊥
IsShort (Err code why tx) = Unit {0}

-- the bytes of a reply under PROTOCOL_41, whose first packet has this number
abbrev pub reply_bytes : Reply → ℕ → ℕ → List ℕ
reply_bytes (Ok affected found warnings tx auto) caps seq = framed (ok_payload (counted caps affected found) (status_flags tx auto) warnings) seq
reply_bytes (Rows columns rows tx auto) caps seq = framed_from seq (result_set_payloads columns rows (status_flags tx auto))
reply_bytes (Err code why tx) caps seq = framed (err_payload code (sql_state why) (cause_text why)) seq

-- the same, where an ERR without PROTOCOL_41 among the capabilities has no state
abbrev pub bytes_for : Reply → ℕ → ℕ → List ℕ
bytes_for (Ok affected found warnings tx auto) caps seq = reply_bytes (Ok affected found warnings tx auto) caps seq
bytes_for (Rows columns rows tx auto) caps seq = reply_bytes (Rows columns rows tx auto) caps seq
bytes_for (Err code why tx) caps seq = if bit_and caps 512 == 0 then framed (early_err_payload code (cause_text why)) seq else reply_bytes (Err code why tx) caps seq

-- the greatest text of a column, and that of a value
abbrev pub HasShortTexts : ReplyColumn → Type 0
HasShortTexts column = (length column.schema ≤ 64) × (length column.table ≤ 64) × (length column.name ≤ 64)

abbrev pub IsShortValue : Value → Type 0
IsShortValue value = length (text_of_value value) ≤ 16383

-- a row of no more values than a result set has columns
abbrev pub IsShortRow : List Value → Type 0
IsShortRow row = (length row ≤ 1000) × All IsShortValue row

-- a reply whose payloads are shorter than a packet may be
abbrev pub IsEncodable : Reply → Type 0
IsEncodable (Ok affected found warnings tx auto) = Unit {0}
IsEncodable (Rows columns rows tx auto) = (length columns ≤ 1000) × All HasShortTexts columns × All IsShortRow rows
IsEncodable (Err code why tx) = Unit {0}
