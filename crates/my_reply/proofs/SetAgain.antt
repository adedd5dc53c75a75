-- What was written of a result set is read.
use Rattle.std.proofs.Common.{◌≡◌, ◌∙◌, ℕ, zero, suc, ◌+◌, ◌*◌, ◌/◌, ◌%◌, ◌^◌, ◌<◌, ◌≤◌, Bool, true, false, ltb, nat_eq, List, [], ◌∷◌, ◌++◌, length, map, codes, All, Some, Ok, refl, sym, ap, append_assoc, arith, inl, inr, subst}
use Rattle.std.specs.Int.{to_le_bytes, w32}
use Rattle.std.proofs.lemmas.Bool.{cases_lt, lt-ltb, le-ltb, eqb-true, eq-eqb, ne_eqb}
use Rattle.std.proofs.lemmas.Nat.{from_le_bytes-to_le_bytes_4}
use Rattle.std.proofs.lemmas.List.{append-nil, take_at, drop_at, length-append}
use Rattle.my_packet.proofs.Streams.{announced-header}
use Rattle.my_reply.specs.Decoding.{column_wire, value_wire, FitsColumn}
use Rattle.my_reply.specs.Fields.{length_encoded, text_bytes, two_bytes}
use Rattle.my_reply.specs.Reading.{Read, number_at, bytes_at}
use Rattle.my_reply.specs.Reply.{IsShortValue, IsShortRow, HasShortTexts}
use Rattle.my_reply.specs.ResultSet.{framed, framed_from, next_number, column_payload, row_payload, value_bytes, eof_payload, charset, greatest_length, type_code, name_in_table}
use Rattle.my_reply.specs.ResultSetReading.{header_at, numbered_at, text_at, two_texts_at, four_at, value_at, values_at, row_at, is_eof, eof_at, column_at, fixed_at, decimals_at, columns_at, said_at, rows_at, eof_packet_at}
use Rattle.my_reply.proofs.OneAgain.{number_again, two_again}
use Rattle.my_reply.specs.declared.said.Said.TheVariants.{Row, Eof}
use Rattle.vl_values.specs.declared.col_type.ColType.{ColType}
use Rattle.vl_values.specs.declared.col_type.ColType.TheVariants.{BigInt, BigUint, Int as IntType, Uint32, VarChar, VarBinary}
use Rattle.vl_values.specs.declared.reply_column.ReplyColumn.{ReplyColumn}
use Rattle.vl_values.specs.declared.value.Value.{Value}
use Rattle.vl_values.specs.declared.value.Value.TheVariants.{Null, Int, Uint, Bytes}
use Rattle.vl_values.specs.Value.{text_of_value}

abbrev good : {A : Type 0} → A → List ℕ → Read A
good x rest = Ok (x, rest)

-- ---- packets

pub header_again : (payload more : List ℕ) (seq : ℕ) → header_at (framed payload seq ++ more) ≡ Ok ((length payload, seq), payload ++ more)
unfolding header_at
header_again payload more seq = ap (λ (len : ℕ). good (len, seq) (payload ++ more)) (announced-header (length payload))

pub bytes_again : (front more : List ℕ) → bytes_at (length front) (front ++ more) ≡ Ok (front, more)
bytes_again front more =
    let enough : ltb (length (front ++ more)) (length front) ≡ false = le-ltb _ _ (omega (arith, length-append front more)) in
    rw (enough, take_at front more (length front) refl, drop_at front more (length front) refl) refl

same : (n : ℕ) → nat_eq n n ≡ true
same n = eq-eqb n n refl

pub numbered_again : (payload more : List ℕ) (seq : ℕ) → numbered_at seq (framed payload seq ++ more) ≡ Ok (payload, more)
numbered_again payload more seq = rw (header_again payload more seq, same seq) (bytes_again payload more)

-- ---- values

text_again : (text more : List ℕ) → length text ≤ 16383 → text_at (text_bytes text ++ more) ≡ Ok (text, more)
text_again text more le =
    ap text_at (append_assoc (length_encoded (length text)) text more) ∙ rw (number_again (length text) (text ++ more) (omega arith)) (bytes_again text more)

-- no text begins with the mark of NULL
null_is_no_text : (rest text more : List ℕ) → text_at (251 ∷ rest) ≡ Ok (text, more) → ⊥
unfolding number_at
null_is_no_text rest text more e = cc

not_null : (bytes text more : List ℕ) → text_at bytes ≡ Ok (text, more) → value_at bytes ≡ Ok (Some text, more)
unfolding value_at number_at
not_null [] text more is = absurd (cc)
not_null (first ∷ rest) text more is = split (nat_eq first 251) refl
  where
    split : (b : Bool) → nat_eq first 251 ≡ b → value_at (first ∷ rest) ≡ Ok (Some text, more)
    split false e = rw (e, is) refl
    split true e = absurd (null_is_no_text rest text more (subst (λ (n : ℕ). text_at (n ∷ rest) ≡ Ok (text, more)) (eqb-true first 251 e) is))

value_again : (value : Value) (more : List ℕ) → IsShortValue value → value_at (value_bytes value ++ more) ≡ Ok (value_wire value, more)
unfolding value_at
value_again Null more le = refl
value_again (Int n) more le = not_null _ _ more (text_again (text_of_value (Int n)) more le)
value_again (Uint n) more le = not_null _ _ more (text_again (text_of_value (Uint n)) more le)
value_again (Bytes s) more le = not_null _ _ more (text_again s more le)

values_again : (row : List Value) (more : List ℕ) → All IsShortValue row → values_at (length row) (row_payload row ++ more) ≡ Ok (map value_wire row, more)
values_again [] more all = refl
values_again (value ∷ row) more all =
    ap (values_at (suc (length row))) (append_assoc (value_bytes value) (row_payload row) more)
    ∙ rw (value_again value (row_payload row ++ more) (all 0 value (omega arith)), values_again row more (λ k d lt. all (suc k) d (omega arith))) refl

row_again : (row : List Value) → All IsShortValue row → row_at (length row) (row_payload row) ≡ Ok (map value_wire row)
row_again row all = ap (row_at (length row)) (sym (append-nil (row_payload row))) ∙ rw (values_again row [] all) refl

-- a row isn't taken for an EOF
text_no_eof : (text more : List ℕ) → length text ≤ 16383 → is_eof (text_bytes text ++ more) ≡ false
text_no_eof text more le =
    elim (cases_lt (length text) 251) [
      | inl small ↦ (let t : ltb (length text) 251 ≡ true = lt-ltb _ _ small in
          let other : nat_eq (length text) 254 ≡ false = ne_eqb _ _ (omega arith) in rw (t, other) refl)
      | inr large ↦ (let f : ltb (length text) 251 ≡ false = le-ltb _ _ large in
          let t : ltb (length text) (2 ^ 16) ≡ true = lt-ltb _ _ (omega arith) in rw (f, t) refl)
    ]

value_no_eof : (value : Value) (more : List ℕ) → IsShortValue value → is_eof (value_bytes value ++ more) ≡ false
value_no_eof Null more le = refl
value_no_eof (Int n) more le = text_no_eof _ more le
value_no_eof (Uint n) more le = text_no_eof _ more le
value_no_eof (Bytes s) more le = text_no_eof _ more le

row_no_eof : (row : List Value) → 0 < length row → All IsShortValue row → is_eof (row_payload row) ≡ false
row_no_eof [] some all = absurd (omega arith)
row_no_eof (value ∷ row) some all = value_no_eof value (row_payload row) (all 0 value (omega arith))

-- ---- EOF and rows

eof_again : (status : ℕ) → status < 2 ^ 16 → eof_at (eof_payload status) ≡ Ok (status, 0)
unfolding eof_at
eof_again status lt =
    let whole : status % 256 + status / 256 % 256 * 256 ≡ status = omega arith in rw whole refl

said_row : (row : List Value) (more : List ℕ) (count seq : ℕ) → length row ≡ count → 0 < count → All IsShortValue row → said_at count seq (framed (row_payload row) seq ++ more) ≡ Ok (Row (map value_wire row), more)
said_row row more count seq has some all =
    ap (λ (n : ℕ). said_at n seq (framed (row_payload row) seq ++ more)) (sym has)
    ∙ rw (numbered_again (row_payload row) more seq, row_no_eof row (omega arith) all, row_again row all) refl

said_eof : (status count seq : ℕ) (more : List ℕ) → status < 2 ^ 16 → said_at count seq (framed (eof_payload status) seq ++ more) ≡ Ok (Eof status 0, more)
said_eof status count seq more lt = rw (numbered_again (eof_payload status) more seq, eof_again status lt) refl

pub rows_again : (most count seq status : ℕ) (rows : List (List Value)) → length rows < most → 0 < count → All IsShortRow rows → All (λ row. length row ≡ count) rows → status < 2 ^ 16
    → rows_at most count seq (framed_from seq (map row_payload rows ++ eof_payload status ∷ [])) ≡ Ok ((map (map value_wire) rows, (status, 0)), [])
unfolding rows_at
rows_again zero count seq status rows lt some short full s = absurd (omega arith)
rows_again (suc most) count seq status [] lt some short full s = rw (said_eof status count seq [] s) refl
rows_again (suc most) count seq status (row ∷ rows) lt some short full s =
    rw (
      said_row row (framed_from (next_number seq) (map row_payload rows ++ eof_payload status ∷ [])) count seq (full 0 row (omega arith)) some (short 0 row (omega arith)).1,
      rows_again most count (next_number seq) status rows (omega arith) some (λ k d lt. short (suc k) d (omega arith)) (λ k d lt. full (suc k) d (omega arith)) s,
    ) refl

-- each packet has a header
pub packets_long : (seq : ℕ) (payloads : List (List ℕ)) → length payloads ≤ length (framed_from seq payloads)
packets_long seq [] = omega arith
packets_long seq (payload ∷ payloads) =
    omega (arith, length-append (framed payload seq) (framed_from (next_number seq) payloads), packets_long (next_number seq) payloads)

-- ---- columns

two_texts_again : (first second more : List ℕ) → length first ≤ 16383 → length second ≤ 16383 → two_texts_at (text_bytes first ++ (text_bytes second ++ more)) ≡ Ok ((first, second), more)
two_texts_again first second more a b = rw (text_again first (text_bytes second ++ more) a, text_again second more b) refl

four_again : (n : ℕ) (rest : List ℕ) → n < 2 ^ 32 → four_at (to_le_bytes w32 n ++ rest) ≡ Ok (n, rest)
four_again n rest lt =
    let enough : ltb (length (to_le_bytes w32 n ++ rest)) 4 ≡ false = le-ltb _ _ (omega arith) in
    rw enough (ap (λ (k : ℕ). good k rest) (from_le_bytes-to_le_bytes_4 n lt))

fixed_again : (set greatest code flags : ℕ) (more : List ℕ) → set < 2 ^ 16 → greatest < 2 ^ 32 → flags < 2 ^ 16
    → fixed_at (12 ∷ two_bytes set ++ (to_le_bytes w32 greatest ++ (code ∷ two_bytes flags ++ more))) ≡ Ok (record { charset = set; greatest_length = greatest; code = code; flags = flags }, more)
unfolding fixed_at
fixed_again set greatest code flags more s g f =
    rw (two_again set (to_le_bytes w32 greatest ++ (code ∷ two_bytes flags ++ more)) s, four_again greatest (code ∷ two_bytes flags ++ more) g, two_again flags more f) refl

charset_fits : (ty : ColType) → charset ty < 2 ^ 16
charset_fits (VarChar n) = omega arith
charset_fits (VarBinary n) = omega arith
charset_fits BigInt = omega arith
charset_fits BigUint = omega arith
charset_fits IntType = omega arith
charset_fits Uint32 = omega arith

decimals_again : decimals_at (0 ∷ 0 ∷ 0 ∷ []) ≡ Ok 0
unfolding decimals_at
decimals_again = refl

name_short : (column : ReplyColumn) → length column.name ≤ 64 → length (name_in_table column) ≤ 16383
name_short column le = split (nat_eq (length column.table) 0) refl
  where
    split : (b : Bool) → nat_eq (length column.table) 0 ≡ b → length (name_in_table column) ≤ 16383
    split true e = rw e (omega arith)
    split false e = rw e (omega arith)

column_again : (column : ReplyColumn) → HasShortTexts column → FitsColumn column → column_at (column_payload column) ≡ Ok (column_wire column)
unfolding column_at
column_again column short fits =
    rw (
      two_texts_again (codes "def") column.schema _ (omega arith) (omega (arith, short.0)),
      two_texts_again column.table column.table _ (omega (arith, short.1)) (omega (arith, short.1)),
      two_texts_again column.name (name_in_table column) _ (omega (arith, short.2)) (name_short column short.2),
      fixed_again (charset column.ty) (greatest_length column.ty) (type_code column.ty) column.flags (0 ∷ 0 ∷ 0 ∷ []) (charset_fits column.ty) (omega (arith, fits.1)) fits.0,
      decimals_again,
    ) refl

-- the number that comes after so many packets
abbrev pub number_after : ℕ → ℕ → ℕ
number_after zero seq = seq
number_after (suc n) seq = number_after n (next_number seq)

pub columns_again : (seq : ℕ) (columns : List ReplyColumn) (rest : List (List ℕ)) → All HasShortTexts columns → All FitsColumn columns
    → columns_at (length columns) seq (framed_from seq (map column_payload columns ++ rest))
    ≡ Ok ((map column_wire columns, number_after (length columns) seq), framed_from (number_after (length columns) seq) rest)
unfolding columns_at
columns_again seq [] rest short fits = refl
columns_again seq (column ∷ columns) rest short fits =
    rw (
      numbered_again (column_payload column) (framed_from (next_number seq) (map column_payload columns ++ rest)) seq,
      column_again column (short 0 column (omega arith)) (fits 0 column (omega arith)),
      columns_again (next_number seq) columns rest (λ k d lt. short (suc k) d (omega arith)) (λ k d lt. fits (suc k) d (omega arith)),
    ) refl

pub eof_packet_again : (status seq : ℕ) (more : List ℕ) → status < 2 ^ 16 → eof_packet_at seq (framed (eof_payload status) seq ++ more) ≡ Ok more
eof_packet_again status seq more lt = rw (numbered_again (eof_payload status) more seq, eof_again status lt) refl
