-- What was written of a reply is read.
use Rattle.std.proofs.Common.{◌≡◌, ◌∙◌, ℕ, ◌^◌, ◌<◌, ◌≤◌, Bool, true, false, cond, ltb, nat_eq, List, [], ◌∷◌, ◌++◌, length, map, None, Result, Ok, Err, refl, ap, sym, arith, inl, inr}
use Rattle.std.specs.Prelude.{bit_and}
use Rattle.std.proofs.lemmas.Bool.{cases_lt, lt-ltb, le-ltb, ne_eqb}
use Rattle.std.proofs.lemmas.List.{append-nil, length-append, length-take, length-map}
use Rattle.my_reply.specs.Decoding.{begins_set, count_at, may_be_set, set_at, told_at, reply_at, wire_of, Fits, IsSet}
use Rattle.my_reply.specs.Fields.{length_encoded, status_flags, counted}
use Rattle.my_reply.specs.Reading.{state_at}
use Rattle.my_reply.specs.Reply.{ok_payload, err_payload, early_err_payload, bytes_for}
use Rattle.my_reply.specs.ResultSet.{framed, framed_from, next_number, column_payload, row_payload, eof_payload}
use Rattle.my_reply.specs.declared.wire.Wire.{Wire}
use Rattle.my_reply.proofs.OneAgain.{number_again, ok_again, err_again, early_again}
use Rattle.my_reply.proofs.SetAgain.{header_again, bytes_again, columns_again, eof_packet_again, rows_again, packets_long, number_after}
use Rattle.vl_values.specs.Cause.{sql_state, cause_text}
use Rattle.vl_values.specs.Piece.{flatten}
use Rattle.vl_values.specs.Cause.{message}
use Rattle.vl_values.specs.declared.cause.Cause.{Cause}
use Rattle.vl_values.specs.declared.cause.Cause.TheVariants.{OutOfMemory}
use Rattle.vl_values.specs.declared.reply.Reply.{Reply}
use Rattle.vl_values.specs.declared.reply.Reply.TheVariants as replies
use Rattle.vl_values.specs.declared.reply_column.ReplyColumn.{ReplyColumn}
use Rattle.vl_values.specs.declared.value.Value.{Value}

-- ---- the first packet

first_told : (payload more : List ℕ) (seq : ℕ) → reply_at (framed payload seq ++ more) ≡ told_at seq payload more
unfolding reply_at
first_told payload more seq = rw (header_again payload more seq, bytes_again payload more) refl

alone_told : (payload : List ℕ) (seq : ℕ) → reply_at (framed payload seq) ≡ told_at seq payload []
alone_told payload seq = ap reply_at (sym (append-nil (framed payload seq))) ∙ first_told payload [] seq

first_set : (payload more : List ℕ) (seq : ℕ) → may_be_set (framed payload seq ++ more) ≡ begins_set payload
first_set payload more seq = rw (header_again payload more seq, bytes_again payload more) refl

alone_set : (payload : List ℕ) (seq : ℕ) → may_be_set (framed payload seq) ≡ begins_set payload
alone_set payload seq = ap may_be_set (sym (append-nil (framed payload seq))) ∙ first_set payload [] seq

status_fits : (tx auto : Bool) → status_flags tx auto < 2 ^ 16
status_fits true true = omega arith
status_fits true false = omega arith
status_fits false true = omega arith
status_fits false false = omega arith

counted_fits : (caps affected found : ℕ) → affected < 2 ^ 64 → found < 2 ^ 64 → counted caps affected found < 2 ^ 64
counted_fits caps affected found a f =
    elim (nat_eq (bit_and caps 2) 0) as (λ b. cond b affected found < 2 ^ 64) [ true ↦ a | false ↦ f ]

state_long : (why : Cause) → length (sql_state why) ≡ 5
state_long OutOfMemory = refl
state_long why = refl

text_short : (why : Cause) → length (cause_text why) ≤ 512
text_short why = omega (arith, length-take 512 (flatten (message why)))

-- no text begins with `#`
no_state : (why : Cause) → state_at (cause_text why) ≡ Ok (None, cause_text why)
unfolding state_at
no_state OutOfMemory = refl
no_state why = refl

-- ---- result sets

told_set : (n seq : ℕ) (more : List ℕ) → 0 < n → n ≤ 1000 → told_at seq (length_encoded n) more ≡ set_at seq (length_encoded n) more
unfolding told_at
told_set n seq more some few =
    elim (cases_lt n 251) [
      | inl small ↦ (let t : ltb n 251 ≡ true = lt-ltb _ _ small in
          let ok : nat_eq n 0 ≡ false = ne_eqb _ _ (omega arith) in
          let err : nat_eq n 255 ≡ false = ne_eqb _ _ (omega arith) in rw (t, ok, err) refl)
      | inr large ↦ (let f : ltb n 251 ≡ false = le-ltb _ _ large in
          let t : ltb n (2 ^ 16) ≡ true = lt-ltb _ _ (omega arith) in rw (f, t) refl)
    ]

count_again : (n : ℕ) → n ≤ 1000 → count_at (length_encoded n) ≡ Ok n
count_again n few = ap count_at (sym (append-nil (length_encoded n))) ∙ rw (number_again n [] (omega arith)) refl

more_packets : (seq status : ℕ) (rows : List (List Value)) → length rows < length (framed_from seq (map row_payload rows ++ eof_payload status ∷ []))
more_packets seq status rows =
    omega (arith, packets_long seq (map row_payload rows ++ eof_payload status ∷ []), length-append (map row_payload rows) (eof_payload status ∷ []), length-map rows row_payload)

set_again : (columns : List ReplyColumn) (rows : List (List Value)) (tx auto : Bool) (caps seq : ℕ) → Fits (replies.Rows columns rows tx auto)
    → set_at seq (length_encoded (length columns)) (framed_from (next_number seq) (map column_payload columns ++ (eof_payload (status_flags tx auto) ∷ (map row_payload rows ++ (eof_payload (status_flags tx auto) ∷ [])))))
    ≡ Ok (wire_of (replies.Rows columns rows tx auto) caps)
unfolding set_at
set_again columns rows tx auto caps seq fits =
    let status : ℕ = status_flags tx auto in
    let last : ℕ = number_after (length columns) (next_number seq) in
    rw (
      count_again (length columns) fits.1.0,
      columns_again (next_number seq) columns (eof_payload status ∷ (map row_payload rows ++ (eof_payload status ∷ []))) fits.1.1 fits.2,
      eof_packet_again status last (framed_from (next_number last) (map row_payload rows ++ (eof_payload status ∷ []))) (status_fits tx auto),
      rows_again (length (framed_from (next_number last) (map row_payload rows ++ (eof_payload status ∷ [])))) (length columns) (next_number last) status rows (more_packets (next_number last) status rows) fits.0 fits.1.2 fits.3 (status_fits tx auto),
    ) refl

-- ---- all replies

pub read_back : (reply : Reply) (caps seq : ℕ) → Fits reply → reply_at (bytes_for reply caps seq) ≡ Ok (wire_of reply caps)
unfolding told_at
read_back (replies.Ok affected found warnings tx auto) caps seq fits =
    alone_told (ok_payload (counted caps affected found) (status_flags tx auto) warnings) seq
    ∙ rw (ok_again (counted caps affected found) (status_flags tx auto) warnings (counted_fits caps affected found fits.0 fits.1) (status_fits tx auto) fits.2) refl
read_back (replies.Rows columns rows tx auto) caps seq fits =
    first_told (length_encoded (length columns)) _ seq ∙ told_set (length columns) seq _ fits.0 fits.1.0 ∙ set_again columns rows tx auto caps seq fits
read_back (replies.Err code why tx) caps seq fits = split (nat_eq (bit_and caps 512) 0) refl
  where
    split : (b : Bool) → nat_eq (bit_and caps 512) 0 ≡ b → reply_at (bytes_for (replies.Err code why tx) caps seq) ≡ Ok (wire_of (replies.Err code why tx) caps)
    split true e =
        rw e (alone_told (early_err_payload code (cause_text why)) seq ∙ rw (early_again code (cause_text why) fits (no_state why) (text_short why)) refl)
    split false e =
        rw e (alone_told (err_payload code (sql_state why) (cause_text why)) seq ∙ rw (err_again code (sql_state why) (cause_text why) fits (state_long why) (text_short why)) refl)

-- ---- what is read is one

abbrev good : Wire → Result Wire ℕ
good wire = Ok wire

pub same_wire : (a b : Wire) → good a ≡ good b → a ≡ b
same_wire a b e = cc

abbrev bad : ℕ → Result Wire ℕ
bad left = Err left

pub not_read : (left : ℕ) (wire : Wire) → bad left ≡ good wire → ⊥
not_read left wire e = cc

-- ---- memory is taken for a result set alone

both : (b : Bool) → b ≡ true → b ≡ false → ⊥
both b yes_ no_ = cc

pub memory_read : (reply : Reply) (caps seq : ℕ) → may_be_set (bytes_for reply caps seq) ≡ true → IsSet (wire_of reply caps)
memory_read (replies.Ok affected found warnings tx auto) caps seq set =
    both (may_be_set (bytes_for (replies.Ok affected found warnings tx auto) caps seq)) set (alone_set (ok_payload (counted caps affected found) (status_flags tx auto) warnings) seq)
memory_read (replies.Rows columns rows tx auto) caps seq set = tt
memory_read (replies.Err code why tx) caps seq set =
    both (may_be_set (bytes_for (replies.Err code why tx) caps seq)) set (split (nat_eq (bit_and caps 512) 0) refl)
  where
    split : (b : Bool) → nat_eq (bit_and caps 512) 0 ≡ b → may_be_set (bytes_for (replies.Err code why tx) caps seq) ≡ false
    split true e = rw e (alone_set (early_err_payload code (cause_text why)) seq)
    split false e = rw e (alone_set (err_payload code (sql_state why) (cause_text why)) seq)
