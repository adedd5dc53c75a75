-- A file that was written is read again, up to its first closed gate.
use Rattle.std.proofs.Common.{◌≡◌, ◌≢◌, ℕ, zero, suc, ◌+◌, ◌-◌, ◌^◌, ◌<◌, ◌≤◌, ◌&&◌, Bool, true, false, List, [], ◌∷◌, ◌++◌, length, take, drop, Option, Some, None, Result, Ok, Err, refl, sym, ap, subst, ◌∙◌, append_assoc, arith, cond, eqb, eq-eqb}
use Rattle.std.specs.Prelude.{nat_le}
use Rattle.std.specs.Int.{w8, w16, w32, w64}
use Rattle.std.specs.List.{flat_map}
use Rattle.std.proofs.lemmas.Bool.{le-leb, ne_eqb}
use Rattle.std.proofs.lemmas.List.{append-nil, take_at, drop_at, length-append}
use Rattle.std.proofs.lemmas.List.Concat.{flat_map-cons}
use Rattle.vl_values.specs.declared.key.Key.{Key}
use Rattle.vl_values.specs.declared.value.Value.{Value}
use Rattle.vl_catalog.specs.declared.catalog.Catalog.{Catalog}
use Rattle.vl_catalog.specs.declared.part.Part.{Part}
use Rattle.vl_record.specs.Spelling.{body_bytes, header_bytes, key_bytes, last_epoch, last_transaction, mark, number_bytes, open_gate, pair_bytes, part_bytes, record_bytes, records_bytes, values_bytes}
use Rattle.vl_record.specs.Allowed.{last_key}
use Rattle.vl_record.specs.Reading.{◌>>=◌, Held, Rest, behind, body_at, body_of, file_at, header_at, held_at, key_at, many_at, next_part, number_at, number_within, pair_at, part_at, record_at, records_at, row_at, rows_at, text_is}
use Rattle.vl_record.specs.Grammar.{AreRecords, Content, EachNext, EndsAt, IsContent, IsNextPair, IsNextPart, IsRecord, all_parts, content_bytes, held_of}
use Rattle.vl_record.proofs.Numbers.{and_then, byte_again, number_again, rest, wide16, wide32, wide64}
use Rattle.vl_record.proofs.ReadBack.{Again, key_again, many_again, part_again, row_again, within_again}

-- the parts of a record stand in no order
pub moved : (catalog : Catalog) (shard : ℕ) (front other parts : List Part) → EachNext (IsNextPart catalog shard) front parts → EachNext (IsNextPart catalog shard) other parts
moved catalog shard front other [] each = tt
moved catalog shard front other (part ∷ parts) each = (each.0, moved catalog shard (front ++ part ∷ []) (other ++ part ∷ []) parts each.1)

body_again : (catalog : Catalog) (shard : ℕ) (front parts : List Part) → IsRecord catalog shard parts → Again (body_at catalog shard front) (body_bytes parts) (front ++ parts)
unfolding body_at
body_again catalog shard front parts is more offset b =
    let many = many_again (next_part catalog shard) part_bytes (IsNextPart catalog shard) (λ _ part allowed. part_again catalog shard part allowed) parts front
    (moved catalog shard [] front parts is.each) more (offset + length (number_bytes w16 (length parts))) b in
    and_then (number_within w16 1 65535) (λ count. many_at (next_part catalog shard) count.0 front count.1)
    (number_bytes w16 (length parts)) (flat_map part_bytes parts) more offset b (length parts) (front ++ parts)
    (within_again w16 (2 ^ 16) wide16 1 65535 (length parts) (omega (arith, is.few)) is.some is.few (flat_map part_bytes parts ++ more) offset b)
    many

record_again : (catalog : Catalog) (shard : ℕ) (front parts : List Part) → IsRecord catalog shard parts → Again (record_at catalog shard front) (record_bytes parts) (front ++ parts)
unfolding record_at
record_again catalog shard front parts is more offset b =
    let body = body_bytes parts in
    let inner = offset + length (number_bytes w32 (length body)) in
    let whole : nat_le (length body) (length (body ++ more)) ≡ true = le-leb _ _ (omega (arith, length-append body more)) in
    let read : body_at catalog shard front (rest body inner true) ≡ Ok (front ++ parts, rest [] (inner + length body) true)
    = subst (λ (bytes : List ℕ). body_at catalog shard front (rest bytes inner true) ≡ Ok (front ++ parts, rest [] (inner + length body) true)) (append-nil body) (body_again catalog shard front parts is [] inner true) in
    and_then (number_at w32 offset)
    (λ len. (body_at catalog shard front (body_of len.0 len.1) >>= λ parts. cond (eqb (length parts.1.bytes) 0 && nat_le len.0 (length len.1.bytes)) (Ok (parts.0, behind len.0 len.1)) (Err parts.1.offset)))
    (number_bytes w32 (length body)) body more offset b (length body) (front ++ parts)
    (number_again w32 (2 ^ 32) wide32 (length body) offset (body ++ more) offset b is.short)
    (rw (take_at body more (length body) refl, whole, read, drop_at body more (length body) refl) refl)

records_again : (catalog : Catalog) (shard : ℕ) (records : List (List Part)) (n : ℕ) (front : List Part) (gate : ℕ) (more : List ℕ) (offset : ℕ) (b : Bool)
    → length (records_bytes records) < n → AreRecords catalog shard records → gate ≢ open_gate
    → records_at catalog shard n front (rest (records_bytes records ++ gate ∷ more) offset b)
    ≡ Ok (front ++ all_parts records, rest (gate ∷ more) (offset + length (records_bytes records)) b)
unfolding records_at
records_again catalog shard records zero front gate more offset b lt are shut = absurd (omega (arith, lt))
records_again catalog shard [] (suc n) front gate more offset b lt are shut =
    let same : offset ≡ offset + 0 = omega arith in
    rw (byte_again gate offset more offset b, ne_eqb gate open_gate shut)
    (ap (λ (all : List Part). Ok (all, rest (gate ∷ more) offset b)) (sym (append-nil front)) ∙ ap (λ (k : ℕ). Ok (front ++ [], rest (gate ∷ more) k b)) same)
records_again catalog shard (parts ∷ records) (suc n) front gate more offset b lt are shut =
    let text = record_bytes parts in
    let others = records_bytes records in
    let cons : records_bytes (parts ∷ records) ≡ open_gate ∷ (text ++ others) = flat_map-cons (λ (parts : List Part). open_gate ∷ record_bytes parts) parts records in
    let long : length (records_bytes (parts ∷ records)) ≡ suc (length (text ++ others)) = ap length cons in
    let size : length (records_bytes (parts ∷ records)) ≡ suc (length text + length others) = omega (arith, long, length-append text others) in
    let again = records_again catalog shard records n (front ++ parts) gate more (offset + 1 + length text) b (omega (arith, lt, size)) are.1 shut in
    let one = record_again catalog shard front parts are.0 (others ++ gate ∷ more) (offset + 1) b in
    let place : offset + 1 + length text + length others ≡ offset + length (records_bytes (parts ∷ records)) = omega (arith, size) in
    let regroup : records_bytes (parts ∷ records) ++ gate ∷ more ≡ open_gate ∷ (text ++ (others ++ gate ∷ more))
    = ap (λ (bytes : List ℕ). bytes ++ gate ∷ more) cons ∙ ap (λ (bytes : List ℕ). open_gate ∷ bytes) (append_assoc text others (gate ∷ more)) in
    ap (λ (bytes : List ℕ). records_at catalog shard (suc n) front (rest bytes offset b)) regroup
    ∙ rw (byte_again open_gate offset (text ++ (others ++ gate ∷ more)) offset b, one, again)
    (ap (λ (all : List Part). Ok (all, rest (gate ∷ more) (offset + 1 + length text + length others) b)) (append_assoc front parts (all_parts records))
    ∙ ap (λ (k : ℕ). Ok (front ++ (parts ++ all_parts records), rest (gate ∷ more) k b)) place)

-- ---- the header and the rows

text_is_again : (bytes more : List ℕ) (offset : ℕ) (b : Bool) → text_is bytes (rest (bytes ++ more) offset b) ≡ Ok (rest more (offset + length bytes) b)
unfolding text_is number_within
text_is_again [] more offset b =
    let same : offset ≡ offset + 0 = omega arith in
    ap (λ (k : ℕ). Ok (rest more k b)) same
text_is_again (byte ∷ bytes) more offset b =
    let place : offset + 1 + length bytes ≡ offset + length (byte ∷ bytes) = omega arith in
    rw (byte_again byte offset (bytes ++ more) offset b, le-leb byte byte (omega arith), text_is_again bytes more (offset + 1) b, place) refl

pub header_text : ℕ → ℕ → ℕ → List ℕ
header_text shard epoch last_tx = mark ++ (number_bytes w32 shard ++ (number_bytes w64 epoch ++ number_bytes w64 last_tx))

header_again : (shard epoch last_tx : ℕ) → shard < 2 ^ 32 → epoch ≤ last_epoch → last_tx ≤ last_transaction
    → Again (header_at shard) (mark ++ (number_bytes w32 shard ++ (number_bytes w64 epoch ++ number_bytes w64 last_tx))) (epoch, last_tx)
unfolding header_at
header_again shard epoch last_tx fits epoch_fits last_fits more offset b =
    let s = number_bytes w32 shard in
    let e = number_bytes w64 epoch in
    let l = number_bytes w64 last_tx in
    let behind_mark = offset + length mark in
    let inner = and_then {X = ℕ} {Y = ℕ × ℕ} (number_within w32 shard shard)
    (λ number. (number_within w64 0 last_epoch number.1 >>= λ epoch. (number_within w64 0 last_transaction epoch.1 >>= λ last_tx. Ok ((epoch.0, last_tx.0), last_tx.1))))
    s (e ++ l) more behind_mark b shard (epoch, last_tx)
    (within_again w32 (2 ^ 32) wide32 shard shard shard fits (omega arith) (omega arith) ((e ++ l) ++ more) behind_mark b)
    (and_then {X = ℕ} {Y = ℕ × ℕ} (number_within w64 0 last_epoch) (λ epoch. (number_within w64 0 last_transaction epoch.1 >>= λ last_tx. Ok ((epoch.0, last_tx.0), last_tx.1)))
    e l more (behind_mark + length s) b epoch (epoch, last_tx)
    (within_again w64 (2 ^ 64) wide64 0 last_epoch epoch (omega (arith, epoch_fits)) (omega arith) epoch_fits (l ++ more) (behind_mark + length s) b)
    (rw (within_again w64 (2 ^ 64) wide64 0 last_transaction last_tx (omega (arith, last_fits)) (omega arith) last_fits more (behind_mark + length s + length e) b) refl)) in
    let place : behind_mark + length (s ++ (e ++ l)) ≡ offset + length (mark ++ (s ++ (e ++ l))) = omega (arith, length-append mark (s ++ (e ++ l))) in
    rw (append_assoc mark (s ++ (e ++ l)) more, text_is_again mark ((s ++ (e ++ l)) ++ more) offset b, inner, place) refl

pair_again : (catalog : Catalog) (shard : ℕ) (front : List (Key × List Value)) (pair : Key × List Value) → IsNextPair catalog shard front pair
    → Again (pair_at catalog shard front) (pair_bytes pair) pair
unfolding pair_at
pair_again catalog shard front pair is more offset b =
    and_then (key_at catalog shard (last_key front)) (λ key. (row_at catalog key.0 key.1 >>= λ row. Ok ((key.0, row.0), row.1)))
    (key_bytes pair.0) (values_bytes pair.1) more offset b pair.0 pair
    (key_again catalog shard (last_key front) pair.0 is.0 (values_bytes pair.1 ++ more) offset b)
    (rw (row_again catalog pair.0 pair.1 is.1 more (offset + length (key_bytes pair.0)) b) refl)

rows_again : (catalog : Catalog) (shard : ℕ) (pairs : List (Key × List Value)) → length pairs < 2 ^ 64 → EachNext (IsNextPair catalog shard) [] pairs
    → Again (rows_at catalog shard) (number_bytes w64 (length pairs) ++ flat_map pair_bytes pairs) pairs
unfolding rows_at
rows_again catalog shard pairs few each more offset b =
    and_then (number_at w64 offset) (λ count. many_at (pair_at catalog shard) count.0 [] count.1)
    (number_bytes w64 (length pairs)) (flat_map pair_bytes pairs) more offset b (length pairs) pairs
    (number_again w64 (2 ^ 64) wide64 (length pairs) offset (flat_map pair_bytes pairs ++ more) offset b few)
    (many_again (pair_at catalog shard) pair_bytes (IsNextPair catalog shard) (pair_again catalog shard) pairs [] each more (offset + length (number_bytes w64 (length pairs))) b)

-- ---- the file

first_size : (head rows header : List ℕ) → header ≡ head ++ rows → 1 + length head + length rows ≡ length (open_gate ∷ header)
first_size head rows header is = let size = ap length is in omega (arith, size, length-append head rows)

end_size : (head rows header records : List ℕ) → header ≡ head ++ rows → 1 + length head + length rows + length records ≡ length ((open_gate ∷ header) ++ records)
end_size head rows header records is = let size = ap length is in omega (arith, size, length-append head rows, length-append (open_gate ∷ header) records)

pub file_again : (catalog : Catalog) (shard : ℕ) (content : Content) (file : List ℕ) → IsContent catalog shard content → EndsAt (content_bytes shard content) file
    → file_at catalog shard file ≡ Ok (held_of shard content)
unfolding held_at
file_again catalog shard content file is ends =
    let numbers = number_bytes w32 shard ++ (number_bytes w64 content.epoch ++ number_bytes w64 content.last_tx) in
    let head = mark ++ numbers in
    let rows = number_bytes w64 (length content.rows) ++ flat_map pair_bytes content.rows in
    let records = records_bytes content.records in
    let tail = ends.gate ∷ ends.rest in
    let header : header_bytes shard content.epoch content.last_tx content.rows ≡ head ++ rows = simp append_assoc refl in
    let regroup : drop 1 file ≡ head ++ (rows ++ (records ++ tail))
    = ap (drop 1) ends.split ∙ (ap (λ (h : List ℕ). (h ++ records) ++ tail) header ∙ (append_assoc (head ++ rows) records tail ∙ append_assoc head rows (records ++ tail))) in
    let one = header_again shard content.epoch content.last_tx is.shard_fits is.epoch is.last_tx (rows ++ (records ++ tail)) 1 false in
    let two = rows_again catalog shard content.rows is.few is.rows (records ++ tail) (1 + length head) false in
    let three = records_again catalog shard content.records (length (records ++ tail)) [] ends.gate ends.rest (1 + length head + length rows) false
    (omega (arith, length-append records tail)) is.records ends.shut in
    let all = header_bytes shard content.epoch content.last_tx content.rows in
    let made : ℕ → ℕ → Result Held ℕ = λ first end. Ok (record { epoch = content.epoch; last_tx = content.last_tx; rows = content.rows; first = first; parts = all_parts content.records; end = end }) in
    rw (regroup, one, two, three)
    (ap (λ (k : ℕ). made k (1 + length head + length rows + length records)) (first_size head rows all header)
    ∙ ap (λ (k : ℕ). made (length (open_gate ∷ all)) k) (end_size head rows all records header))
