-- A file that is read is one of the format.
use Rattle.std.proofs.Common.{◌≡◌, ◌≢◌, ℕ, zero, suc, ◌+◌, ◌^◌, ◌<◌, ◌≤◌, ◌&&◌, Bool, true, false, List, [], ◌∷◌, ◌++◌, length, take, drop, get_or, Option, Some, None, Result, Ok, Err, refl, sym, ap, subst, ◌∙◌, append_assoc, arith, cond, eqb}
use Rattle.std.specs.Prelude.{nat_le, IfOk}
use Rattle.std.specs.Int.{w8, w16, w32, w64}
use Rattle.std.specs.List.{flat_map}
use Rattle.std.proofs.lemmas.Bool.{eqb-true, eqb-false, leb-true}
use Rattle.std.proofs.lemmas.List.{append-nil, take-append-drop, length-take, nil_from_length}
use Rattle.std.proofs.lemmas.List.Concat.{flat_map-cons}
use Rattle.vl_values.specs.declared.key.Key.{Key}
use Rattle.vl_values.specs.declared.value.Value.{Value}
use Rattle.vl_catalog.specs.declared.catalog.Catalog.{Catalog}
use Rattle.vl_catalog.specs.declared.part.Part.{Part}
use Rattle.vl_record.specs.declared.read_error.ReadError.{ReadError}
use Rattle.vl_record.specs.declared.held.Held.{Held as AHeld}
use Rattle.vl_record.specs.Spelling.{body_bytes, header_bytes, key_bytes, last_epoch, last_transaction, mark, number_bytes, open_gate, pair_bytes, part_bytes, record_bytes, records_bytes, values_bytes}
use Rattle.vl_record.specs.Allowed.{last_key}
use Rattle.vl_record.specs.Reading.{◌>>=◌, Held, Rest, behind, body_at, body_of, file_at, header_at, held_at, is_open, key_at, many_at, next_part, number_at, number_within, pair_at, part_at, record_at, records_at, row_at, rows_at, text_is}
use Rattle.vl_record.specs.Readers.{Gives, held_view}
use Rattle.vl_record.specs.Grammar.{AreRecords, Content, EachNext, EndsAt, IsContent, IsNextPair, IsNextPart, IsRecord, all_parts, content_bytes, held_of}
use Rattle.vl_record.specs.Stored.{IsHeldOf, Stores}
use Rattle.vl_record.proofs.Numbers.{rest}
use Rattle.vl_record.proofs.ReadFile.{file_again, moved}
use Rattle.vl_record.proofs.Taken.{IsBytes, Takes, TakesMany, bind_ok, both_true, byte_takes, bytes_drop, bytes_take, exact16, exact32, exact64, guard_then, key_takes, many_takes, number_takes, ok_is, part_takes, row_takes, takes_then, within}

-- ---- records

record TakesParts (catalog : Catalog) (shard : ℕ) (text : List Part → List ℕ) (P : List Part → Type 0) (front : List Part) (r : Rest) (x : List Part × Rest) : Type 0 where
  pub parts : List Part
  pub all : x.0 ≡ front ++ parts
  pub takes : Takes r (text parts) x.1
  pub are : P parts

record AreParts (catalog : Catalog) (shard : ℕ) (parts : List Part) : Type 0 where
  pub some : 1 ≤ length parts
  pub few : length parts ≤ 65535
  pub each : EachNext (IsNextPart catalog shard) [] parts

body_takes : (catalog : Catalog) (shard : ℕ) (front : List Part) (r : Rest) (x : List Part × Rest) → IsBytes r.bytes → body_at catalog shard front r ≡ Ok x
    → TakesParts catalog shard body_bytes (AreParts catalog shard) front r x
unfolding body_at
body_takes catalog shard front r x are e =
    let a = bind_ok (number_within w16 1 65535 r) (λ count. many_at (next_part catalog shard) count.0 front count.1) x e in
    let in_a = within w16 1 65535 r a.0 a.1 in
    let n = number_takes w16 (2 ^ 16) exact16 r.offset r a.0 are in_a.0 in
    let m = many_takes (next_part catalog shard) part_bytes (IsNextPart catalog shard) (part_takes catalog shard) a.0.0 front a.0.1 x n.0.fits a.2 in
    let both = takes_then r (number_bytes w16 a.0.0) a.0.1 (flat_map part_bytes m.xs) x.1 n.0 m.takes in
    record {
      parts = m.xs;
      all = m.all;
      takes = subst (λ (k : ℕ). Takes r (number_bytes w16 k ++ flat_map part_bytes m.xs) x.1) (sym m.count) both;
      are = record { some = omega (arith, m.count, in_a.1); few = omega (arith, m.count, in_a.2); each = moved catalog shard front [] m.xs m.each };
    }

-- a body that ends with its last part is all of its bytes
body_whole : (n : ℕ) (bytes text after : List ℕ) → n ≤ length bytes → take n bytes ≡ text ++ after → length after ≡ 0 → (take n bytes ≡ text) × (length text ≡ n)
body_whole n bytes text after le is none =
    let whole : take n bytes ≡ text = is ∙ (ap (λ (t : List ℕ). text ++ t) (nil_from_length after none) ∙ append-nil text) in
    let size = ap length whole in
    (whole, omega (arith, size, length-take n bytes, le))

record_takes : (catalog : Catalog) (shard : ℕ) (front : List Part) (r : Rest) (x : List Part × Rest) → IsBytes r.bytes → record_at catalog shard front r ≡ Ok x
    → TakesParts catalog shard record_bytes (IsRecord catalog shard) front r x
unfolding record_at
record_takes catalog shard front r x are e =
    let a = bind_ok (number_at w32 r.offset r)
    (λ len. (body_at catalog shard front (body_of len.0 len.1) >>= λ parts. cond (eqb (length parts.1.bytes) 0 && nat_le len.0 (length len.1.bytes)) (Ok (parts.0, behind len.0 len.1)) (Err parts.1.offset))) x e in
    let n = number_takes w32 (2 ^ 32) exact32 r.offset r a.0 are a.1 in
    let len = a.0.0 in
    let mid = a.0.1 in
    let b = bind_ok (body_at catalog shard front (body_of len mid))
    (λ parts. cond (eqb (length parts.1.bytes) 0 && nat_le len (length mid.bytes)) (Ok (parts.0, behind len mid)) (Err parts.1.offset)) x a.2 in
    let g = guard_then (eqb (length b.0.1.bytes) 0 && nat_le len (length mid.bytes)) b.0.1.offset (Ok (b.0.0, behind len mid)) x b.2 in
    let two = both_true (eqb (length b.0.1.bytes) 0) (nat_le len (length mid.bytes)) g.0 in
    let body = body_takes catalog shard front (body_of len mid) b.0 (bytes_take len mid.bytes n.0.fits) b.1 in
    let whole = body_whole len mid.bytes (body_bytes body.parts) b.0.1.bytes (leb-true _ _ two.1) body.takes.bytes (eqb-true _ _ two.0) in
    let inner : Takes mid (body_bytes body.parts) (behind len mid)
    = record { bytes = sym (take-append-drop len mid.bytes) ∙ ap (λ (t : List ℕ). t ++ drop len mid.bytes) whole.0; fits = bytes_drop len mid.bytes n.0.fits } in
    let both = takes_then r (number_bytes w32 len) mid (body_bytes body.parts) (behind len mid) n.0 inner in
    let sized : Takes r (record_bytes body.parts) (behind len mid)
    = subst (λ (k : ℕ). Takes r (number_bytes w32 k ++ body_bytes body.parts) (behind len mid)) (sym whole.1) both in
    subst (λ (y : List Part × Rest). TakesParts catalog shard record_bytes (IsRecord catalog shard) front r y) (ok_is (b.0.0, behind len mid) x g.1)
    (record {
      parts = body.parts;
      all = body.all;
      takes = sized;
      are = record { some = body.are.some; few = body.are.few; short = omega (arith, whole.1, n.1); each = body.are.each };
    })

record TakesRecords (catalog : Catalog) (shard : ℕ) (front : List Part) (r : Rest) (x : List Part × Rest) : Type 0 where
  pub records : List (List Part)
  pub all : x.0 ≡ front ++ all_parts records
  pub takes : Takes r (records_bytes records) x.1
  pub are : AreRecords catalog shard records
  pub gate : ℕ
  pub others : List ℕ
  pub left : x.1.bytes ≡ gate ∷ others
  pub shut : gate ≢ open_gate

records_by : (catalog : Catalog) (shard : ℕ) (n : ℕ) (front : List Part) (r : Rest) (gate : ℕ × Rest) (b : Bool) (x : List Part × Rest)
    → ((front : List Part) (r : Rest) (x : List Part × Rest) → IsBytes r.bytes → records_at catalog shard n front r ≡ Ok x → TakesRecords catalog shard front r x)
    → IsBytes r.bytes → Takes r (gate.0 ∷ []) gate.1 → eqb gate.0 open_gate ≡ b
    → cond b (record_at catalog shard front gate.1 >>= λ parts. records_at catalog shard n parts.0 parts.1) (Ok (front, r)) ≡ Ok x
    → TakesRecords catalog shard front r x
records_by catalog shard n front r gate true x again are t is e =
    let a = bind_ok (record_at catalog shard front gate.1) (λ parts. records_at catalog shard n parts.0 parts.1) x e in
    let one = record_takes catalog shard front gate.1 a.0 t.fits a.1 in
    let more = again a.0.0 a.0.1 x one.takes.fits a.2 in
    let text = record_bytes one.parts in
    let inner = takes_then gate.1 text a.0.1 (records_bytes more.records) x.1 one.takes more.takes in
    let whole = takes_then r (gate.0 ∷ []) gate.1 (text ++ records_bytes more.records) x.1 t inner in
    let cons : records_bytes (one.parts ∷ more.records) ≡ open_gate ∷ (text ++ records_bytes more.records)
    = flat_map-cons (λ (parts : List Part). open_gate ∷ record_bytes parts) one.parts more.records in
    let same : gate.0 ∷ (text ++ records_bytes more.records) ≡ records_bytes (one.parts ∷ more.records)
    = ap (λ (k : ℕ). k ∷ (text ++ records_bytes more.records)) (eqb-true _ _ is) ∙ sym cons in
    record {
      records = one.parts ∷ more.records;
      all = more.all ∙ (ap (λ (p : List Part). p ++ all_parts more.records) one.all ∙ append_assoc front one.parts (all_parts more.records));
      takes = subst (λ (t : List ℕ). Takes r t x.1) same whole;
      are = (one.are, more.are);
      gate = more.gate;
      others = more.others;
      left = more.left;
      shut = more.shut;
    }
records_by catalog shard n front r gate false x again are t is e =
    subst (λ (y : List Part × Rest). TakesRecords catalog shard front r y) (ok_is (front, r) x e)
    (record {
      records = [];
      all = sym (append-nil front);
      takes = record { bytes = refl; fits = are };
      are = tt;
      gate = gate.0;
      others = gate.1.bytes;
      left = t.bytes;
      shut = eqb-false _ _ is;
    })

records_take : (catalog : Catalog) (shard : ℕ) (n : ℕ) (front : List Part) (r : Rest) (x : List Part × Rest) → IsBytes r.bytes → records_at catalog shard n front r ≡ Ok x
    → TakesRecords catalog shard front r x
unfolding records_at
records_take catalog shard zero front r x are e = absurd cc
records_take catalog shard (suc n) front r x are e =
    let a = bind_ok (number_at w8 r.offset r)
    (λ gate. cond (eqb gate.0 open_gate) (record_at catalog shard front gate.1 >>= λ parts. records_at catalog shard n parts.0 parts.1) (Ok (front, r))) x e in
    records_by catalog shard n front r a.0 (eqb a.0.0 open_gate) x (records_take catalog shard n) are (byte_takes r.offset r a.0 are a.1).0 refl a.2

-- ---- the header and the rows

text_takes : (bytes : List ℕ) (r after : Rest) → IsBytes r.bytes → text_is bytes r ≡ Ok after → Takes r bytes after
unfolding text_is
text_takes [] r after are e = subst (λ (y : Rest). Takes r [] y) (ok_is r after e) (record { bytes = refl; fits = are })
text_takes (byte ∷ bytes) r after are e =
    let a = bind_ok (number_within w8 byte byte r) (λ first. text_is bytes first.1) after e in
    let in_a = within w8 byte byte r a.0 a.1 in
    let one = (byte_takes r.offset r a.0 are in_a.0).0 in
    let same : a.0.0 ≡ byte = omega (arith, in_a.1, in_a.2) in
    let more = text_takes bytes a.0.1 after one.fits a.2 in
    takes_then r (byte ∷ []) a.0.1 bytes after (subst (λ (k : ℕ). Takes r (k ∷ []) a.0.1) same one) more

record TakesHeader (shard : ℕ) (r : Rest) (x : (ℕ × ℕ) × Rest) : Type 0 where
  pub takes : Takes r (mark ++ (number_bytes w32 shard ++ (number_bytes w64 x.0.0 ++ number_bytes w64 x.0.1))) x.1
  pub shard_fits : shard < 2 ^ 32
  pub epoch : x.0.0 ≤ last_epoch
  pub last_tx : x.0.1 ≤ last_transaction

header_takes : (shard : ℕ) (r : Rest) (x : (ℕ × ℕ) × Rest) → IsBytes r.bytes → header_at shard r ≡ Ok x → TakesHeader shard r x
unfolding header_at
header_takes shard r x are e =
    let a = bind_ok (text_is mark r)
    (λ body. (number_within w32 shard shard body >>= λ number. (number_within w64 0 last_epoch number.1 >>= λ epoch. (number_within w64 0 last_transaction epoch.1 >>= λ last_tx. Ok ((epoch.0, last_tx.0), last_tx.1))))) x e in
    let ta = text_takes mark r a.0 are a.1 in
    let b = bind_ok (number_within w32 shard shard a.0)
    (λ number. (number_within w64 0 last_epoch number.1 >>= λ epoch. (number_within w64 0 last_transaction epoch.1 >>= λ last_tx. Ok ((epoch.0, last_tx.0), last_tx.1)))) x a.2 in
    let in_b = within w32 shard shard a.0 b.0 b.1 in
    let tb = number_takes w32 (2 ^ 32) exact32 a.0.offset a.0 b.0 ta.fits in_b.0 in
    let same : b.0.0 ≡ shard = omega (arith, in_b.1, in_b.2) in
    let c = bind_ok (number_within w64 0 last_epoch b.0.1)
    (λ epoch. (number_within w64 0 last_transaction epoch.1 >>= λ last_tx. Ok ((epoch.0, last_tx.0), last_tx.1))) x b.2 in
    let in_c = within w64 0 last_epoch b.0.1 c.0 c.1 in
    let tc = number_takes w64 (2 ^ 64) exact64 b.0.1.offset b.0.1 c.0 tb.0.fits in_c.0 in
    let d = bind_ok (number_within w64 0 last_transaction c.0.1) (λ last_tx. Ok ((c.0.0, last_tx.0), last_tx.1)) x c.2 in
    let in_d = within w64 0 last_transaction c.0.1 d.0 d.1 in
    let td = number_takes w64 (2 ^ 64) exact64 c.0.1.offset c.0.1 d.0 tc.0.fits in_d.0 in
    let cd = takes_then b.0.1 (number_bytes w64 c.0.0) c.0.1 (number_bytes w64 d.0.0) d.0.1 tc.0 td.0 in
    let numbered : Takes a.0 (number_bytes w32 shard) b.0.1 = subst (λ (k : ℕ). Takes a.0 (number_bytes w32 k) b.0.1) same tb.0 in
    let bd = takes_then a.0 (number_bytes w32 shard) b.0.1 (number_bytes w64 c.0.0 ++ number_bytes w64 d.0.0) d.0.1 numbered cd in
    let whole = takes_then r mark a.0 (number_bytes w32 shard ++ (number_bytes w64 c.0.0 ++ number_bytes w64 d.0.0)) d.0.1 ta bd in
    subst (λ (y : (ℕ × ℕ) × Rest). TakesHeader shard r y) (ok_is ((c.0.0, d.0.0), d.0.1) x d.2)
    (record { takes = whole; shard_fits = omega (arith, same, tb.1); epoch = in_c.2; last_tx = in_d.2 })

pair_takes : (catalog : Catalog) (shard : ℕ) (front : List (Key × List Value)) (r : Rest) (x : (Key × List Value) × Rest) → IsBytes r.bytes → pair_at catalog shard front r ≡ Ok x
    → Takes r (pair_bytes x.0) x.1 × IsNextPair catalog shard front x.0
unfolding pair_at
pair_takes catalog shard front r x are e =
    let a = bind_ok (key_at catalog shard (last_key front) r) (λ key. (row_at catalog key.0 key.1 >>= λ row. Ok ((key.0, row.0), row.1))) x e in
    let k = key_takes catalog shard (last_key front) r a.0 are a.1 in
    let b = bind_ok (row_at catalog a.0.0 a.0.1) (λ row. Ok ((a.0.0, row.0), row.1)) x a.2 in
    let w = row_takes catalog a.0.0 a.0.1 b.0 k.0.fits b.1 in
    subst (λ (y : (Key × List Value) × Rest). Takes r (pair_bytes y.0) y.1 × IsNextPair catalog shard front y.0) (ok_is ((a.0.0, b.0.0), b.0.1) x b.2)
    (takes_then r (key_bytes a.0.0) a.0.1 (values_bytes b.0.0) b.0.1 k.0 w.0, (k.1, w.1))

record TakesRows (catalog : Catalog) (shard : ℕ) (r : Rest) (x : List (Key × List Value) × Rest) : Type 0 where
  pub takes : Takes r (number_bytes w64 (length x.0) ++ flat_map pair_bytes x.0) x.1
  pub few : length x.0 < 2 ^ 64
  pub each : EachNext (IsNextPair catalog shard) [] x.0

rows_take : (catalog : Catalog) (shard : ℕ) (r : Rest) (x : List (Key × List Value) × Rest) → IsBytes r.bytes → rows_at catalog shard r ≡ Ok x → TakesRows catalog shard r x
unfolding rows_at
rows_take catalog shard r x are e =
    let a = bind_ok (number_at w64 r.offset r) (λ count. many_at (pair_at catalog shard) count.0 [] count.1) x e in
    let n = number_takes w64 (2 ^ 64) exact64 r.offset r a.0 are a.1 in
    let m = many_takes (pair_at catalog shard) pair_bytes (IsNextPair catalog shard) (pair_takes catalog shard) a.0.0 [] a.0.1 x n.0.fits a.2 in
    let both = takes_then r (number_bytes w64 a.0.0) a.0.1 (flat_map pair_bytes m.xs) x.1 n.0 m.takes in
    let sized : Takes r (number_bytes w64 (length m.xs) ++ flat_map pair_bytes m.xs) x.1
    = subst (λ (k : ℕ). Takes r (number_bytes w64 k ++ flat_map pair_bytes m.xs) x.1) (sym m.count) both in
    subst (λ (rows : List (Key × List Value)). TakesRows catalog shard r (rows, x.1)) (sym m.all)
    (record { takes = sized; few = omega (arith, n.1, m.count); each = m.each })

-- ---- the file

tail_of : (file : List ℕ) → is_open file ≡ true → file ≡ open_gate ∷ drop 1 file
tail_of [] is = absurd cc
tail_of (gate ∷ []) is = absurd cc
tail_of (gate ∷ next ∷ others) is = ap (λ (k : ℕ). k ∷ (next ∷ others)) (eqb-true _ _ is)

pub file_takes : (catalog : Catalog) (shard : ℕ) (file : List ℕ) (held : Held) → IsBytes file → is_open file ≡ true → file_at catalog shard file ≡ Ok held
    → IsHeldOf catalog shard file held
unfolding held_at
file_takes catalog shard file held are is e =
    let r : Rest = rest (drop 1 file) 1 false in
    let made : ℕ → ℕ → List (Key × List Value) → ℕ → List Part → ℕ → Held = λ epoch last_tx rows first parts end. record { epoch = epoch; last_tx = last_tx; rows = rows; first = first; parts = parts; end = end } in
    let a = bind_ok (header_at shard r)
    (λ numbers. (rows_at catalog shard numbers.1 >>= λ rows. (records_at catalog shard (length rows.1.bytes) [] rows.1 >>= λ parts. Ok (made numbers.0.0 numbers.0.1 rows.0 rows.1.offset parts.0 parts.1.offset)))) held e in
    let h = header_takes shard r a.0 (λ i. subst (λ (f : List ℕ). get_or f (suc i) 0 < 256) (tail_of file is) (are (suc i))) a.1 in
    let b = bind_ok (rows_at catalog shard a.0.1)
    (λ rows. (records_at catalog shard (length rows.1.bytes) [] rows.1 >>= λ parts. Ok (made a.0.0.0 a.0.0.1 rows.0 rows.1.offset parts.0 parts.1.offset))) held a.2 in
    let w = rows_take catalog shard a.0.1 b.0 h.takes.fits b.1 in
    let c = bind_ok (records_at catalog shard (length b.0.1.bytes) [] b.0.1)
    (λ parts. Ok (made a.0.0.0 a.0.0.1 b.0.0 b.0.1.offset parts.0 parts.1.offset)) held b.2 in
    let t = records_take catalog shard (length b.0.1.bytes) [] b.0.1 c.0 w.takes.fits c.1 in
    let content : Content = record { epoch = a.0.0.0; last_tx = a.0.0.1; rows = b.0.0; records = t.records } in
    let allowed : IsContent catalog shard content
    = record { shard_fits = h.shard_fits; epoch = h.epoch; last_tx = h.last_tx; few = w.few; rows = w.each; records = t.are } in
    let numbers = number_bytes w32 shard ++ (number_bytes w64 a.0.0.0 ++ number_bytes w64 a.0.0.1) in
    let head = mark ++ numbers in
    let rows = number_bytes w64 (length b.0.0) ++ flat_map pair_bytes b.0.0 in
    let records = records_bytes t.records in
    let tail = t.gate ∷ t.others in
    let header : header_bytes shard a.0.0.0 a.0.0.1 b.0.0 ≡ head ++ rows = simp append_assoc refl in
    let rows_tail : a.0.1.bytes ≡ rows ++ (records ++ tail) = w.takes.bytes ∙ ap (λ (x : List ℕ). rows ++ x) (t.takes.bytes ∙ ap (λ (x : List ℕ). records ++ x) t.left) in
    let spelled : drop 1 file ≡ head ++ (rows ++ (records ++ tail)) = h.takes.bytes ∙ ap (λ (x : List ℕ). head ++ x) rows_tail in
    let regroup : head ++ (rows ++ (records ++ tail)) ≡ (header_bytes shard a.0.0.0 a.0.0.1 b.0.0 ++ records) ++ tail
    = sym (ap (λ (h : List ℕ). (h ++ records) ++ tail) header ∙ (append_assoc (head ++ rows) records tail ∙ append_assoc head rows (records ++ tail))) in
    let ends : EndsAt (content_bytes shard content) file
    = record { gate = t.gate; rest = t.others; split = tail_of file is ∙ ap (λ (x : List ℕ). open_gate ∷ x) (spelled ∙ regroup); shut = t.shut } in
    record {
      content = content;
      stores = record { is = allowed; ends = ends };
      is = ok_is held (held_of shard content) (sym e ∙ file_again catalog shard content file allowed ends);
    }

pub is_held : (catalog : Catalog) (shard : ℕ) (file : List ℕ) (result : Result AHeld ReadError) → IsBytes file → is_open file ≡ true
    → Gives held_view result (file_at catalog shard file) → IfOk result (λ held. IsHeldOf catalog shard file (held_view held))
is_held catalog shard file (Ok held) are is gives = file_takes catalog shard file (held_view held) are is gives
is_held catalog shard file (Err error) are is gives = tt
