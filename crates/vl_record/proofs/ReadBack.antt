-- What was written is read again.
use Rattle.std.proofs.Common.{◌≡◌, ◌≢◌, ℕ, zero, suc, ◌+◌, ◌^◌, ◌<◌, ◌≤◌, ◌&&◌, ◌==◌, Bool, true, false, List, [], ◌∷◌, ◌++◌, length, take, drop, Option, Some, None, Result, Ok, Err, refl, sym, ap, subst, ◌∙◌, append_assoc, arith, cond, ltb, leb, eqb, eq-eqb}
use Rattle.std.specs.Prelude.{nat_le, slice_get}
use Rattle.std.specs.Int.{Width, w8, w16, w32, w64, byte_len, cast_signed, cast_unsigned}
use Rattle.std.specs.List.{flat_map}
use Rattle.std.proofs.lemmas.Bool.{le-leb, ne_eqb}
use Rattle.std.proofs.lemmas.List.{append-nil, take_at, drop_at, length-append}
use Rattle.std.proofs.lemmas.List.Concat.{flat_map-cons}
use Rattle.vl_values.specs.declared.group.Group.{Group}
use Rattle.vl_values.specs.declared.group.Group.TheVariants as groups
use Rattle.vl_values.specs.declared.key.Key.{Key}
use Rattle.vl_values.specs.declared.value.Value.{Value}
use Rattle.vl_values.specs.declared.value.Value.TheVariants.{Null, Int, Uint, Bytes}
use Rattle.vl_values.specs.Fit.{is_between}
use Rattle.vl_catalog.specs.declared.catalog.Catalog.{Catalog}
use Rattle.vl_catalog.specs.declared.change.Change.{Change}
use Rattle.vl_catalog.specs.declared.part.Part.{Part}
use Rattle.vl_catalog.specs.declared.table.Table.{Table}
use Rattle.vl_record.specs.Spelling.{body_bytes, change_bytes, group_byte, key_bytes, last_epoch, last_transaction, mark, new_row_bytes, number_bytes, pair_bytes, part_bytes, record_bytes, value_bytes, values_bytes}
use Rattle.vl_record.specs.Allowed.{column_at, fits, is_above, is_here, last_changed, last_key, width_of}
use Rattle.vl_record.specs.Reading.{◌>>=◌, Rest, body_at, change_at, group_at, group_of, key_at, key_in, many_at, new_row_at, new_row_of, next_part, next_value, number_at, number_within, pair_at, part_at, record_at, row_at, row_in, text_at, value_at, value_in, value_of_kind, values_at}
use Rattle.vl_record.specs.Grammar.{AreValues, EachNext, FitsField, IsNewRow, IsNextChange, IsNextKey, IsNextPair, IsNextPart, IsNextValue, IsPart, IsRecord, IsRowAt}
use Rattle.vl_record.proofs.Numbers.{IsWide, and_then, byte_again, number_again, rest, text_again, wide16, wide32, wide64}
use Rattle.vl_record.proofs.Signed.{signed_again}

abbrev pub Again : {X : Type 0} → (Rest → Result (X × Rest) ℕ) → List ℕ → X → Type 0
Again read text x = (more : List ℕ) (offset : ℕ) (b : Bool) → read (rest (text ++ more) offset b) ≡ Ok (x, rest more (offset + length text) b)

both : (a b : Bool) → a ≡ true → b ≡ true → (a && b) ≡ true
both a b one two = rw (one, two) refl

pub within_again : (w : Width) (limit : ℕ) (wide : IsWide w limit) (least most n : ℕ) → n < limit → least ≤ n → n ≤ most → Again (number_within w least most) (number_bytes w n) n
unfolding number_within
within_again w limit wide least most n lt low high more offset b =
    rw (number_again w limit wide n offset more offset b lt, le-leb least n low, le-leb n most high) refl

-- ---- so many

module _ {X : Type 0} (step : List X → Rest → Result (X × Rest) ℕ) (text : X → List ℕ) (P : List X → X → Type 0)
    (one : (front : List X) (x : X) → P front x → Again (step front) (text x) x) where
  pub many_again : (xs front : List X) → EachNext P front xs → Again (many_at step (length xs) front) (flat_map text xs) (front ++ xs)
  unfolding many_at
  many_again [] front each more offset b =
      let same : offset ≡ offset + 0 = omega arith in
      rw append-nil (ap (λ (k : ℕ). Ok (front, rest more k b)) same)
  many_again (x ∷ xs) front each more offset b =
      let others = many_again xs (front ++ x ∷ []) each.1 more (offset + length (text x)) b in
      let grown : (front ++ x ∷ []) ++ xs ≡ front ++ x ∷ xs = append_assoc front (x ∷ []) xs in
      rw flat_map-cons
      (and_then (step front) (λ a. many_at step (length xs) (front ++ a.0 ∷ []) a.1) (text x) (flat_map text xs) more offset b x (front ++ x ∷ xs)
      (one front x each.0 (flat_map text xs ++ more) offset b)
      (subst (λ (all : List X). many_at step (length xs) (front ++ x ∷ []) (rest (flat_map text xs ++ more) (offset + length (text x)) b) ≡ Ok (all, rest more (offset + length (text x) + length (flat_map text xs)) b)) grown others))

-- ---- values

pub value_again : (value : Value) → FitsField value → Again value_at (value_bytes value) value
unfolding value_at value_of_kind
value_again Null f more offset b = rw (byte_again 0 offset more offset b) refl
value_again (Int z) f more offset b =
    and_then (number_at w8 offset) (λ kind. value_of_kind kind.0 offset kind.1) (1 ∷ []) (number_bytes w64 (cast_unsigned w64 z)) more offset b 1 (Int z)
    (byte_again 1 offset (number_bytes w64 (cast_unsigned w64 z) ++ more) offset b)
    (rw (number_again w64 (2 ^ 64) wide64 (cast_unsigned w64 z) offset more (offset + 1) b (signed_again z f).0, (signed_again z f).1) refl)
value_again (Uint n) f more offset b =
    and_then (number_at w8 offset) (λ kind. value_of_kind kind.0 offset kind.1) (2 ∷ []) (number_bytes w64 n) more offset b 2 (Uint n)
    (byte_again 2 offset (number_bytes w64 n ++ more) offset b)
    (rw (number_again w64 (2 ^ 64) wide64 n offset more (offset + 1) b f) refl)
value_again (Bytes s) f more offset b =
    and_then (number_at w8 offset) (λ kind. value_of_kind kind.0 offset kind.1) (3 ∷ []) (number_bytes w32 (length s) ++ s) more offset b 3 (Bytes s)
    (byte_again 3 offset ((number_bytes w32 (length s) ++ s) ++ more) offset b)
    (and_then (number_at w32 offset) (λ n. (text_at n.0 offset n.1 >>= λ text. Ok (Bytes text.0, text.1))) (number_bytes w32 (length s)) s more (offset + 1) b (length s) (Bytes s)
    (number_again w32 (2 ^ 32) wide32 (length s) offset (s ++ more) (offset + 1) b f)
    (rw (text_again s offset more (offset + 1 + length (number_bytes w32 (length s))) b) refl))

pub next_value_again : (table : Table) (is_key : Bool) (front : List Value) (value : Value) → IsNextValue table is_key front value
    → Again (next_value table is_key front) (value_bytes value) value
unfolding value_in
next_value_again table is_key front value allowed more offset b =
    rw (value_again value allowed.0 more offset b, allowed.1) refl

pub values_again : (table : Table) (is_key : Bool) (values : List Value) → AreValues table is_key values → Again (values_at table is_key) (values_bytes values) values
unfolding values_at
values_again table is_key values are more offset b =
    let many = many_again (next_value table is_key) value_bytes (IsNextValue table is_key) (next_value_again table is_key) values [] are.held more (offset + length (number_bytes w16 (length values))) b in
    and_then (number_at w16 offset) (λ count. cond (eqb count.0 (width_of table is_key)) (many_at (next_value table is_key) count.0 [] count.1) (Err offset))
    (number_bytes w16 (length values)) (flat_map value_bytes values) more offset b (length values) values
    (number_again w16 (2 ^ 16) wide16 (length values) offset (flat_map value_bytes values ++ more) offset b are.few)
    (rw (eq-eqb (length values) (width_of table is_key) are.whole) many)

-- ---- keys and rows

pub key_again : (catalog : Catalog) (shard : ℕ) (before : Option Key) (key : Key) → IsNextKey catalog shard before key → Again (key_at catalog shard before) (key_bytes key) key
unfolding key_at key_in
key_again catalog shard before key is more offset b =
    let values = values_again is.table true key.pk is.values more (offset + length (number_bytes w32 key.table)) b in
    let allowed : (is_here catalog shard is.table key && is_above before key) ≡ true = both _ _ is.here is.above in
    and_then (number_at w32 offset) (λ number. key_in catalog shard before number.0 (slice_get catalog.tables number.0) offset number.1)
    (number_bytes w32 key.table) (values_bytes key.pk) more offset b key.table key
    (number_again w32 (2 ^ 32) wide32 key.table offset (values_bytes key.pk ++ more) offset b is.number)
    (rw (is.is_table, values, allowed) refl)

pub row_again : (catalog : Catalog) (key : Key) (row : List Value) → IsRowAt catalog key row → Again (row_at catalog key) (values_bytes row) row
unfolding row_in
row_again catalog key row is more offset b = rw (is.is_table, values_again is.table false row is.values more offset b, is.keyed) refl

pub new_row_again : (catalog : Catalog) (key : Key) (row : Option (List Value)) → IsNewRow catalog key row → Again (new_row_at catalog key) (new_row_bytes row) row
unfolding new_row_at new_row_of
new_row_again catalog key None is more offset b = rw (byte_again 0 offset more offset b) refl
new_row_again catalog key (Some row) is more offset b =
    and_then (number_at w8 offset) (λ kind. new_row_of catalog key kind.0 offset kind.1) (1 ∷ []) (values_bytes row) more offset b 1 (Some row)
    (byte_again 1 offset (values_bytes row ++ more) offset b)
    (rw (row_again catalog key row is more (offset + 1) b) refl)

pub change_again : (catalog : Catalog) (shard : ℕ) (front : List Change) (change : Change) → IsNextChange catalog shard front change
    → Again (change_at catalog shard front) (change_bytes change) change
unfolding change_at
change_again catalog shard front change is more offset b =
    and_then (key_at catalog shard (last_changed front)) (λ key. (new_row_at catalog key.0 key.1 >>= λ row. Ok (record { key = key.0; row = row.0 }, row.1)))
    (key_bytes change.key) (new_row_bytes change.row) more offset b change.key change
    (key_again catalog shard (last_changed front) change.key is.0 (new_row_bytes change.row ++ more) offset b)
    (rw (new_row_again catalog change.key change.row is.1 more (offset + length (key_bytes change.key)) b) refl)

-- ---- parts and records

pub group_again : (group : Group) → Again group_at (group_byte group ∷ []) group
unfolding group_at group_of
group_again groups.Pre more offset b = rw (byte_again 0 offset more offset b) refl
group_again groups.Main more offset b = rw (byte_again 1 offset more offset b) refl
group_again groups.Post more offset b = rw (byte_again 2 offset more offset b) refl

pub part_again : (catalog : Catalog) (shard : ℕ) (part : Part) → IsPart catalog shard part → Again (part_at catalog shard) (part_bytes part) part
unfolding part_at
part_again catalog shard part is more offset b =
    let count = number_bytes w32 (length part.changes) in
    let changes = flat_map change_bytes part.changes in
    let at1 = offset + length (number_bytes w64 part.tx) in
    let many = many_again (change_at catalog shard) change_bytes (IsNextChange catalog shard) (change_again catalog shard) part.changes [] is.changes more (at1 + 1 + length count) b in
    and_then (number_within w64 0 last_transaction)
    (λ tx. (group_at tx.1 >>= λ group. (number_at w32 group.1.offset group.1 >>= λ n. (many_at (change_at catalog shard) n.0 [] n.1 >>= λ changes. Ok (record { tx = tx.0; group = group.0; changes = changes.0 }, changes.1)))))
    (number_bytes w64 part.tx) (group_byte part.group ∷ (count ++ changes)) more offset b part.tx part
    (within_again w64 (2 ^ 64) wide64 0 last_transaction part.tx (omega (arith, is.tx)) (omega arith) is.tx ((group_byte part.group ∷ (count ++ changes)) ++ more) offset b)
    (and_then group_at
    (λ group. (number_at w32 group.1.offset group.1 >>= λ n. (many_at (change_at catalog shard) n.0 [] n.1 >>= λ changes. Ok (record { tx = part.tx; group = group.0; changes = changes.0 }, changes.1))))
    (group_byte part.group ∷ []) (count ++ changes) more at1 b part.group part
    (group_again part.group ((count ++ changes) ++ more) at1 b)
    (and_then (number_at w32 (at1 + 1))
    (λ n. (many_at (change_at catalog shard) n.0 [] n.1 >>= λ changes. Ok (record { tx = part.tx; group = part.group; changes = changes.0 }, changes.1)))
    count changes more (at1 + 1) b (length part.changes) part
    (number_again w32 (2 ^ 32) wide32 (length part.changes) (at1 + 1) (changes ++ more) (at1 + 1) b is.few)
    (rw many refl)))
