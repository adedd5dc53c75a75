-- What is read is spelled so, and is allowed.
use Rattle.std.proofs.Common.{FitsSigned, ◌≡◌, ◌≢◌, ℕ, zero, suc, ◌+◌, ◌^◌, ◌<◌, ◌≤◌, ◌&&◌, Bool, true, false, List, [], ◌∷◌, ◌++◌, length, take, drop, get_or, Option, Some, None, Result, Ok, Err, refl, sym, ap, subst, ◌∙◌, append_assoc, arith, cond, ltb, eqb, inl, inr}
use Rattle.std.specs.Prelude.{nat_le, slice_get}
use Rattle.std.specs.Int.{Width, w8, w16, w32, w64, byte_len, cast_signed, cast_unsigned, from_le_bytes}
use Rattle.std.specs.List.{flat_map}
use Rattle.vl_record.proofs.Signed.{signed_fits}
use Rattle.std.proofs.lemmas.Bool.{cases_lt, eqb-true, leb-true, ltb-false}
use Rattle.std.proofs.lemmas.Int.{of_z-to_z}
use Rattle.std.proofs.lemmas.List.{append-nil, take-append-drop, length-take, get_or-drop, get_or-take, get_or_past}
use Rattle.std.proofs.lemmas.List.Concat.{flat_map-cons}
use Rattle.std.proofs.lemmas.Nat.{le_bytes_2, le_bytes_4, le_bytes_8}
use Rattle.vl_values.specs.declared.group.Group.{Group}
use Rattle.vl_values.specs.declared.group.Group.TheVariants as groups
use Rattle.vl_values.specs.declared.key.Key.{Key}
use Rattle.vl_values.specs.declared.value.Value.{Value}
use Rattle.vl_values.specs.declared.value.Value.TheVariants.{Null, Int, Uint, Bytes}
use Rattle.vl_catalog.specs.declared.catalog.Catalog.{Catalog}
use Rattle.vl_catalog.specs.declared.change.Change.{Change}
use Rattle.vl_catalog.specs.declared.part.Part.{Part}
use Rattle.vl_catalog.specs.declared.table.Table.{Table}
use Rattle.vl_record.specs.Spelling.{change_bytes, group_byte, key_bytes, last_transaction, new_row_bytes, number_bytes, part_bytes, value_bytes, values_bytes}
use Rattle.vl_record.specs.Allowed.{column_at, fits, has_key, is_above, is_here, last_changed, width_of}
use Rattle.vl_record.specs.Reading.{◌>>=◌, Rest, behind, change_at, cut_at, group_at, group_of, key_at, key_in, many_at, new_row_at, new_row_of, next_value, number_at, number_within, part_at, row_at, row_in, text_at, value_at, value_in, value_of_kind, values_at}
use Rattle.vl_record.specs.Grammar.{AreValues, EachNext, FitsField, IsNewRow, IsNextChange, IsNextKey, IsNextValue, IsPart, IsRowAt}
use Rattle.vl_record.proofs.Numbers.{byte_again, rest}

abbrev pub IsBytes : List ℕ → Type 0
IsBytes bytes = (i : ℕ) → get_or bytes i 0 < 256

pub bytes_drop : (n : ℕ) (bytes : List ℕ) → IsBytes bytes → IsBytes (drop n bytes)
bytes_drop n bytes h i = rw get_or-drop (h (n + i))

pub bytes_take : (n : ℕ) (bytes : List ℕ) → IsBytes bytes → IsBytes (take n bytes)
bytes_take n bytes h i =
    elim (cases_lt i n) [
      | inl lt ↦ rw (get_or-take n bytes i 0 lt) (h i)
      | inr le ↦ rw (get_or_past (take n bytes) i 0 (omega (arith, length-take n bytes))) (omega arith)
    ]

-- the value of a step that did not fail
pub bind_ok : {A B : Type 0} (r : Result A ℕ) (f : A → Result B ℕ) (y : B) → (r >>= f) ≡ Ok y → (x : A) × (r ≡ Ok x) × (f x ≡ Ok y)
bind_ok (Ok x) f y e = (x, refl, e)
bind_ok (Err d) f y e = absurd cc

abbrev done : {A : Type 0} → A → Result A ℕ
done x = Ok x

pub ok_is : {A : Type 0} (x y : A) → done x ≡ done y → x ≡ y
ok_is x y e = cc

-- tests that did not fail
guard_else : {A : Type 0} (b : Bool) (d : ℕ) (x y : A) → cond b (Err d) (Ok x) ≡ Ok y → (b ≡ false) × (x ≡ y)
guard_else true d x y e = absurd cc
guard_else false d x y e = (refl, cc)

pub guard_then : {A : Type 0} (b : Bool) (d : ℕ) (r : Result A ℕ) (y : A) → cond b r (Err d) ≡ Ok y → (b ≡ true) × (r ≡ Ok y)
guard_then true d r y e = (refl, e)
guard_then false d r y e = absurd cc

pub both_true : (a b : Bool) → (a && b) ≡ true → (a ≡ true) × (b ≡ true)
both_true true b e = (refl, e)
both_true false b e = absurd cc

-- this text was read, and these bytes are left
pub record Takes (r : Rest) (text : List ℕ) (after : Rest) : Type 0 where
  pub bytes : r.bytes ≡ text ++ after.bytes
  pub fits : IsBytes after.bytes

pub takes_then : (r : Rest) (x : List ℕ) (mid : Rest) (y : List ℕ) (after : Rest) → Takes r x mid → Takes mid y after → Takes r (x ++ y) after
takes_then r x mid y after p q = record {
  bytes = p.bytes ∙ (ap (λ (t : List ℕ). x ++ t) q.bytes ∙ sym (append_assoc x y after.bytes));
  fits = q.fits;
}

-- ---- numbers and texts

pub record IsExact (w : Width) (limit : ℕ) : Type 0 where
  pub back : (bytes : List ℕ) → length bytes ≡ byte_len w → IsBytes bytes → number_bytes w (from_le_bytes w bytes) ≡ bytes
  pub below : (bytes : List ℕ) → IsBytes bytes → from_le_bytes w bytes < limit

pub exact16 : IsExact w16 (2 ^ 16)
unfolding number_bytes
exact16 = record {
  back = λ bytes len fits. le_bytes_2 bytes _ len fits refl;
  below = λ bytes fits. omega (arith, fits 0, fits 1);
}

pub exact32 : IsExact w32 (2 ^ 32)
unfolding number_bytes
exact32 = record {
  back = λ bytes len fits. le_bytes_4 bytes _ len fits refl;
  below = λ bytes fits. omega (arith, fits 0, fits 1, fits 2, fits 3);
}

pub exact64 : IsExact w64 (2 ^ 64)
unfolding number_bytes
exact64 = record {
  back = λ bytes len fits. le_bytes_8 bytes _ len fits refl;
  below = λ bytes fits. omega (arith, fits 0, fits 1, fits 2, fits 3, fits 4, fits 5, fits 6, fits 7);
}

pub number_takes : (w : Width) (limit : ℕ) (exact : IsExact w limit) (first : ℕ) (r : Rest) (x : ℕ × Rest) → IsBytes r.bytes
    → number_at w first r ≡ Ok x → Takes r (number_bytes w x.0) x.1 × (x.0 < limit)
number_takes w limit exact first r x are e =
    let front = take (byte_len w) r.bytes in
    let made : ℕ × Rest = (from_le_bytes w front, behind (byte_len w) r) in
    let g = guard_else (ltb (length r.bytes) (byte_len w)) (cut_at first r) made x e in
    let long : byte_len w ≤ length r.bytes = ltb-false _ _ g.0 in
    let few = bytes_take (byte_len w) r.bytes are in
    let back : number_bytes w (from_le_bytes w front) ≡ front = exact.back front (omega (arith, length-take (byte_len w) r.bytes)) few in
    subst (λ (y : ℕ × Rest). Takes r (number_bytes w y.0) y.1 × (y.0 < limit)) g.1
    (record { bytes = rw back (sym (take-append-drop (byte_len w) r.bytes)); fits = bytes_drop (byte_len w) r.bytes are }, exact.below front few)

byte_in : (first : ℕ) (bytes : List ℕ) (offset : ℕ) (b : Bool) (x : ℕ × Rest) → IsBytes bytes
    → number_at w8 first (rest bytes offset b) ≡ Ok x → Takes (rest bytes offset b) (x.0 ∷ []) x.1 × (x.0 < 256)
byte_in first [] offset b x are e = absurd cc
byte_in first (n ∷ bytes) offset b x are e =
    subst (λ (y : ℕ × Rest). Takes (rest (n ∷ bytes) offset b) (y.0 ∷ []) y.1 × (y.0 < 256))
    (ok_is (n, rest bytes (offset + 1) b) x (sym (byte_again n first bytes offset b) ∙ e))
    (record { bytes = refl; fits = λ i. are (suc i) }, are 0)

pub byte_takes : (first : ℕ) (r : Rest) (x : ℕ × Rest) → IsBytes r.bytes → number_at w8 first r ≡ Ok x → Takes r (x.0 ∷ []) x.1 × (x.0 < 256)
byte_takes first r x are e = byte_in first r.bytes r.offset r.is_body x are e

-- a number within its bounds
pub within : (w : Width) (least most : ℕ) (r : Rest) (x : ℕ × Rest) → number_within w least most r ≡ Ok x
    → (number_at w r.offset r ≡ Ok x) × (least ≤ x.0) × (x.0 ≤ most)
unfolding number_within
within w least most r x e =
    let a = bind_ok (number_at w r.offset r) (λ n. cond (nat_le least n.0 && nat_le n.0 most) (Ok n) (Err r.offset)) x e in
    let g = guard_then (nat_le least a.0.0 && nat_le a.0.0 most) r.offset (Ok a.0) x a.2 in
    let same : a.0 ≡ x = ok_is a.0 x g.1 in
    let two = both_true (nat_le least a.0.0) (nat_le a.0.0 most) g.0 in
    subst (λ (y : ℕ × Rest). (number_at w r.offset r ≡ Ok y) × (least ≤ y.0) × (y.0 ≤ most)) same (a.1, leb-true _ _ two.0, leb-true _ _ two.1)

text_takes : (n first : ℕ) (r : Rest) (x : List ℕ × Rest) → IsBytes r.bytes → text_at n first r ≡ Ok x → Takes r x.0 x.1 × (length x.0 ≡ n)
text_takes n first r x are e =
    let made : List ℕ × Rest = (take n r.bytes, behind n r) in
    let g = guard_else (ltb (length r.bytes) n) (cut_at first r) made x e in
    let long : n ≤ length r.bytes = ltb-false _ _ g.0 in
    subst (λ (y : List ℕ × Rest). Takes r y.0 y.1 × (length y.0 ≡ n)) g.1
    (record { bytes = sym (take-append-drop n r.bytes); fits = bytes_drop n r.bytes are }, omega (arith, length-take n r.bytes))

-- ---- values

kind_takes : (kind first : ℕ) (r mid : Rest) (x : Value × Rest) → Takes r (kind ∷ []) mid → value_of_kind kind first mid ≡ Ok x
    → Takes r (value_bytes x.0) x.1 × FitsField x.0
unfolding value_of_kind
kind_takes zero first r mid x t e =
    subst (λ (y : Value × Rest). Takes r (value_bytes y.0) y.1 × FitsField y.0) (ok_is (Null, mid) x e) (t, tt)
kind_takes (suc zero) first r mid x t e =
    let a = bind_ok (number_at w64 first mid) (λ n. Ok (Int (cast_signed w64 n.0), n.1)) x e in
    let n = number_takes w64 (2 ^ 64) exact64 first mid a.0 t.fits a.1 in
    let again : cast_unsigned w64 (cast_signed w64 a.0.0) ≡ a.0.0 = of_z-to_z w64 a.0.0 n.1 in
    let both = takes_then r (1 ∷ []) mid (number_bytes w64 a.0.0) a.0.1 t n.0 in
    let signed : FitsSigned w64 (cast_signed w64 a.0.0) = signed_fits a.0.0 n.1 in
    subst (λ (y : Value × Rest). Takes r (value_bytes y.0) y.1 × FitsField y.0) (ok_is (Int (cast_signed w64 a.0.0), a.0.1) x a.2)
    (subst (λ (k : ℕ). Takes r (1 ∷ number_bytes w64 k) a.0.1) (sym again) both, signed)
kind_takes (suc (suc zero)) first r mid x t e =
    let a = bind_ok (number_at w64 first mid) (λ n. Ok (Uint n.0, n.1)) x e in
    let n = number_takes w64 (2 ^ 64) exact64 first mid a.0 t.fits a.1 in
    subst (λ (y : Value × Rest). Takes r (value_bytes y.0) y.1 × FitsField y.0) (ok_is (Uint a.0.0, a.0.1) x a.2)
    (takes_then r (2 ∷ []) mid (number_bytes w64 a.0.0) a.0.1 t n.0, n.1)
kind_takes (suc (suc (suc zero))) first r mid x t e =
    let a = bind_ok (number_at w32 first mid) (λ n. (text_at n.0 first n.1 >>= λ text. Ok (Bytes text.0, text.1))) x e in
    let n = number_takes w32 (2 ^ 32) exact32 first mid a.0 t.fits a.1 in
    let b = bind_ok (text_at a.0.0 first a.0.1) (λ text. Ok (Bytes text.0, text.1)) x a.2 in
    let s = text_takes a.0.0 first a.0.1 b.0 n.0.fits b.1 in
    let inner = takes_then mid (number_bytes w32 a.0.0) a.0.1 b.0.0 b.0.1 n.0 s.0 in
    let sized : Takes mid (number_bytes w32 (length b.0.0) ++ b.0.0) b.0.1
    = subst (λ (k : ℕ). Takes mid (number_bytes w32 k ++ b.0.0) b.0.1) (sym s.1) inner in
    subst (λ (y : Value × Rest). Takes r (value_bytes y.0) y.1 × FitsField y.0) (ok_is (Bytes b.0.0, b.0.1) x b.2)
    (takes_then r (3 ∷ []) mid (number_bytes w32 (length b.0.0) ++ b.0.0) b.0.1 t sized, omega (arith, s.1, n.1))
kind_takes (suc (suc (suc (suc kind)))) first r mid x t e = absurd cc

value_takes : (r : Rest) (x : Value × Rest) → IsBytes r.bytes → value_at r ≡ Ok x → Takes r (value_bytes x.0) x.1 × FitsField x.0
unfolding value_at
value_takes r x are e =
    let a = bind_ok (number_at w8 r.offset r) (λ kind. value_of_kind kind.0 r.offset kind.1) x e in
    kind_takes a.0.0 r.offset r a.0.1 x (byte_takes r.offset r a.0 are a.1).0 a.2

next_value_takes : (table : Table) (is_key : Bool) (front : List Value) (r : Rest) (x : Value × Rest) → IsBytes r.bytes
    → next_value table is_key front r ≡ Ok x → Takes r (value_bytes x.0) x.1 × IsNextValue table is_key front x.0
unfolding value_in
next_value_takes table is_key front r x are e =
    let column = column_at table is_key (length front) in
    let a = bind_ok (value_at r) (λ value. cond (fits column value.0) (Ok value) (Err r.offset)) x e in
    let v = value_takes r a.0 are a.1 in
    let g = guard_then (fits column a.0.0) r.offset (Ok a.0) x a.2 in
    subst (λ (y : Value × Rest). Takes r (value_bytes y.0) y.1 × IsNextValue table is_key front y.0) (ok_is a.0 x g.1) (v.0, (v.1, g.0))

-- ---- so many

pub record TakesMany {X : Type 0} (text : X → List ℕ) (P : List X → X → Type 0) (n : ℕ) (front : List X) (r : Rest) (x : List X × Rest) : Type 0 where
  pub xs : List X
  pub all : x.0 ≡ front ++ xs
  pub count : length xs ≡ n
  pub each : EachNext P front xs
  pub takes : Takes r (flat_map text xs) x.1

module _ {X : Type 0} (step : List X → Rest → Result (X × Rest) ℕ) (text : X → List ℕ) (P : List X → X → Type 0)
    (one : (front : List X) (r : Rest) (x : X × Rest) → IsBytes r.bytes → step front r ≡ Ok x → Takes r (text x.0) x.1 × P front x.0) where
  pub many_takes : (n : ℕ) (front : List X) (r : Rest) (x : List X × Rest) → IsBytes r.bytes → many_at step n front r ≡ Ok x → TakesMany text P n front r x
  unfolding many_at
  many_takes zero front r x are e =
      subst (λ (y : List X × Rest). TakesMany text P zero front r y) (ok_is (front, r) x e)
      (record { xs = []; all = sym (append-nil front); count = refl; each = tt; takes = record { bytes = refl; fits = are } })
  many_takes (suc n) front r x are e =
      let a = bind_ok (step front r) (λ a. many_at step n (front ++ a.0 ∷ []) a.1) x e in
      let o = one front r a.0 are a.1 in
      let m = many_takes n (front ++ a.0.0 ∷ []) a.0.1 x o.0.fits a.2 in
      record {
        xs = a.0.0 ∷ m.xs;
        all = m.all ∙ append_assoc front (a.0.0 ∷ []) m.xs;
        count = ap suc m.count;
        each = (o.1, m.each);
        takes = rw flat_map-cons (takes_then r (text a.0.0) a.0.1 (flat_map text m.xs) x.1 o.0 m.takes);
      }

pub values_take : (table : Table) (is_key : Bool) (r : Rest) (x : List Value × Rest) → IsBytes r.bytes → values_at table is_key r ≡ Ok x
    → Takes r (values_bytes x.0) x.1 × AreValues table is_key x.0
unfolding values_at
values_take table is_key r x are e =
    let a = bind_ok (number_at w16 r.offset r) (λ count. cond (eqb count.0 (width_of table is_key)) (many_at (next_value table is_key) count.0 [] count.1) (Err r.offset)) x e in
    let n = number_takes w16 (2 ^ 16) exact16 r.offset r a.0 are a.1 in
    let g = guard_then (eqb a.0.0 (width_of table is_key)) r.offset (many_at (next_value table is_key) a.0.0 [] a.0.1) x a.2 in
    let m = many_takes (next_value table is_key) value_bytes (IsNextValue table is_key) (next_value_takes table is_key) a.0.0 [] a.0.1 x n.0.fits g.1 in
    let both = takes_then r (number_bytes w16 a.0.0) a.0.1 (flat_map value_bytes m.xs) x.1 n.0 m.takes in
    subst (λ (vs : List Value). Takes r (values_bytes vs) x.1 × AreValues table is_key vs) (sym m.all) (
      subst (λ (k : ℕ). Takes r (number_bytes w16 k ++ flat_map value_bytes m.xs) x.1) (sym m.count) both,
      record { whole = m.count ∙ eqb-true _ _ g.0; few = omega (arith, n.1, m.count); held = m.each },
    )

-- ---- keys and rows

key_by : (catalog : Catalog) (shard : ℕ) (before : Option Key) (number : ℕ) (table : Option Table) (first : ℕ) (r mid : Rest) (x : Key × Rest)
    → slice_get catalog.tables number ≡ table → number < 2 ^ 32 → Takes r (number_bytes w32 number) mid
    → key_in catalog shard before number table first mid ≡ Ok x → Takes r (key_bytes x.0) x.1 × IsNextKey catalog shard before x.0
unfolding key_in
key_by catalog shard before number None first r mid x is lt t e = absurd cc
key_by catalog shard before number (Some table) first r mid x is lt t e =
    let key : List Value → Key = λ pk. record { table = number; pk = pk } in
    let a = bind_ok (values_at table true mid)
    (λ pk. cond (is_here catalog shard table (key pk.0) && is_above before (key pk.0)) (Ok (key pk.0, pk.1)) (Err first)) x e in
    let v = values_take table true mid a.0 t.fits a.1 in
    let g = guard_then (is_here catalog shard table (key a.0.0) && is_above before (key a.0.0)) first (Ok (key a.0.0, a.0.1)) x a.2 in
    let two = both_true (is_here catalog shard table (key a.0.0)) (is_above before (key a.0.0)) g.0 in
    let both = takes_then r (number_bytes w32 number) mid (values_bytes a.0.0) a.0.1 t v.0 in
    subst (λ (y : Key × Rest). Takes r (key_bytes y.0) y.1 × IsNextKey catalog shard before y.0) (ok_is (key a.0.0, a.0.1) x g.1)
    (both, record { table = table; is_table = is; number = lt; values = v.1; here = two.0; above = two.1 })

pub key_takes : (catalog : Catalog) (shard : ℕ) (before : Option Key) (r : Rest) (x : Key × Rest) → IsBytes r.bytes
    → key_at catalog shard before r ≡ Ok x → Takes r (key_bytes x.0) x.1 × IsNextKey catalog shard before x.0
unfolding key_at
key_takes catalog shard before r x are e =
    let a = bind_ok (number_at w32 r.offset r) (λ number. key_in catalog shard before number.0 (slice_get catalog.tables number.0) r.offset number.1) x e in
    let n = number_takes w32 (2 ^ 32) exact32 r.offset r a.0 are a.1 in
    key_by catalog shard before a.0.0 (slice_get catalog.tables a.0.0) r.offset r a.0.1 x refl n.1 n.0 a.2

row_by : (catalog : Catalog) (key : Key) (table : Option Table) (r : Rest) (x : List Value × Rest) → slice_get catalog.tables key.table ≡ table → IsBytes r.bytes
    → row_in key table r ≡ Ok x → Takes r (values_bytes x.0) x.1 × IsRowAt catalog key x.0
unfolding row_in
row_by catalog key None r x is are e = absurd cc
row_by catalog key (Some table) r x is are e =
    let a = bind_ok (values_at table false r) (λ row. cond (has_key table key row.0) (Ok row) (Err r.offset)) x e in
    let v = values_take table false r a.0 are a.1 in
    let g = guard_then (has_key table key a.0.0) r.offset (Ok a.0) x a.2 in
    subst (λ (y : List Value × Rest). Takes r (values_bytes y.0) y.1 × IsRowAt catalog key y.0) (ok_is a.0 x g.1)
    (v.0, record { table = table; is_table = is; values = v.1; keyed = g.0 })

pub row_takes : (catalog : Catalog) (key : Key) (r : Rest) (x : List Value × Rest) → IsBytes r.bytes → row_at catalog key r ≡ Ok x
    → Takes r (values_bytes x.0) x.1 × IsRowAt catalog key x.0
row_takes catalog key r x are e = row_by catalog key (slice_get catalog.tables key.table) r x refl are e

-- ---- changes and parts

new_row_by : (catalog : Catalog) (key : Key) (kind first : ℕ) (r mid : Rest) (x : Option (List Value) × Rest) → Takes r (kind ∷ []) mid
    → new_row_of catalog key kind first mid ≡ Ok x → Takes r (new_row_bytes x.0) x.1 × IsNewRow catalog key x.0
unfolding new_row_of
new_row_by catalog key zero first r mid x t e =
    subst (λ (y : Option (List Value) × Rest). Takes r (new_row_bytes y.0) y.1 × IsNewRow catalog key y.0) (ok_is (None, mid) x e) (t, tt)
new_row_by catalog key (suc zero) first r mid x t e =
    let a = bind_ok (row_at catalog key mid) (λ row. Ok (Some row.0, row.1)) x e in
    let v = row_takes catalog key mid a.0 t.fits a.1 in
    subst (λ (y : Option (List Value) × Rest). Takes r (new_row_bytes y.0) y.1 × IsNewRow catalog key y.0) (ok_is (Some a.0.0, a.0.1) x a.2)
    (takes_then r (1 ∷ []) mid (values_bytes a.0.0) a.0.1 t v.0, v.1)
new_row_by catalog key (suc (suc kind)) first r mid x t e = absurd cc

new_row_takes : (catalog : Catalog) (key : Key) (r : Rest) (x : Option (List Value) × Rest) → IsBytes r.bytes → new_row_at catalog key r ≡ Ok x
    → Takes r (new_row_bytes x.0) x.1 × IsNewRow catalog key x.0
unfolding new_row_at
new_row_takes catalog key r x are e =
    let a = bind_ok (number_at w8 r.offset r) (λ kind. new_row_of catalog key kind.0 r.offset kind.1) x e in
    new_row_by catalog key a.0.0 r.offset r a.0.1 x (byte_takes r.offset r a.0 are a.1).0 a.2

change_takes : (catalog : Catalog) (shard : ℕ) (front : List Change) (r : Rest) (x : Change × Rest) → IsBytes r.bytes → change_at catalog shard front r ≡ Ok x
    → Takes r (change_bytes x.0) x.1 × IsNextChange catalog shard front x.0
unfolding change_at
change_takes catalog shard front r x are e =
    let made : Key → Option (List Value) → Change = λ key row. record { key = key; row = row } in
    let a = bind_ok (key_at catalog shard (last_changed front) r) (λ key. (new_row_at catalog key.0 key.1 >>= λ row. Ok (made key.0 row.0, row.1))) x e in
    let k = key_takes catalog shard (last_changed front) r a.0 are a.1 in
    let b = bind_ok (new_row_at catalog a.0.0 a.0.1) (λ row. Ok (made a.0.0 row.0, row.1)) x a.2 in
    let w = new_row_takes catalog a.0.0 a.0.1 b.0 k.0.fits b.1 in
    subst (λ (y : Change × Rest). Takes r (change_bytes y.0) y.1 × IsNextChange catalog shard front y.0) (ok_is (made a.0.0 b.0.0, b.0.1) x b.2)
    (takes_then r (key_bytes a.0.0) a.0.1 (new_row_bytes b.0.0) b.0.1 k.0 w.0, (k.1, w.1))

group_by : (kind first : ℕ) (r mid : Rest) (x : Group × Rest) → Takes r (kind ∷ []) mid → group_of kind first mid ≡ Ok x → Takes r (group_byte x.0 ∷ []) x.1
unfolding group_of
group_by zero first r mid x t e = subst (λ (y : Group × Rest). Takes r (group_byte y.0 ∷ []) y.1) (ok_is (groups.Pre, mid) x e) t
group_by (suc zero) first r mid x t e = subst (λ (y : Group × Rest). Takes r (group_byte y.0 ∷ []) y.1) (ok_is (groups.Main, mid) x e) t
group_by (suc (suc zero)) first r mid x t e = subst (λ (y : Group × Rest). Takes r (group_byte y.0 ∷ []) y.1) (ok_is (groups.Post, mid) x e) t
group_by (suc (suc (suc kind))) first r mid x t e = absurd cc

group_takes : (r : Rest) (x : Group × Rest) → IsBytes r.bytes → group_at r ≡ Ok x → Takes r (group_byte x.0 ∷ []) x.1
unfolding group_at
group_takes r x are e =
    let a = bind_ok (number_at w8 r.offset r) (λ kind. group_of kind.0 r.offset kind.1) x e in
    group_by a.0.0 r.offset r a.0.1 x (byte_takes r.offset r a.0 are a.1).0 a.2

pub part_takes : (catalog : Catalog) (shard : ℕ) (front : List Part) (r : Rest) (x : Part × Rest) → IsBytes r.bytes → part_at catalog shard r ≡ Ok x
    → Takes r (part_bytes x.0) x.1 × IsPart catalog shard x.0
unfolding part_at
part_takes catalog shard front r x are e =
    let made : ℕ → Group → List Change → Part = λ tx group changes. record { tx = tx; group = group; changes = changes } in
    let a = bind_ok (number_within w64 0 last_transaction r)
    (λ tx. (group_at tx.1 >>= λ group. (number_at w32 group.1.offset group.1 >>= λ n. (many_at (change_at catalog shard) n.0 [] n.1 >>= λ changes. Ok (made tx.0 group.0 changes.0, changes.1))))) x e in
    let in_a = within w64 0 last_transaction r a.0 a.1 in
    let ta = number_takes w64 (2 ^ 64) exact64 r.offset r a.0 are in_a.0 in
    let b = bind_ok (group_at a.0.1)
    (λ group. (number_at w32 group.1.offset group.1 >>= λ n. (many_at (change_at catalog shard) n.0 [] n.1 >>= λ changes. Ok (made a.0.0 group.0 changes.0, changes.1)))) x a.2 in
    let tb = group_takes a.0.1 b.0 ta.0.fits b.1 in
    let c = bind_ok (number_at w32 b.0.1.offset b.0.1)
    (λ n. (many_at (change_at catalog shard) n.0 [] n.1 >>= λ changes. Ok (made a.0.0 b.0.0 changes.0, changes.1))) x b.2 in
    let tc = number_takes w32 (2 ^ 32) exact32 b.0.1.offset b.0.1 c.0 tb.fits c.1 in
    let d = bind_ok (many_at (change_at catalog shard) c.0.0 [] c.0.1) (λ changes. Ok (made a.0.0 b.0.0 changes.0, changes.1)) x c.2 in
    let m = many_takes (change_at catalog shard) change_bytes (IsNextChange catalog shard) (change_takes catalog shard) c.0.0 [] c.0.1 d.0 tc.0.fits d.1 in
    let counted = takes_then b.0.1 (number_bytes w32 c.0.0) c.0.1 (flat_map change_bytes m.xs) d.0.1 tc.0 m.takes in
    let sized : Takes b.0.1 (number_bytes w32 (length m.xs) ++ flat_map change_bytes m.xs) d.0.1
    = subst (λ (k : ℕ). Takes b.0.1 (number_bytes w32 k ++ flat_map change_bytes m.xs) d.0.1) (sym m.count) counted in
    let grouped = takes_then a.0.1 (group_byte b.0.0 ∷ []) b.0.1 (number_bytes w32 (length m.xs) ++ flat_map change_bytes m.xs) d.0.1 tb sized in
    let whole = takes_then r (number_bytes w64 a.0.0) a.0.1 (group_byte b.0.0 ∷ (number_bytes w32 (length m.xs) ++ flat_map change_bytes m.xs)) d.0.1 ta.0 grouped in
    let is : Takes r (part_bytes (made a.0.0 b.0.0 m.xs)) d.0.1 × IsPart catalog shard (made a.0.0 b.0.0 m.xs)
    = (whole, record { tx = in_a.2; few = omega (arith, tc.1, m.count); changes = m.each }) in
    subst (λ (y : Part × Rest). Takes r (part_bytes y.0) y.1 × IsPart catalog shard y.0) (ok_is (made a.0.0 b.0.0 d.0.0, d.0.1) x d.2)
    (subst (λ (cs : List Change). Takes r (part_bytes (made a.0.0 b.0.0 cs)) d.0.1 × IsPart catalog shard (made a.0.0 b.0.0 cs)) (sym m.all) is)
