-- Changes that are collected in the order of their keys, and the bytes of their record.
use Rattle.std.proofs.Common.{◌≡◌, ◌≤◌, ◌<◌, ◌+◌, ◌-◌, ◌^◌, ◌++◌, ◌∷◌, [], ℕ, true, List, Option, Some, None, length, map, refl, sym, ap, subst, ◌∙◌, arith, append_assoc}
use Rattle.std.specs.declared.cmp.Ordering.{Ordering}
use Rattle.std.specs.declared.cmp.Ordering.TheVariants.{Less, Equal, Greater}
use Rattle.std.specs.Prelude.{slice_get}
use Rattle.std.specs.Ordering.{is_lt, match_ordering}
use Rattle.std.specs.Int.{w16, w32, w64}
use Rattle.std.specs.List.{All, AllByRecursion, flat_map, sum_by}
use Rattle.std.specs.List.Sorted.{IsStrictlySortedBy}
use Rattle.std.specs.Map.{keys_of, lookup, values_of}
use Rattle.std.specs.BTreeMap.{insert_entry, is_at}
use Rattle.std.specs.Option.{option_map, unwrap_or}
use Rattle.std.proofs.lemmas.List.{append-nil, length-append, length-map}
use Rattle.std.proofs.lemmas.List.Concat.{length-flat_map}
use Rattle.std.proofs.lemmas.List.Elements.{All-tail}
use Rattle.std.proofs.lemmas.Map.Entries.{sum_by-insert_entry}
use Rattle.vl_values.specs.declared.key.Key.{Key}
use Rattle.vl_values.specs.declared.value.Value.{Value}
use Rattle.vl_values.specs.Key.{key_cmp}
use Rattle.vl_values.proofs.KeyOrder.{key_cmp_exact, key_cmp_total}
use Rattle.vl_catalog.specs.declared.catalog.Catalog.{Catalog}
use Rattle.vl_catalog.specs.declared.change.Change.{Change}
use Rattle.vl_catalog.specs.declared.part.Part.{Part}
use Rattle.vl_record.specs.Spelling.{body_bytes, change_bytes, group_byte, last_transaction, number_bytes, part_bytes, record_bytes, sized}
use Rattle.vl_record.specs.Allowed.{is_above, last_changed}
use Rattle.vl_record.specs.Grammar.{EachNext, IsNextChange, IsNextKey, IsRecord}
use Rattle.vl_record.specs.Collected.{Collected, Entry, Holds, IsAllowed, change_of, changes_bytes, collected_bytes, one_part, part_of, spelled, with_entry}
use Rattle.vl_record.proofs.Numbers.{wide16, wide32, wide64}

-- ---- one change more

abbrev pub size_of : List (Key × List ℕ) → ℕ
size_of entries = length (flat_map (λ (bytes : List ℕ). bytes) (values_of entries))

-- the bytes of the change that is replaced, if one is
abbrev pub before_of : List (Key × List ℕ) → Key → ℕ
before_of entries key = unwrap_or (option_map (λ (bytes : List ℕ). length bytes) (lookup (is_at (key_cmp key)) entries)) 0

pub size_with : (entries : List (Key × List ℕ)) (key : Key) (bytes : List ℕ) → IsStrictlySortedBy key_cmp (keys_of entries)
    → size_of (with_entry entries key bytes) + before_of entries key ≡ size_of entries + length bytes
size_with entries key bytes s =
    let sums = sum_by-insert_entry (λ (t : List ℕ). length t) key_cmp_total entries key bytes s in
    omega (arith, sums, length-flat_map (λ (t : List ℕ). t) (values_of entries), length-flat_map (λ (t : List ℕ). t) (values_of (with_entry entries key bytes)))

pub put_in : (old new : List (Key × List ℕ)) (stored key : Key) (text bytes : List ℕ) → new ≡ with_entry old stored text → stored ≡ key → text ≡ bytes → new ≡ with_entry old key bytes
put_in old new stored key text bytes is one two =
    is ∙ (ap (λ (k : Key). with_entry old k text) one ∙ ap (λ (t : List ℕ). with_entry old key t) two)

-- it is at most one more
pub count_with : {X : Type 0} (entries : List (Key × X)) (key : Key) (x : X) → length (with_entry entries key x) ≤ length entries + 1
count_with [] key x = omega arith
count_with {X} (e ∷ entries) key x = by_order (key_cmp key e.0) (count_with entries key x)
  where
    by_order : (o : Ordering) → length (with_entry entries key x) ≤ length entries + 1
        → length (match_ordering o ((key, x) ∷ e ∷ entries) ((e.0, x) ∷ entries) (e ∷ with_entry entries key x)) ≤ length (e ∷ entries) + 1
    by_order Less less = omega arith
    by_order Equal less = omega arith
    by_order Greater less = omega (arith, less)

spelled_by : (e : Entry) (entries more : List Entry) (key : Key) (row : Option (List Value)) (o : Ordering) → key_cmp key e.0 ≡ o
    → map spelled (match_ordering o ((key, row) ∷ e ∷ entries) ((e.0, row) ∷ entries) (e ∷ more))
    ≡ match_ordering o ((key, change_bytes (change_of (key, row))) ∷ spelled e ∷ map spelled entries) ((e.0, change_bytes (change_of (key, row))) ∷ map spelled entries) (spelled e ∷ map spelled more)
spelled_by e entries more key row Less is = refl
spelled_by e entries more key row Equal is =
    ap (λ (k : Key). (e.0, change_bytes (change_of (k, row))) ∷ map spelled entries) (sym (key_cmp_exact key e.0 is))
spelled_by e entries more key row Greater is = refl

spelled_with : (entries : List Entry) (key : Key) (row : Option (List Value))
    → map spelled (with_entry entries key row) ≡ with_entry (map spelled entries) key (change_bytes (change_of (key, row)))
spelled_with [] key row = refl
spelled_with (e ∷ entries) key row =
    let bytes = change_bytes (change_of (key, row)) in
    spelled_by e entries (with_entry entries key row) key row (key_cmp key e.0) refl
    ∙ ap (λ (more : List (Key × List ℕ)). match_ordering (key_cmp key e.0) ((key, bytes) ∷ spelled e ∷ map spelled entries) ((e.0, bytes) ∷ map spelled entries) (spelled e ∷ more)) (spelled_with entries key row)

pub holds_with : (entries : List Entry) (old new : List (Key × List ℕ)) (key : Key) (row : Option (List Value))
    → new ≡ with_entry old key (change_bytes (change_of (key, row))) → old ≡ map spelled entries → new ≡ map spelled (with_entry entries key row)
holds_with entries old new key row is holds =
    is ∙ ap (λ (l : List (Key × List ℕ)). with_entry l key (change_bytes (change_of (key, row)))) holds ∙ sym (spelled_with entries key row)

-- ---- the record of these changes

flat_spelled : (entries : List Entry) → flat_map (λ (bytes : List ℕ). bytes) (values_of (map spelled entries)) ≡ flat_map change_bytes (map change_of entries)
flat_spelled [] = refl
flat_spelled (e ∷ entries) = ap (λ (t : List ℕ). change_bytes (change_of e) ++ t) (flat_spelled entries)

collected_is : (collected : Collected) (entries : List Entry) → Holds entries collected → collected_bytes collected ≡ part_bytes (part_of collected entries)
collected_is collected entries holds =
    let count : length collected.changes ≡ length (map change_of entries)
    = ap (λ (l : List (Key × List ℕ)). length l) holds ∙ (length-map entries spelled ∙ sym (length-map entries change_of)) in
    let bytes : changes_bytes collected ≡ flat_map change_bytes (map change_of entries)
    = ap (λ (l : List (Key × List ℕ)). flat_map (λ (bytes : List ℕ). bytes) (values_of l)) holds ∙ flat_spelled entries in
    rw (count, bytes) refl

one_part_is : (part : Part) → record_bytes (part ∷ []) ≡ one_part (part_bytes part)
one_part_is part =
    let flat : body_bytes (part ∷ []) ≡ number_bytes w16 1 ++ part_bytes part = ap (λ (t : List ℕ). number_bytes w16 1 ++ t) (append-nil (part_bytes part)) in
    ap sized flat

pub record_is : (collected : Collected) (entries : List Entry) → Holds entries collected → one_part (collected_bytes collected) ≡ record_bytes (part_of collected entries ∷ [])
record_is collected entries holds = ap one_part (collected_is collected entries holds) ∙ sym (one_part_is (part_of collected entries))

pub collected_len : (collected : Collected) → length (collected_bytes collected) ≡ 13 + length (changes_bytes collected)
collected_len collected =
    let counted = number_bytes w32 (length collected.changes) in
    let bytes = changes_bytes collected in
    omega (arith, length-append (number_bytes w64 collected.tx) (group_byte collected.group ∷ (counted ++ bytes)), length-append counted bytes, wide64.len collected.tx, wide32.len (length collected.changes))

-- the bytes as they are written one after the other
pub framed_is : (collected : Collected) (size : ℕ) (old one two three four : List ℕ) → size ≡ length (changes_bytes collected)
    → one ≡ old ++ number_bytes w32 (15 + size) → two ≡ one ++ number_bytes w16 1 → three ≡ two ++ collected_bytes collected → four ≡ three ++ 0 ∷ []
    → four ≡ old ++ (one_part (collected_bytes collected) ++ 0 ∷ [])
framed_is collected size old one two three four is e1 e2 e3 e4 =
    let counted = number_bytes w16 1 in
    let text = collected_bytes collected in
    let long : length (counted ++ text) ≡ 15 + size = omega (arith, collected_len collected, length-append counted text, wide16.len 1, is) in
    let sized = number_bytes w32 (15 + size) in
    let end : List ℕ = 0 ∷ [] in
    let whole : one_part text ≡ sized ++ (counted ++ text) = ap (λ (k : ℕ). number_bytes w32 k ++ (counted ++ text)) long in
    let spelled : four ≡ ((((old ++ sized) ++ counted) ++ text) ++ end)
    = e4 ∙ ap (λ (t : List ℕ). t ++ end) (e3 ∙ ap (λ (t : List ℕ). t ++ text) (e2 ∙ ap (λ (t : List ℕ). t ++ counted) e1)) in
    let regroup : (((old ++ sized) ++ counted) ++ text) ++ end ≡ old ++ ((sized ++ (counted ++ text)) ++ end) = simp append_assoc refl in
    spelled ∙ (regroup ∙ ap (λ (t : List ℕ). old ++ (t ++ end)) (sym whole))

-- ---- the format allows it

last_is : (front : List Change) (change : Change) → slice_get (front ++ change ∷ []) (length front) ≡ Some change
last_is [] change = refl
last_is (first ∷ front) change = last_is front change

last_key_is : (front : List Change) (change : Change) → last_changed (front ++ change ∷ []) ≡ Some change.key
last_key_is front change =
    let place : length (front ++ change ∷ []) - 1 ≡ length front = omega (arith, length-append front (change ∷ [])) in
    ap (λ (i : ℕ). option_map (λ (c : Change). c.key) (slice_get (front ++ change ∷ []) i)) place
    ∙ ap (option_map (λ (c : Change). c.key)) (last_is front change)

-- the keys stand above this one
abbrev AreAbove : Option Key → List Entry → Type 0
AreAbove None entries = Unit {0}
AreAbove (Some key) entries = AllByRecursion (λ y. key_cmp key y ≡ Less) (keys_of entries)

first_above : (before : Option Key) (e : Entry) (entries : List Entry) → AreAbove before (e ∷ entries) → is_above before e.0 ≡ true
first_above None e entries above = refl
first_above (Some key) e entries above = ap is_lt above.0

each_allowed : (catalog : Catalog) (shard : ℕ) (front : List Change) (entries : List Entry) (before : Option Key) → last_changed front ≡ before → AreAbove before entries
    → IsStrictlySortedBy key_cmp (keys_of entries) → All (IsAllowed catalog shard) entries → EachNext (IsNextChange catalog shard) front (map change_of entries)
unfolding IsStrictlySortedBy
each_allowed catalog shard front [] before last above s all = tt
each_allowed catalog shard front (e ∷ entries) before last above s all =
    let first : IsAllowed catalog shard e = all 0 e (omega arith) in
    let key : IsNextKey catalog shard (last_changed front) e.0
    = record {
      table = first.0.table;
      is_table = first.0.is_table;
      number = first.0.number;
      values = first.0.values;
      here = first.0.here;
      above = ap (λ (k : Option Key). is_above k e.0) last ∙ first_above before e entries above;
    } in
    ((key, first.1), each_allowed catalog shard (front ++ change_of e ∷ []) entries (Some e.0) (last_key_is front (change_of e)) s.0 s.1 (All-tail (IsAllowed catalog shard) e entries all))

keys_spelled : (entries : List Entry) → keys_of (map spelled entries) ≡ keys_of entries
keys_spelled [] = refl
keys_spelled (e ∷ entries) = ap (λ (keys : List Key). e.0 ∷ keys) (keys_spelled entries)

pub record_allowed : (catalog : Catalog) (shard : ℕ) (collected : Collected) (entries : List Entry) → Holds entries collected
    → IsStrictlySortedBy key_cmp (keys_of collected.changes) → length collected.changes < 2 ^ 32 → 20 + length (changes_bytes collected) < 2 ^ 32
    → collected.tx ≤ last_transaction → All (IsAllowed catalog shard) entries → IsRecord catalog shard (part_of collected entries ∷ [])
record_allowed catalog shard collected entries holds s few short tx all =
    let part = part_of collected entries in
    let sorted = subst (λ (keys : List Key). IsStrictlySortedBy key_cmp keys) (ap keys_of holds ∙ keys_spelled entries) s in
    let count : length (map change_of entries) ≡ length collected.changes
    = length-map entries change_of ∙ (sym (length-map entries spelled) ∙ sym (ap (λ (l : List (Key × List ℕ)). length l) holds)) in
    let whole : length (body_bytes (part ∷ [])) ≡ 2 + length (collected_bytes collected)
    = ap (λ (t : List ℕ). length (number_bytes w16 1 ++ t)) (append-nil (part_bytes part) ∙ sym (collected_is collected entries holds))
    ∙ omega (arith, length-append (number_bytes w16 1) (collected_bytes collected), wide16.len 1) in
    record {
      some = omega arith;
      few = omega arith;
      short = omega (arith, whole, collected_len collected, short);
      each = (record { tx = tx; few = omega (arith, count, few); changes = each_allowed catalog shard [] entries None refl tt sorted all }, tt);
    }
