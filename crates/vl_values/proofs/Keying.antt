-- Entries in the order of their keys, by what they have at a key: found, inserted, written, removed and selected.
use Rattle.std.proofs.Common.{◌≡◌, ℕ, zero, suc, ◌<◌, ◌≤◌, false, Bool, true, cond, List, [], ◌∷◌, ◌++◌, map, Option, None, Some, Result, Ok, Err, length, get_or, set, ◌↔◌, true≢false, refl, sym, ap, subst, ◌∙◌, ⊎_elim, arith}
use Rattle.std.specs.declared.cmp.Ordering.{Ordering}
use Rattle.std.specs.declared.cmp.Ordering.TheVariants.{Less, Equal, Greater}
use Rattle.std.specs.List.{Contains, cons_option, filter, insert, remove}
use Rattle.std.specs.List.Sorted.{IsStrictlySortedBy, IsNonDecreasingBy, IsBinarySearchResult, IsSearchInRange}
use Rattle.std.specs.Map.{keys_of}
use Rattle.std.specs.Option.{IsSome, option_and_then, option_map}
use Rattle.std.specs.Result.{IfOk, IfErr}
use Rattle.std.specs.Ordering.{is_lt, ordering_index, ordering_reverse}
use Rattle.std.proofs.lemmas.Bool.{cases_lt}
use Rattle.std.proofs.lemmas.Cmp.{alike_right}
use Rattle.std.proofs.lemmas.Map.Entries.{length-keys_of}
use Rattle.std.proofs.lemmas.Map.Keys.{Less-from_sorted, any_passes_from_place}
use Rattle.std.proofs.lemmas.Map.Made.{is_some-lookup}
use Rattle.std.proofs.lemmas.Option.{slice_get-get_or}
use Rattle.std.proofs.lemmas.List.Elements.{filter_map-append}
use Rattle.std.proofs.lemmas.List.Folds.{Any-from_list_any}
use Rattle.std.proofs.lemmas.List.{get_or-map}
use Rattle.vl_values.specs.declared.key.Key.{Key}
use Rattle.vl_values.specs.Key.{key_cmp}
use Rattle.vl_values.specs.Keyed.{is_key, comes_before, AreInOrder, InKeyOrder, value_at, IsPlace, IsGap, select}
use Rattle.vl_values.proofs.KeyOrder.{is_key-true, is_key-same, key_cmp_exact, key_cmp_total}
use Rattle.vl_values.proofs.Entries.{sorted-insert, none_at_gap, lookup-insert_at, lookup-place, lookup-set_at, sorted-set_at, sorted-remove_at, lookup-remove_at, sorted-filter, sorted-select, lookup-select, Contains-from_lookup, lookup-contains, same_lookups}

-- ---- keys

-- of two keys in order, the later does not come before the earlier
pub not_before : (a b : Key) → key_cmp a b ≡ Less → comes_before b a ≡ true → ⊥
not_before a b less before = true≢false (sym before ∙ ap is_lt (key_cmp_total.antisymm b a ∙ ap ordering_reverse less))

-- each key of a list in order is before those behind it
pub less_behind : (keys : List Key) (i j : ℕ) (d : Key) → AreInOrder keys → i < j → j < length keys → key_cmp (get_or keys i d) (get_or keys j d) ≡ Less
less_behind keys i j d s = Less-from_sorted key_cmp keys i j d s

-- no key is in order
pub in_order_none : AreInOrder []
unfolding IsStrictlySortedBy
in_order_none = tt

-- ---- a search

at_most_two : (r : Ordering) → ordering_index r ≤ 2
at_most_two Less = omega arith
at_most_two Equal = omega arith
at_most_two Greater = omega arith

below : (r s : Ordering) → r ≡ Less → ordering_index r ≤ ordering_index s
below r s h = rw h (omega arith)

rises_by : (x y k : Key) → key_cmp x y ≡ Less → (r : Ordering) → key_cmp y k ≡ r → ordering_index (key_cmp x k) ≤ ordering_index r
rises_by x y k less Less h = below (key_cmp x k) Less (key_cmp_total.trans x y k less h)
rises_by x y k less Equal h = below (key_cmp x k) Equal (sym (alike_right key_cmp_total y k x h) ∙ less)
rises_by x y k less Greater h = at_most_two (key_cmp x k)

module _ {A : Type 0} where
  apart : (entries : List (Key × A)) (key : Key) (i j : ℕ) (d : Key × A) → InKeyOrder entries → i < j → j < length entries
      → ordering_index (key_cmp (get_or entries i d).0 key) ≤ ordering_index (key_cmp (get_or entries j d).0 key)
  apart entries key i j d s lt within =
      let first = get_or-map (λ (e : Key × A). e.0) entries i d d.0 (omega arith) in
      let second = get_or-map (λ (e : Key × A). e.0) entries j d d.0 within in
      let keys : length (keys_of entries) ≡ length entries = length-keys_of entries in
      let less : key_cmp (get_or entries i d).0 (get_or entries j d).0 ≡ Less =
      subst (λ (k : Key). key_cmp k (get_or entries j d).0 ≡ Less) first
      (subst (λ (k : Key). key_cmp (get_or (keys_of entries) i d.0) k ≡ Less) second
      (Less-from_sorted key_cmp (keys_of entries) i j d.0 s lt (omega arith))) in
      rises_by (get_or entries i d).0 (get_or entries j d).0 key less (key_cmp (get_or entries j d).0 key) refl

  -- what a binary search asks of entries in order
  pub searchable : (entries : List (Key × A)) (key : Key) → InKeyOrder entries → IsNonDecreasingBy (λ (e : Key × A). ordering_index (key_cmp e.0 key)) entries
  searchable entries key s i j d le within =
      ⊎_elim
      (λ (lt : i < j). apart entries key i j d s lt within)
      (λ (ge : j ≤ i). let same : i ≡ j = omega arith in subst (λ (n : ℕ). ordering_index (key_cmp (get_or entries i d).0 key) ≤ ordering_index (key_cmp (get_or entries n d).0 key)) same (omega arith))
      (cases_lt i j)

  -- what a binary search finds among entries in order
  pub place_found : (entries : List (Key × A)) (key : Key) (r : Result ℕ ℕ) → IsSearchInRange r (length entries) → IsBinarySearchResult (λ (e : Key × A). key_cmp e.0 key) entries r → IfOk r (IsPlace key entries)
  place_found entries key (Ok i) range position = (range, λ d. key_cmp_exact _ _ (position d))
  place_found entries key (Err i) range position = tt

  pub gap_found : (entries : List (Key × A)) (key : Key) (r : Result ℕ ℕ) → InKeyOrder entries → IsSearchInRange r (length entries) → IsBinarySearchResult (λ (e : Key × A). key_cmp e.0 key) entries r → IfErr r (IsGap key entries)
  gap_found entries key (Ok i) s range position = tt
  gap_found entries key (Err i) s range position = let point = position (searchable entries key s) in (range, point.0, point.1)

  -- ---- no entry at a key

  pub value_at-gap : (entries : List (Key × A)) (i : ℕ) (key : Key) → InKeyOrder entries → IsGap key entries i → value_at entries key ≡ None
  value_at-gap entries i key s gap = none_at_gap key_cmp_total entries i key s gap.0 gap.1 gap.2

  pub value_at-insert : (entries : List (Key × A)) (i : ℕ) (key : Key) (v : A) (q : Key) → InKeyOrder entries → IsGap key entries i
      → value_at (insert entries i (key, v)) q ≡ cond (is_key key q) (Some v) (value_at entries q)
  value_at-insert entries i key v q s gap = lookup-insert_at key_cmp_total entries i key v q s gap.0 gap.1 gap.2

  pub in_order-insert : (entries : List (Key × A)) (i : ℕ) (key : Key) (v : A) → InKeyOrder entries → IsGap key entries i → InKeyOrder (insert entries i (key, v))
  in_order-insert entries i key v s gap = sorted-insert key_cmp_total entries i key v s gap.0 gap.1 gap.2

  -- ---- an entry at a key

  pub value_at-place : (entries : List (Key × A)) (i : ℕ) (key : Key) (d : Key × A) → InKeyOrder entries → IsPlace key entries i → value_at entries key ≡ Some (get_or entries i d).1
  value_at-place entries i key d s place =
      subst (λ (k : Key). value_at entries k ≡ Some (get_or entries i d).1) (place.1 d) (lookup-place key_cmp_total entries i d s place.0)

  pub value_at-set : (entries : List (Key × A)) (i : ℕ) (key : Key) (v : A) (d : Key × A) (q : Key) → InKeyOrder entries → IsPlace key entries i
      → value_at (set entries i (key, v)) q ≡ cond (is_key key q) (Some v) (value_at entries q)
  value_at-set entries i key v d q s place =
      subst (λ (k : Key). value_at (set entries i (k, v)) q ≡ cond (is_key k q) (Some v) (value_at entries q)) (place.1 d) (lookup-set_at key_cmp_total entries i v d q s place.0)

  pub in_order-set : (entries : List (Key × A)) (i : ℕ) (key : Key) (v : A) (d : Key × A) → InKeyOrder entries → IsPlace key entries i → InKeyOrder (set entries i (key, v))
  in_order-set entries i key v d s place = subst (λ (k : Key). InKeyOrder (set entries i (k, v))) (place.1 d) (sorted-set_at key_cmp_total entries i v d s place.0)

  pub value_at-remove : (entries : List (Key × A)) (i : ℕ) (key : Key) (d : Key × A) (q : Key) → InKeyOrder entries → IsPlace key entries i
      → value_at (remove entries i) q ≡ cond (is_key key q) None (value_at entries q)
  value_at-remove entries i key d q s place =
      subst (λ (k : Key). value_at (remove entries i) q ≡ cond (is_key k q) None (value_at entries q)) (place.1 d) (lookup-remove_at key_cmp_total entries i d q s place.0)

  pub in_order-remove : (entries : List (Key × A)) (i : ℕ) (key : Key) (d : Key × A) → InKeyOrder entries → IsPlace key entries i → InKeyOrder (remove entries i)
  in_order-remove entries i key d s place = sorted-remove_at key_cmp_total entries i d s place.0

  -- ---- some of the entries

  pub in_order-filter : (p : Key × A → Bool) (entries : List (Key × A)) → InKeyOrder entries → InKeyOrder (filter p entries)
  in_order-filter p entries s = sorted-filter key_cmp_total p entries s

  pub in_order-select : {B : Type 0} (g : Key × A → Option B) (entries : List (Key × A)) → InKeyOrder entries → InKeyOrder (select g entries)
  in_order-select g entries s = sorted-select key_cmp_total g entries s

  pub value_at-select : {B : Type 0} (g : Key × A → Option B) (q : Key) (entries : List (Key × A)) → InKeyOrder entries
      → value_at (select g entries) q ≡ option_and_then (λ v. g (q, v)) (value_at entries q)
  value_at-select g q entries s = lookup-select key_cmp_total g key_cmp_exact q entries s

  -- a list in order contains an entry exactly where it has its value at its key
  pub contains_iff : (entries : List (Key × A)) (entry : Key × A) → InKeyOrder entries → Contains entries entry ↔ (value_at entries entry.0 ≡ Some entry.1)
  contains_iff entries entry s = (lookup-contains key_cmp_total key_cmp_exact entries entry s, Contains-from_lookup key_cmp_total key_cmp_exact entries entry)

  -- two lists in order that have the same at each key are one list
  pub same_entries : (entries others : List (Key × A)) → InKeyOrder entries → InKeyOrder others → ((q : Key) → value_at entries q ≡ value_at others q) → entries ≡ others
  same_entries entries others s t same = same_lookups key_cmp_total key_cmp_exact entries others s t same

  -- ---- keys

  -- a list of entries has a key exactly where it has something at it
  pub contains_key_iff : (entries : List (Key × A)) (key : Key) → Contains (keys_of entries) key ↔ IsSome (value_at entries key)
  contains_key_iff entries key = (
    λ (i, within, is). is_some-lookup (is_key key) entries ∙ any_passes_from_place (is_key key) (keys_of entries) i key (slice_get-get_or (keys_of entries) i key within ∙ ap Some is) (is_key-same key),
    λ some.
        let (i, found, within, is, same) = Any-from_list_any (is_key key) (keys_of entries) (sym (is_some-lookup (is_key key) entries) ∙ some) in
        subst (Contains (keys_of entries)) (sym (is_key-true key found same)) (i, within, is),
  )

  pub keys-map : (f : Key × A → Key × A) → ((e : Key × A) → (f e).0 ≡ e.0) → (entries : List (Key × A)) → keys_of (map f entries) ≡ keys_of entries
  keys-map f keeps [] = refl
  keys-map f keeps (e ∷ es) = let first = keeps e in let rest = keys-map f keeps es in cc (first, rest)

  pub keys-set : (entries : List (Key × A)) (i : ℕ) (e d : Key × A) → e.0 ≡ (get_or entries i d).0 → keys_of (set entries i e) ≡ keys_of entries
  keys-set [] i e d same = refl
  keys-set (x ∷ xs) zero e d same = ap (λ (k : Key). k ∷ keys_of xs) same
  keys-set (x ∷ xs) (suc i) e d same = ap (λ (ks : List Key). x.0 ∷ ks) (keys-set xs i e d same)

-- ---- what a function gives, after an edit that it doesn't see

-- what a function gives of one entry
abbrev given_at : {A B : Type 0} → (Key × A → Option B) → Key × A → Option (Key × B)
given_at {A} {B} g e = option_map {T = B} {U = Key × B} (λ v. (e.0, v)) (g e)

module _ {A B : Type 0} (g : Key × A → Option B) where
  pub select-append : (xs ys : List (Key × A)) → select g (xs ++ ys) ≡ select g xs ++ select g ys
  select-append xs ys = filter_map-append (given_at g) xs ys

  pub select-insert_none : (entries : List (Key × A)) (i : ℕ) (e : Key × A) → g e ≡ None → select g (insert entries i e) ≡ select g entries
  select-insert_none [] zero e none = ap (λ (o : Option B). cons_option (option_map {T = B} {U = Key × B} (λ v. (e.0, v)) o) []) none
  select-insert_none [] (suc i) e none = ap (λ (o : Option B). cons_option (option_map {T = B} {U = Key × B} (λ v. (e.0, v)) o) []) none
  select-insert_none (x ∷ xs) zero e none = ap (λ (o : Option B). cons_option (option_map {T = B} {U = Key × B} (λ v. (e.0, v)) o) (select g (x ∷ xs))) none
  select-insert_none (x ∷ xs) (suc i) e none = ap (λ (l : List (Key × B)). cons_option (given_at g x) l) (select-insert_none xs i e none)

  pub select-set : (entries : List (Key × A)) (i : ℕ) (e d : Key × A) → given_at g e ≡ given_at g (get_or entries i d) → select g (set entries i e) ≡ select g entries
  select-set [] i e d same = refl
  select-set (x ∷ xs) zero e d same = ap (λ (o : Option (Key × B)). cons_option o (select g xs)) same
  select-set (x ∷ xs) (suc i) e d same = ap (λ (l : List (Key × B)). cons_option (given_at g x) l) (select-set xs i e d same)

  pub select-map : (f : Key × A → Key × A) (h : Key × A → Option B) → ((e : Key × A) → given_at g (f e) ≡ given_at h e) → (entries : List (Key × A)) → select g (map f entries) ≡ select h entries
  select-map f h same [] = refl
  select-map f h same (e ∷ es) =
      ap (λ (o : Option (Key × B)). cons_option o (select g (map f es))) (same e) ∙ ap (λ (l : List (Key × B)). cons_option (given_at h e) l) (select-map f h same es)

  dropped : (p : Key × A → Bool) (e : Key × A) (es : List (Key × A)) (b : Bool) → p e ≡ b → (p e ≡ false → g e ≡ None) → select g (filter p es) ≡ select g es → select g (cond b (e ∷ filter p es) (filter p es)) ≡ select g (e ∷ es)
  dropped p e es true is none rest = ap (λ (l : List (Key × B)). cons_option (given_at g e) l) rest
  dropped p e es false is none rest = rest ∙ sym (ap (λ (o : Option B). cons_option (option_map {T = B} {U = Key × B} (λ v. (e.0, v)) o) (select g es)) (none is))

  pub select-filter : (p : Key × A → Bool) → ((e : Key × A) → p e ≡ false → g e ≡ None) → (entries : List (Key × A)) → select g (filter p entries) ≡ select g entries
  select-filter p none [] = refl
  select-filter p none (e ∷ es) = dropped p e es (p e) refl (none e) (select-filter p none es)

-- the values that a test keeps, as a function of the entries
abbrev pub if_kept : {A : Type 0} → (Key × A → Bool) → Key × A → Option A
if_kept p e = cond (p e) (Some e.1) None

pub filter_is_select : {A : Type 0} (p : Key × A → Bool) (entries : List (Key × A)) → filter p entries ≡ select (if_kept p) entries
filter_is_select p [] = refl
filter_is_select {A} p (e ∷ es) =
    let rest = filter_is_select p es in
    elim (p e) as (λ b. cond b (e ∷ filter p es) (filter p es) ≡ cons_option (option_map {T = A} {U = Key × A} (λ v. (e.0, v)) (cond b (Some e.1) None)) (select (if_kept p) es)) [
      | true ↦ ap (λ (l : List (Key × A)). e ∷ l) rest
      | false ↦ rest
    ]
