-- Keys in their order, and lists of entries by key.
use Rattle.std.specs.Prelude.{◌≡◌, ℕ, ◌<◌, ◌≤◌, Bool, List, length}
use Rattle.std.specs.declared.cmp.Ordering.TheVariants.{Less, Greater}
use Rattle.std.specs.declared.option.Option.{Option}
use Rattle.std.specs.List.{AllWithin, HoldsAt, filter_map, list_any}
use Rattle.std.specs.List.Sorted.{IsStrictlySortedBy}
use Rattle.std.specs.Map.{keys_of, lookup}
use Rattle.std.specs.Option.{option_map}
use Rattle.std.specs.Ordering.{is_eq, is_lt}
use Rattle.vl_values.specs.declared.key.Key.{Key}
use Rattle.vl_values.specs.Key.{key_cmp}

-- whether two keys are one key
abbrev pub is_key : Key → Key → Bool
is_key key other = is_eq (key_cmp key other)

-- whether the first key stands before the other
abbrev pub comes_before : Key → Key → Bool
comes_before key other = is_lt (key_cmp key other)

-- whether a key is among these
abbrev pub is_among_keys : List Key → Key → Bool
is_among_keys keys key = list_any (is_key key) keys

-- the keys ascend, so each stands once
abbrev pub AreInOrder : List Key → Type 0
AreInOrder = IsStrictlySortedBy key_cmp

-- what a function gives of entries, each value at its entry's key
abbrev pub select : {A B : Type 0} → (Key × A → Option B) → List (Key × A) → List (Key × B)
select {A} {B} given entries = filter_map (λ e. option_map {T = B} {U = Key × B} (λ value. (e.0, value)) (given e)) entries

module _ {A : Type 0} where
  -- the entries ascend by key, so each key stands once
  abbrev pub InKeyOrder : List (Key × A) → Type 0
  InKeyOrder entries = AreInOrder (keys_of entries)

  -- what a list of entries has at a key
  abbrev pub value_at : List (Key × A) → Key → Option A
  value_at entries key = lookup (is_key key) entries

  -- an entry with this key stands there
  abbrev pub IsPlace : Key → List (Key × A) → ℕ → Type 0
  IsPlace key entries place = (place < length entries) × HoldsAt (λ e. e.0 ≡ key) entries place

  -- no entry has this key, and one would stand there: those before have lesser keys, the others greater ones
  abbrev pub IsGap : Key → List (Key × A) → ℕ → Type 0
  IsGap key entries place =
      (place ≤ length entries) × AllWithin (λ e. key_cmp e.0 key ≡ Less) entries 0 place × AllWithin (λ e. key_cmp e.0 key ≡ Greater) entries place (length entries)
