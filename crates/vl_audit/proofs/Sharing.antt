-- Which rows share a value: by the key of the first row with a value, and the values that a row of another key has.
use Rattle.std.proofs.Common.{◌≡◌, ℕ, Bool, true, false, cond, Option, None, Some, refl, sym, ap, ◌∙◌, ⊎_elim}
use Rattle.std.specs.BTreeMap.{BTreeMap, get, is_at}
use Rattle.std.specs.Option.{is_some, option_and_then, option_map, option_map_or}
use Rattle.std.specs.Ordering.{is_eq}
use Rattle.std.proofs.lemmas.Bool.{both_ways, cases_Bool, cond-true, cond-false, false_from_ne_true, not-true, not_from_false, true≢false}
use Rattle.std.proofs.lemmas.Cmp.{tied_itself}
use Rattle.std.proofs.lemmas.Option.{none-some, same_Some}
use Rattle.vl_values.proofs.KeyOrder.{is_key-same, is_key-true, value_cmp_exact}
use Rattle.vl_values.specs.declared.key.Key.{Key}
use Rattle.vl_values.specs.declared.value.Value.{Value}
use Rattle.vl_values.specs.Keyed.{is_key}
use Rattle.vl_values.specs.Order.{value_cmp_total}
use Rattle.vl_values.specs.Value.{value_cmp}
use Rattle.vl_catalog.specs.declared.lookup.Lookup.{Lookup}
use Rattle.vl_model.specs.Tables.{Pair, Stands, Tables, column}
use Rattle.vl_audit.specs.Audit.{IsDoubled}
use Rattle.vl_audit.specs.Gathering.{first_given, given_from}
use Rattle.vl_audit.specs.Giving.{alone, is_doubled, is_other, repeated, sighted}
use Rattle.vl_audit.specs.Mapping.{value_of}
use Rattle.vl_audit.proofs.Adding.{equal_from, some_is}
use Rattle.vl_audit.proofs.Given.{row_that_gives, seen}
use Rattle.vl_audit.proofs.Needing.{from_value, has_value}

abbrev with_key : Value → Key → Option (Value × Key)
with_key v k = Some (v, k)

abbrev by_itself : Value → Option (Value × Unit {0})
by_itself v = Some (v, tt)

-- ---- a value and a key

sighted_parts : (o : Option Value) (key : Key) (v : Value) (k : Key) → option_map {T = Value} {U = Value × Key} (λ value. (value, key)) o ≡ with_key v k → (o ≡ Some v) × (key ≡ k)
sighted_parts None key v k h = absurd (none-some (v, k) h)
sighted_parts (Some x) key v k h =
    let same = same_Some (x, key) (v, k) h in
    (ap (λ (p : Value × Key). Some p.0) same, ap (λ (p : Value × Key). p.1) same)

other_parts : (first : Option Key) (key : Key) → is_other first key ≡ true → (k : Key) × (first ≡ Some k) × (is_key k key ≡ false)
other_parts None key h = absurd (true≢false (sym h))
other_parts (Some k) key h = (k, refl, not-true _ h)

module _ (first : Value → Option Key) where
  abbrev then_repeated : Key → Value → Option (Value × Unit {0})
  then_repeated key value = cond (is_other (first value) key) (Some (alone value)) None

  repeated_parts : (o : Option Value) (key : Key) (v : Value) (u : Unit {0}) → option_and_then (then_repeated key) o ≡ Some (v, u)
      → (o ≡ Some v) × ((k : Key) × (first v ≡ Some k) × (is_key k key ≡ false))
  repeated_parts None key v u h = absurd (none-some (v, u) h)
  repeated_parts (Some x) key v u h =
      ⊎_elim
      (λ is.
      let same : x ≡ v = ap (λ (p : Value × Unit {0}). p.0) (same_Some (x, tt) (v, u) (sym (cond-true _ _ None is) ∙ h)) in
      let other = other_parts (first x) key is in
      (ap Some same, (other.0, ap first (sym same) ∙ other.1, other.2)))
      (λ off. absurd (none-some (v, u) (sym (cond-false _ _ None off) ∙ h)))
      (cases_Bool (is_other (first x) key))

  repeated_at : (o : Option Value) (key : Key) (v : Value) (k : Key) → o ≡ Some v → first v ≡ Some k → is_key k key ≡ false → option_and_then (then_repeated key) o ≡ by_itself v
  repeated_at o key v k is by apart =
      ap (option_and_then (then_repeated key)) is ∙ cond-true _ _ None (ap (λ (f : Option Key). is_other f key) by ∙ not_from_false _ apart)

-- ---- rows

module _ (lookup : Lookup) (tables : Tables) (first : BTreeMap Value Key) (again : BTreeMap Value (Unit {0})) where
  abbrev pub first_key : Value → Option Key
  first_key value = get value_cmp first value

  abbrev pub has_again : Value → Bool
  has_again value = is_some (get value_cmp again value)

  module _ (sights : (v : Value) → first_key v ≡ first_given value_cmp (given_from (λ shard pair. sighted lookup pair) 0 tables) v)
      (repeats : (v : Value) → get value_cmp again v ≡ first_given value_cmp (given_from (λ shard pair. repeated first_key lookup pair) 0 tables) v) where
    itself : (v : Value) → is_at (value_cmp v) v ≡ true
    itself v = ap is_eq (tied_itself value_cmp_total v)

    first_row : (v : Value) (k : Key) → first_key v ≡ Some k → (shard : ℕ) × (row : Pair) × Stands tables shard row × (value_of lookup row ≡ Some v) × (row.0 ≡ k)
    first_row v k h =
        let at = row_that_gives (is_at (value_cmp v)) (λ shard pair. sighted lookup pair) 0 tables k (sym (sights v) ∙ h) in
        let key : at.2 ≡ v = sym (value_cmp_exact v at.2 (equal_from (value_cmp v at.2) at.5)) in
        let parts = sighted_parts (value_of lookup at.1) at.1.0 at.2 k at.4 in
        (at.0, at.1, at.3, parts.0 ∙ ap Some key, parts.1)

    has_first : (v : Value) (shard : ℕ) (row : Pair) → Stands tables shard row → value_of lookup row ≡ Some v → (k : Key) × (first_key v ≡ Some k)
    has_first v shard row stands is =
        some_is (first_key v)
        (ap is_some (sights v)
        ∙ seen (is_at (value_cmp v)) (λ shard pair. sighted lookup pair) 0 tables shard row v row.0 stands
        (ap (option_map {T = Value} {U = Value × Key} (λ value. (value, row.0))) is) (itself v))

    again_row : (v : Value) → has_again v ≡ true
        → (shard : ℕ) × (row : Pair) × Stands tables shard row × (value_of lookup row ≡ Some v) × ((k : Key) × (first_key v ≡ Some k) × (is_key k row.0 ≡ false))
    again_row v h =
        let got = some_is (get value_cmp again v) h in
        let at = row_that_gives (is_at (value_cmp v)) (λ shard pair. repeated first_key lookup pair) 0 tables got.0 (sym (repeats v) ∙ got.1) in
        let key : at.2 ≡ v = sym (value_cmp_exact v at.2 (equal_from (value_cmp v at.2) at.5)) in
        let parts = repeated_parts first_key (value_of lookup at.1) at.1.0 at.2 got.0 at.4 in
        (at.0, at.1, at.3, parts.0 ∙ ap Some key, (parts.1.0, ap first_key (sym key) ∙ parts.1.1, parts.1.2))

    is_again : (v : Value) (k : Key) (shard : ℕ) (row : Pair) → Stands tables shard row → value_of lookup row ≡ Some v → first_key v ≡ Some k → is_key k row.0 ≡ false → has_again v ≡ true
    is_again v k shard row stands is by apart =
        ap is_some (repeats v)
        ∙ seen (is_at (value_cmp v)) (λ shard pair. repeated first_key lookup pair) 0 tables shard row v tt stands (repeated_at first_key (value_of lookup row) row.0 v k is by apart) (itself v)

    one_value : (row other : Pair) (v : Value) → value_of lookup row ≡ Some v → value_of lookup other ≡ Some v → (n : ℕ) → lookup.column ≡ Some n → column row n ≡ column other n
    one_value row other v is also n at =
        let mine = from_value lookup row v is in
        let its = from_value lookup other v also in
        ap (column row) (same_Some n mine.0 (sym at ∙ mine.1)) ∙ mine.3 ∙ sym its.3 ∙ sym (ap (column other) (same_Some n its.0 (sym at ∙ its.1)))

    doubled_by : lookup.unique ≡ true → (row : Pair) (v : Value) (shard : ℕ) (other : Pair) → value_of lookup row ≡ Some v → Stands tables shard other → value_of lookup other ≡ Some v
        → (row.0 ≡ other.0 → ⊥) → IsDoubled tables lookup row
    doubled_by unique row v shard other is stands also apart = record {
      unique = unique;
      indexed = (from_value lookup row v is).2;
      shard = shard;
      other = other;
      stands = stands;
      other_indexed = (from_value lookup other v also).2;
      same = one_value row other v is also;
      apart = apart;
    }

    with_value : (row : Pair) (v : Value) → lookup.unique ≡ true → value_of lookup row ≡ Some v → has_again v ≡ true → IsDoubled tables lookup row
    with_value row v unique is h =
        let other = again_row v h in
        let k = other.4.0 in
        let before = first_row v k other.4.1 in
        ⊎_elim
        (λ same.
        doubled_by unique row v other.0 other.1 is other.2 other.3
        (λ one. both_ways (is_key k other.1.0) other.4.2 (ap (is_key k) (sym one) ∙ same)))
        (λ apart.
        doubled_by unique row v before.0 before.1 is before.2 before.3
        (λ one. both_ways (is_key k row.0) apart (ap (is_key k) (one ∙ before.4) ∙ is_key-same k)))
        (cases_Bool (is_key k row.0))

    some_doubled : (o : Option Value) → option_map_or has_again o false ≡ true → (v : Value) × (o ≡ Some v) × (has_again v ≡ true)
    some_doubled None h = absurd (true≢false (sym h))
    some_doubled (Some v) h = (v, refl, h)

    pub doubled_from : lookup.unique ≡ true → (shard : ℕ) (row : Pair) → Stands tables shard row → is_doubled has_again lookup row ≡ true → IsDoubled tables lookup row
    doubled_from unique shard row stands h =
        let at = some_doubled (value_of lookup row) h in
        with_value row at.0 unique at.1 at.2

    pub doubled_is : (shard : ℕ) (row : Pair) → Stands tables shard row → IsDoubled tables lookup row → is_doubled has_again lookup row ≡ true
    doubled_is shard row stands doubled =
        let n = doubled.indexed.value.0 in
        let has = doubled.indexed.value.1 in
        let v = column row n in
        let mine = has_value lookup row n has doubled.indexed in
        let its = has_value lookup doubled.other n has doubled.other_indexed ∙ ap Some (sym (doubled.same n has)) in
        let first = has_first v shard row stands mine in
        ap (λ (o : Option Value). option_map_or has_again o false) mine
        ∙ ⊎_elim
        (λ same.
        is_again v first.0 doubled.shard doubled.other doubled.stands its first.1
        (false_from_ne_true _ (λ also. doubled.apart (sym (is_key-true first.0 row.0 same) ∙ is_key-true first.0 doubled.other.0 also))))
        (λ apart. is_again v first.0 shard row stands mine first.1 apart)
        (cases_Bool (is_key first.0 row.0))
