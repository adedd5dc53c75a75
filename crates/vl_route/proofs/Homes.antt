-- The shard that a keyspace id names, and that of a row, is one of the catalog's.
use Rattle.std.proofs.Common.{◌≡◌, ℕ, zero, suc, ◌+◌, ◌<◌, ◌≤◌, ◌⊎◌, inl, inr, Bool, true, false, not, cond, List, [], ◌∷◌, length, drop, get_or, Option, Some, None, sym, ap, ◌∙◌, subst, arith}
use Rattle.std.specs.Prelude.{option_and_then, slice_get}
use Rattle.std.specs.List.{count_by, position_or_len, sum_by}
use Rattle.std.specs.Option.{option_map}
use Rattle.std.proofs.lemmas.List.Sums.{sum_by-append, sum_by-cons, sum_by-take-drop}
use Rattle.std.proofs.lemmas.Option.{same_Some, slice_get-get_or}
use Rattle.vl_values.specs.declared.value.Value.{Value}
use Rattle.vl_vindex.specs.KeyRange.{Range, is_in}
use Rattle.vl_vindex.specs.Ring.{CoversOnce}
use Rattle.vl_catalog.specs.declared.catalog.Catalog.{Catalog}
use Rattle.vl_catalog.specs.declared.primary.Primary.{Primary}
use Rattle.vl_catalog.specs.declared.table.Table.{Table}
use Rattle.vl_catalog.specs.Place.{first_shard, place, place_by, place_in, shard_count, shard_in, shards_in}

first_of : (rings : List (List Range)) (k : ℕ) → shards_in rings k ≤ sum_by length (drop k rings)
first_of [] k = omega arith
first_of (ring ∷ rings) zero = let e = sum_by-append length (ring ∷ []) rings in omega (arith, e)
first_of (ring ∷ rings) (suc k) = first_of rings k

-- the shards of a keyspace are among all
pub shards_within : (rings : List (List Range)) (k : ℕ) → first_shard rings k + shards_in rings k ≤ shard_count rings
shards_within rings k = omega (arith, sum_by-take-drop length rings k, first_of rings k)

head_passes : (b : Bool) (n len count total : ℕ) → total ≡ cond b 1 0 + count → 0 < total → (0 < count → n < len) → cond (not b) (1 + n) 0 < suc len
head_passes true n len count total is some rest = omega arith
head_passes false n len count total is some rest = let r = rest (omega (arith, is, some)) in omega (arith, r)

-- where some element passes, the first that does is one of the list
first_passes : {X : Type 0} (p : X → Bool) (xs : List X) → 0 < count_by p xs → position_or_len p xs < length xs
first_passes p [] some = absurd (omega (arith, some))
first_passes p (x ∷ xs) some = head_passes (p x) (position_or_len p xs) (length xs) (count_by p xs) (count_by p (x ∷ xs)) (sum_by-cons (λ y. cond (p y) 1 0) x xs) some (first_passes p xs)

-- a keyspace id is in a ring that covers each once, so its shard is one of the catalog's
pub ring_holds : (rings : List (List Range)) (k : ℕ) (ksid : List ℕ) → CoversOnce (get_or rings k []) → shard_in rings k ksid < shard_count rings
ring_holds rings k ksid covers =
    let once = covers ksid in
    let below = first_passes (λ (range : Range). is_in range ksid) (get_or rings k []) (omega (arith, once)) in
    omega (arith, below, shards_within rings k)

-- what is known of a ring that was read
pub covered : (rings : List (List Range)) (k : ℕ) (ring : List Range) → k < length rings → ring ≡ get_or rings k ring → CoversOnce ring → CoversOnce (get_or rings k [])
covered rings k ring within is covers =
    subst (λ (r : List Range). CoversOnce r) (is ∙ same_Some (get_or rings k ring) (get_or rings k []) (sym (slice_get-get_or rings k ring within) ∙ slice_get-get_or rings k [] within)) covers

-- ---- the place of a row

pub by_ksid : (rings : List (List Range)) (k : ℕ) (o : Option (List ℕ)) (shard : ℕ) → CoversOnce (get_or rings k []) → option_map (shard_in rings k) o ≡ Some shard → shard < shard_count rings
by_ksid rings k None shard covers e = absurd (cc)
by_ksid rings k (Some ksid) shard covers e = subst (λ (s : ℕ). s < shard_count rings) (same_Some (shard_in rings k ksid) shard e) (ring_holds rings k ksid covers)

by_primary : (rings : List (List Range)) (k : ℕ) (o : Option Primary) (row : List Value) (shard : ℕ) → CoversOnce (get_or rings k []) → place_by rings k o row ≡ Some shard → shard < shard_count rings
by_primary rings k None row shard covers e = omega (arith, ring_holds rings k [] covers, same_Some (first_shard rings k) shard e)
by_primary rings k (Some primary) row shard covers e = by_ksid rings k _ shard covers e

pub placed_within : (catalog : Catalog) (number : ℕ) (table : Table) (row : List Value) (shard : ℕ) → CoversOnce (get_or catalog.rings table.keyspace []) → slice_get catalog.tables number ≡ Some table
    → place catalog number row ≡ Some shard → shard < shard_count catalog.rings
placed_within catalog number table row shard covers is e =
    by_primary catalog.rings table.keyspace table.primary row shard covers (sym (ap (option_and_then (λ (it : Table). place_in catalog it row)) is) ∙ e)

-- ---- what is known of rings that were read one after the other

abbrev pub AreCovering : List (List Range) → ℕ → Type 0
AreCovering rings count = (n : ℕ) → n < count → CoversOnce (get_or rings n [])

pub covering_more : (rings : List (List Range)) (i : ℕ) (ring : List Range) → i < length rings → ring ≡ get_or rings i ring → CoversOnce ring → AreCovering rings i → AreCovering rings (i + 1)
covering_more rings i ring within is covers before n below =
    elim (last_or_before n i below) [
      | inl last ↦ subst (λ (k : ℕ). CoversOnce (get_or rings k [])) (sym last) (covered rings i ring within is covers)
      | inr earlier ↦ before n earlier
    ]
  where
    last_or_before : (n i : ℕ) → n < i + 1 → (n ≡ i) ⊎ (n < i)
    last_or_before n i below = grind (arith, below)
