-- What the making of a ring and the search in it find on their way.
use Rattle.std.specs.Prelude.{◌≡◌, ℕ, ◌+◌, ◌<◌, List, [], length, take, Bool, true, false, ◌||◌, if◌then◌else◌, slice_index_or}
use Rattle.vl_vindex.specs.KeyRange.{Range, comes_before, is_ordered}
use Rattle.vl_vindex.specs.Ring.{times_covered}
use Rattle.vl_vindex.specs.declared.ring_fault.RingFault.{RingFault}
use Rattle.vl_vindex.specs.declared.ring_fault.RingFault.TheVariants.{Gap, Overlap, Memory}

-- whether ranges that end at `reached`, or are endless, hold keyspace id k
abbrev pub is_reached : List ℕ → Bool → List ℕ → Bool
is_reached reached endless k = endless || comes_before k reached

-- a range begins where those before it end
pub record Follows (reached : List ℕ) (endless : Bool) (range : Range) : Type 0 where
  pub closed : endless ≡ false
  pub joined : range.start ≡ reached
  pub ordered : is_ordered range ≡ true

-- a range begins behind the end of those before it, or before their end
abbrev pub Misses : List ℕ → Bool → Range → RingFault → Type 0
Misses reached endless range (Gap after) = (endless ≡ false) × (after ≡ reached) × (comes_before reached range.start ≡ true)
Misses reached endless range (Overlap at) = (at ≡ range.start) × (is_reached reached endless at ≡ true) × (is_ordered range ≡ true)
Misses reached endless range Memory = ⊥

-- the first i ranges cover each keyspace id before `reached` once, or all where their end is open,
-- and each is joined to the next
pub record IsCovered (ranges : List Range) (reached : List ℕ) (endless : Bool) (i : ℕ) : Type 0 where
  pub times : (k : List ℕ) → times_covered (take i ranges) k ≡ (if is_reached reached endless k then 1 else 0)
  pub start : i ≡ 0 → reached ≡ []
  pub first : (d : Range) → 0 < i → (slice_index_or ranges 0 d).start ≡ []
  pub next : (n : ℕ) (d : Range) → n + 1 < i → (slice_index_or ranges n d).end ≡ (slice_index_or ranges (n + 1) d).start
  pub last : (n : ℕ) (d : Range) → n + 1 ≡ i → (slice_index_or ranges n d).end ≡ reached
  pub ended : endless ≡ true → (reached ≡ []) × (0 < i)

-- keyspace id k stands no earlier than the start of range n, and before that of the next
pub record IsLastStart (ranges : List Range) (k : List ℕ) (n : ℕ) : Type 0 where
  pub within : n < length ranges
  pub from : (d : Range) → comes_before k (slice_index_or ranges n d).start ≡ false
  pub to : (d : Range) → n + 1 < length ranges → comes_before k (slice_index_or ranges (n + 1) d).start ≡ true
