-- Rings: how often ranges cover a keyspace id, and which shard holds it.
use Rattle.std.specs.Prelude.{◌≡◌, ℕ, ◌+◌, ◌^◌, ◌<◌, ◌≤◌, List, [], length, true, slice_index_or}
use Rattle.std.specs.Cmp.Lexicographic.{slice_cmp}
use Rattle.std.specs.List.{count_by, position_or_len}
use Rattle.std.specs.List.Sorted.{IsSortedByKey}
use Rattle.std.specs.Ordering.{nat_cmp}
use Rattle.vl_vindex.specs.KeyRange.{Range, comes_before, is_in}
use Rattle.vl_vindex.specs.declared.ring_fault.RingFault.{RingFault}
use Rattle.vl_vindex.specs.declared.ring_fault.RingFault.TheVariants.{Gap, Overlap, Memory}

-- how many of the ranges hold keyspace id k
abbrev pub times_covered : List Range → List ℕ → ℕ
times_covered ranges k = count_by (λ range. is_in range k) ranges

-- each keyspace id is in exactly one of the ranges
abbrev pub CoversOnce : List Range → Type 0
CoversOnce ranges = (k : List ℕ) → times_covered ranges k ≡ 1

-- the shard of keyspace id k: the place in the ring of the first range that holds it
abbrev pub shard_of : List Range → List ℕ → ℕ
shard_of ring k = position_or_len (λ range. is_in range k) ring

-- shard n holds keyspace id k, and no other shard does
pub record IsShardOf (ring : List Range) (k : List ℕ) (n : ℕ) : Type 0 where
  pub within : n < length ring
  pub holds : (d : Range) → is_in (slice_index_or ring n d) k ≡ true
  pub only : (m : ℕ) (d : Range) → m < length ring → is_in (slice_index_or ring m d) k ≡ true → m ≡ n

-- the ranges stand in the order of their starts
abbrev pub IsInOrder : List Range → Type 0
IsInOrder ring = IsSortedByKey (λ (range : Range). range.start) (slice_cmp nat_cmp) ring

-- each keyspace id before this one is in exactly one of the ranges
abbrev pub CoversOnceBefore : List Range → List ℕ → Type 0
CoversOnceBefore ranges place = (k : List ℕ) → comes_before k place ≡ true → times_covered ranges k ≡ 1

-- the ranges are no ring: the least keyspace id that isn't in exactly one of them is in none (a
-- gap) or in more (an overlap); or they are too many to number
abbrev pub IsRingFault : List Range → RingFault → Type 0
IsRingFault ranges (Gap after) = CoversOnceBefore ranges after × (times_covered ranges after ≡ 0)
IsRingFault ranges (Overlap at) = CoversOnceBefore ranges at × (1 < times_covered ranges at)
IsRingFault ranges Memory = 2 ^ 32 < length ranges

-- the end of a range is the start of the next, from the empty start to the open end
pub record IsChain (ring : List Range) : Type 0 where
  pub some : 0 < length ring
  pub first : (d : Range) → (slice_index_or ring 0 d).start ≡ []
  pub next : (n : ℕ) (d : Range) → n + 1 < length ring → (slice_index_or ring n d).end ≡ (slice_index_or ring (n + 1) d).start
  pub last : (n : ℕ) (d : Range) → n + 1 ≡ length ring → (slice_index_or ring n d).end ≡ []

-- what each ring keeps
pub record IsRing (ring : List Range) : Type 0 where
  pub once : CoversOnce ring
  pub order : IsInOrder ring
  pub chain : IsChain ring
  pub few : length ring ≤ 2 ^ 32
