-- One range after another: what the first of them cover, where the next misses their end, and what
-- a search finds in a ring.
use Rattle.std.proofs.Common.{◌≡◌, ℕ, ◌+◌, ◌^◌, ◌<◌, ◌≤◌, List, [], ◌∷◌, length, take, get_or, Bool, true, false, ◌⊎◌, cond, refl, sym, ap, ◌∙◌, subst, inl, inr, arith}
use Rattle.std.specs.Prelude.{◌↔◌}
use Rattle.std.proofs.lemmas.Bool.{cases_Bool, cases_lt, cases_eq, false≢true}
use Rattle.std.proofs.lemmas.List.{get_or_default, take_all}
use Rattle.std.proofs.Common.{Result, Ok, Err}
use Rattle.std.specs.Prelude.{IsPermutation, OnOk, IfErr}
use Rattle.std.proofs.lemmas.List.Sorted.{length_permutation, sum_by-IsPermutation}
use Rattle.std.proofs.lemmas.List.Sums.{position_or_len_is}
use Rattle.vl_vindex.specs.Checking.{is_reached, Follows, Misses, IsCovered, IsLastStart}
use Rattle.vl_vindex.specs.KeyRange.{Range, comes_before, is_above, is_in}
use Rattle.vl_vindex.specs.Ring.{times_covered, CoversOnce, CoversOnceBefore, IsInOrder, IsRing, IsRingFault, IsShardOf, shard_of}
use Rattle.vl_vindex.specs.declared.ring_fault.RingFault.{RingFault}
use Rattle.vl_vindex.specs.declared.ring_fault.RingFault.TheVariants.{Gap, Overlap, Memory}
use Rattle.vl_vindex.proofs.ByteOrder.{before_back, before_itself, before_nil, before_upto}
use Rattle.vl_vindex.proofs.Covering.{covered_by_next, covered_by_parts, covered_more, none_from, none_if, not_in_later, one_if, place_once}

-- ---- ends

-- an end above s is above what stands before s
above_before : (end s k : List ℕ) → is_above end s ≡ true → comes_before k s ≡ true → is_above end k ≡ true
above_before [] s k above before = refl
above_before (b ∷ end) s k above before = before_upto k s (b ∷ end) before (before_back s (b ∷ end) above)

-- an end, and whether it is open, say together what stands below it
reached_is_above : (end : List ℕ) (endless : Bool) (k : List ℕ) → ((endless ≡ true) ↔ (end ≡ []))
    → is_reached end endless k ≡ is_above end k
reached_is_above [] endless k open_end = rw (open_end.1 refl) refl
reached_is_above (b ∷ end) true k open_end = absurd (cc (open_end.0 refl))
reached_is_above (b ∷ end) false k open_end = refl

-- ---- the ranges so far

pub covered_none : (ranges : List Range) → IsCovered ranges [] false 0
covered_none ranges = record {
  times = λ k. rw (before_nil k) refl;
  start = λ _. refl;
  first = λ d some. absurd (omega arith);
  next = λ n d later. absurd (omega arith);
  last = λ n d later. absurd (omega arith);
  ended = λ e. absurd (false≢true e);
}

-- the count with one range more, at one keyspace id
times_next : (range : Range) (reached k : List ℕ) (endless : Bool) (n m : ℕ) → Follows reached false range
    → ((endless ≡ true) ↔ (range.end ≡ [])) → n ≡ cond (comes_before k reached) 1 0 → m ≡ n + cond (is_in range k) 1 0
    → m ≡ cond (is_reached range.end endless k) 1 0
times_next range reached k endless n m follows open_end before more =
    let start_is = follows.joined in
    elim (cases_Bool (comes_before k reached)) [
      | inl inside ↦
          let early : comes_before k range.start ≡ true = ap (λ (s : List ℕ). comes_before k s) start_is ∙ inside in
          let above = above_before range.end range.start k follows.ordered early in
          let n_is = before ∙ one_if (comes_before k reached) inside in
          let none = none_if (is_in range k) (not_in_later range k early) in
          let all = one_if (is_reached range.end endless k) (reached_is_above range.end endless k open_end ∙ above) in
          omega (arith, n_is, none, all, more)
      | inr outside ↦
          let late : comes_before k range.start ≡ false = ap (λ (s : List ℕ). comes_before k s) start_is ∙ outside in
          let n_is = before ∙ none_if (comes_before k reached) outside in
          let held : is_in range k ≡ is_above range.end k = rw late refl in
          let same : cond {A = ℕ} (is_in range k) 1 0 ≡ cond (is_reached range.end endless k) 1 0 =
          ap (λ (b : Bool). cond {A = ℕ} b 1 0) (held ∙ sym (reached_is_above range.end endless k open_end)) in
          omega (arith, n_is, more, same)
    ]

pub covered_next : (ranges : List Range) (reached : List ℕ) (endless next_endless : Bool) (i : ℕ) (range : Range)
    → IsCovered ranges reached endless i → i < length ranges → range ≡ get_or ranges i range → Follows reached endless range
    → ((next_endless ≡ true) ↔ (range.end ≡ [])) → IsCovered ranges range.end next_endless (i + 1)
covered_next ranges reached endless next_endless i range covered within here follows open_end =
    let at : (d : Range) → get_or ranges i d ≡ range = λ d. get_or_default ranges i d range within ∙ sym here in
    let closed : Follows reached false range = record { closed = refl; joined = follows.joined; ordered = follows.ordered } in
    record {
      times = λ k.
          times_next range reached k next_endless _ _ closed open_end
          (covered.times k ∙ ap (λ (e : Bool). cond (is_reached reached e k) 1 0) follows.closed)
          (covered_more ranges i range k within
          ∙ ap (λ (r : Range). times_covered (take i ranges) k + cond (is_in r k) 1 0) (at range));
      start = λ e. absurd (omega arith);
      first = λ d _.
          elim (cases_eq i 0) [
            | inl none ↦
                ap (λ (n : ℕ). (get_or ranges n d).start) (sym none) ∙ ap (λ (r : Range). r.start) (at d)
                ∙ follows.joined ∙ covered.start none
            | inr some ↦ covered.first d (omega arith)
          ];
      next = λ n d later.
          elim (cases_lt (n + 1) i) [
            | inl early ↦ covered.next n d early
            | inr end ↦
                let is : n + 1 ≡ i = omega arith in
                covered.last n d is ∙ sym follows.joined
                ∙ sym (ap (λ (k : ℕ). (get_or ranges k d).start) is ∙ ap (λ (r : Range). r.start) (at d))
          ];
      last = λ n d end.
          let is : n ≡ i = omega arith in
          ap (λ (k : ℕ). (get_or ranges k d).end) is ∙ ap (λ (r : Range). r.end) (at d);
      ended = λ e. (open_end.0 e, omega arith);
    }

pub ring_when_covered : (ranges : List Range) (reached : List ℕ) (endless : Bool) → IsCovered ranges reached endless (length ranges)
    → endless ≡ true → IsInOrder ranges → length ranges ≤ 2 ^ 32 → IsRing ranges
ring_when_covered ranges reached endless covered open_end order few =
    let ended = covered.ended open_end in
    record {
      once = λ k.
          ap (λ (rs : List Range). times_covered rs k) (sym (take_all (length ranges) ranges (omega arith)))
          ∙ covered.times k
          ∙ ap (λ (e : Bool). cond (is_reached reached e k) 1 0) open_end;
      order = order;
      chain = record {
        some = ended.1;
        first = λ d. covered.first d ended.1;
        next = λ n d later. covered.next n d later;
        last = λ n d end. covered.last n d end ∙ ended.0;
      };
      few = few;
    }

-- ---- faults

pub gap_at_end : (ranges : List Range) (reached : List ℕ) (endless : Bool) → IsCovered ranges reached endless (length ranges)
    → endless ≡ false → IsRingFault ranges (Gap reached)
gap_at_end ranges reached endless covered closed =
    let times : (k : List ℕ) → times_covered ranges k ≡ cond (comes_before k reached) 1 0 = λ k.
    ap (λ (rs : List Range). times_covered rs k) (sym (take_all (length ranges) ranges (omega arith)))
    ∙ covered.times k
    ∙ ap (λ (e : Bool). cond (is_reached reached e k) 1 0) closed in (
      λ k before. times k ∙ ap (λ (b : Bool). cond b 1 0) before,
      times reached ∙ ap (λ (b : Bool). cond b 1 0) (before_itself reached),
    )

-- before the start of the range at i the count is that of the ranges before it
times_before : (ranges : List Range) (i : ℕ) (range : Range) (k : List ℕ) → IsInOrder ranges → i < length ranges
    → range ≡ get_or ranges i range → comes_before k range.start ≡ true → times_covered ranges k ≡ times_covered (take i ranges) k
times_before ranges i range k order within here before =
    let P : Range → Type 0 = λ r. comes_before k r.start ≡ true in
    let none = none_from ranges i range k order within (subst P here before) in
    omega (arith, none, covered_by_parts ranges i k)

pub fault_when_missed : (ranges : List Range) (reached : List ℕ) (endless : Bool) (i : ℕ) (range : Range) (fault : RingFault)
    → IsCovered ranges reached endless i → i < length ranges → range ≡ get_or ranges i range → IsInOrder ranges
    → Misses reached endless range fault → IsRingFault ranges fault
fault_when_missed ranges reached endless i range (Gap after) covered within here order missed =
    let times : (k : List ℕ) → times_covered (take i ranges) k ≡ cond (comes_before k reached) 1 0 = λ k.
    covered.times k ∙ ap (λ (e : Bool). cond (is_reached reached e k) 1 0) missed.0 in
    let G : List ℕ → Type 0 = λ place. CoversOnceBefore ranges place × (times_covered ranges place ≡ 0) in
    subst G (sym missed.1) (
      λ k before.
          let early = before_upto k reached range.start before (before_back reached range.start missed.2) in
          times_before ranges i range k order within here early ∙ times k ∙ ap (λ (b : Bool). cond b 1 0) before,
      times_before ranges i range reached order within here missed.2 ∙ times reached
          ∙ ap (λ (b : Bool). cond b 1 0) (before_itself reached),
    )
fault_when_missed ranges reached endless i range (Overlap at) covered within here order missed =
    let G : List ℕ → Type 0 = λ place. CoversOnceBefore ranges place × (1 < times_covered ranges place) in
    let start_reached : is_reached reached endless range.start ≡ true = subst (λ (s : List ℕ). is_reached reached endless s ≡ true) missed.0 missed.1 in
    let held : is_in range range.start ≡ true = rw (before_itself range.start) missed.2 in
    let P : Range → Type 0 = λ r. is_in r range.start ≡ true in
    let next = covered_by_next ranges i range range.start within (subst P here held) in
    let front = covered.times range.start ∙ ap (λ (b : Bool). cond b 1 0) start_reached in
    subst G (sym missed.0) (
      λ k before.
          times_before ranges i range k order within here before ∙ covered.times k
          ∙ ap (λ (b : Bool). cond b 1 0) (reached_before reached endless range.start k start_reached before),
      omega (arith, next, front, covered_by_parts ranges i range.start),
    )
  where
    reached_before : (reached : List ℕ) (endless : Bool) (s k : List ℕ) → is_reached reached endless s ≡ true
        → comes_before k s ≡ true → is_reached reached endless k ≡ true
    reached_before reached true s k r before = refl
    reached_before reached false s k r before = before_upto k s reached before (before_back s reached r)
fault_when_missed ranges reached endless i range Memory covered within here order missed = absurd missed

-- ---- a search in a ring

above_next : (after k : List ℕ) → comes_before k after ≡ true → is_above after k ≡ true
above_next [] k before = refl
above_next (b ∷ after) k before = before

-- an end that is open, or is the start of a range behind k, is above k
above_found : (end after k : List ℕ) → (end ≡ []) ⊎ ((end ≡ after) × (comes_before k after ≡ true)) → is_above end k ≡ true
above_found end after k (inl open_end) = ap (λ (e : List ℕ). is_above e k) open_end
above_found end after k (inr next) = ap (λ (e : List ℕ). is_above e k) next.0 ∙ above_next after k next.1

-- the range found holds the keyspace id
holds_found : (range : Range) (k after : List ℕ) → comes_before k range.start ≡ false
    → (range.end ≡ []) ⊎ ((range.end ≡ after) × (comes_before k after ≡ true)) → is_in range k ≡ true
holds_found range k after from room = rw from (above_found range.end after k room)

pub shard_when_found : (ring : List Range) (k : List ℕ) (n : ℕ) → IsRing ring → IsLastStart ring k n → IsShardOf ring k n
shard_when_found ring k n is_ring found =
    let within = found.within in
    let holds : (d : Range) → is_in (get_or ring n d) k ≡ true = λ d.
    elim (cases_lt (n + 1) (length ring)) [
      | inl later ↦
          holds_found (get_or ring n d) k (get_or ring (n + 1) d).start (found.from d)
          (inr (is_ring.chain.next n d later, found.to d later))
      | inr end ↦
          holds_found (get_or ring n d) k [] (found.from d) (inl (is_ring.chain.last n d (omega arith)))
    ] in
    record {
      within = within;
      holds = holds;
      only = λ m d inside held. place_once (λ range. is_in range k) ring m n d d (is_ring.once k) inside within held (holds d);
    }

-- the shard that holds a keyspace id is the first that does
pub shard_of-is : (ring : List Range) (k : List ℕ) (n : ℕ) → IsShardOf ring k n → n ≡ shard_of ring k
shard_of-is ring k n is =
    let within = is.within in
    let d : Range = record { start = []; end = [] } in
    sym (position_or_len_is (λ range. is_in range k) ring n d (omega arith)
    (λ m early.
    elim (cases_Bool (is_in (get_or ring m d) k)) [
      | inl held ↦ absurd (let same = is.only m d (omega arith) held in omega arith)
      | inr not_held ↦ not_held
    ])
    (λ _. is.holds d))

-- ---- in another order

-- the same ranges in another order cover as often
pub times_sorted : (ranges sorted : List Range) (k : List ℕ) → IsPermutation ranges sorted
    → times_covered ranges k ≡ times_covered sorted k
times_sorted ranges sorted k moved = sym (sum_by-IsPermutation (λ range. cond (is_in range k) 1 0) ranges sorted moved)

covers_sorted : (ranges sorted : List Range) → IsPermutation ranges sorted → IsRing sorted → CoversOnce ranges
covers_sorted ranges sorted moved ring k = times_sorted ranges sorted k moved ∙ ring.once k

fault_sorted : (ranges sorted : List Range) (fault : RingFault) → IsPermutation ranges sorted → IsRingFault sorted fault
    → IsRingFault ranges fault
fault_sorted ranges sorted (Gap after) moved wrong = (
  λ k before. times_sorted ranges sorted k moved ∙ wrong.0 k before,
  times_sorted ranges sorted after moved ∙ wrong.1,
)
fault_sorted ranges sorted (Overlap at) moved wrong =
    let more : 1 < times_covered sorted at = wrong.1 in
    (λ k before. times_sorted ranges sorted k moved ∙ wrong.0 k before, omega (arith, times_sorted ranges sorted at moved, more))
fault_sorted ranges sorted Memory moved wrong =
    let many : 2 ^ 32 < length sorted = wrong in
    omega (arith, many, length_permutation ranges sorted moved)

-- what the making of a ring answers for the ranges in order holds of them in any order
pub ok_sorted : {T : Type 0} (ranges sorted : List Range) (r : Result T RingFault) → IsPermutation ranges sorted
    → OnOk r (IsRing sorted) → OnOk r (CoversOnce ranges)
ok_sorted ranges sorted (Ok ring) moved is = covers_sorted ranges sorted moved is
ok_sorted ranges sorted (Err fault) moved is = tt

pub err_sorted : {T : Type 0} (ranges sorted : List Range) (r : Result T RingFault) → IsPermutation ranges sorted
    → IfErr r (IsRingFault sorted) → IfErr r (IsRingFault ranges)
err_sorted ranges sorted (Ok ring) moved is = tt
err_sorted ranges sorted (Err fault) moved is = fault_sorted ranges sorted fault moved is
