-- How often ranges in the order of their starts cover a keyspace id: by a front of them and by the rest.
use Rattle.std.proofs.Common.{◌≡◌, ℕ, ◌+◌, ◌<◌, ◌≤◌, List, length, take, drop, get_or, Bool, true, false, cond, refl, ap, ◌∙◌, inl, inr, arith, add-zero}
use Rattle.std.specs.Cmp.Lexicographic.{slice_cmp}
use Rattle.std.specs.List.{All, count_by}
use Rattle.std.specs.Ordering.{is_lt, nat_cmp}
use Rattle.std.proofs.lemmas.Bool.{cases_order}
use Rattle.std.proofs.lemmas.Cmp.{nat_list_cmp_total}
use Rattle.std.proofs.lemmas.List.{length-drop, length-take-le, get_or-drop, get_or-take, get_or_default}
use Rattle.std.proofs.lemmas.List.Sorted.{sorted_far, ranks_by}
use Rattle.std.proofs.lemmas.List.Sums.{sum_by-take-drop, sum_by-le, sum_by-drop_more, sum_by_more, get_or-le-sum_by}
use Rattle.vl_vindex.specs.KeyRange.{Range, comes_before, is_in}
use Rattle.vl_vindex.specs.Ring.{times_covered, IsInOrder}
use Rattle.vl_vindex.proofs.ByteOrder.{before_upto}

-- ---- counts

-- what a test adds to a count
pub one_if : (b : Bool) → b ≡ true → cond {A = ℕ} b 1 0 ≡ 1
one_if b holds = ap (λ (t : Bool). cond {A = ℕ} t 1 0) holds

pub none_if : (b : Bool) → b ≡ false → cond {A = ℕ} b 1 0 ≡ 0
none_if b fails = ap (λ (t : Bool). cond {A = ℕ} t 1 0) fails

-- where none passes
count_none : {X : Type 0} (p : X → Bool) (xs : List X) → All (λ x. p x ≡ false) xs → count_by p xs ≡ 0
count_none {X} p xs none =
    let zeros : All (λ x. cond (p x) 1 0 ≤ 0) xs = λ k d within. rw (none k d within) (omega arith) in
    omega (arith, sum_by-le (λ x. cond (p x) 1 0) 0 xs zeros)

-- where one passes
count_some : {X : Type 0} (p : X → Bool) (xs : List X) (i : ℕ) (d : X) → i < length xs → p (get_or xs i d) ≡ true → 1 ≤ count_by p xs
count_some p xs i d within passes =
    let one = one_if (p (get_or xs i d)) passes in
    omega (arith, get_or-le-sum_by (λ x. cond (p x) 1 0) xs i d within)

-- where two pass
count_two : {X : Type 0} (p : X → Bool) (xs : List X) (i j : ℕ) (d : X) → i < j → j < length xs → p (get_or xs i d) ≡ true
    → p (get_or xs j d) ≡ true → 2 ≤ count_by p xs
count_two {X} p xs i j d early within first second =
    let front_len = length-take-le j xs (omega arith) in
    let back_len = length-drop j xs in
    let front = count_some p (take j xs) i d (omega arith) (ap p (get_or-take j xs i d early) ∙ first) in
    let back = count_some p (drop j xs) 0 d (omega arith) (ap p (get_or-drop j xs 0 d ∙ ap (λ (k : ℕ). get_or xs k d) (add-zero j)) ∙ second) in
    omega (arith, front, back, sum_by-take-drop (λ x. cond (p x) 1 0) xs j)

-- where the count is one, one place passes
pub place_once : {X : Type 0} (p : X → Bool) (xs : List X) (i j : ℕ) (d e : X) → count_by p xs ≡ 1 → i < length xs → j < length xs
    → p (get_or xs i d) ≡ true → p (get_or xs j e) ≡ true → i ≡ j
place_once p xs i j d e once i_within j_within first second =
    let second_d : p (get_or xs j d) ≡ true = ap p (get_or_default xs j d e j_within) ∙ second in
    elim (cases_order i j) [
      | inl same ↦ same
      | inr (inl early) ↦ absurd (omega (arith, count_two p xs i j d early j_within first second_d))
      | inr (inr late) ↦ absurd (omega (arith, count_two p xs j i d late i_within second_d first))
    ]

-- ---- ranges in order

-- a later range starts no earlier
pub starts_far : (ranges : List Range) → IsInOrder ranges → (i j : ℕ) (d : Range) → i ≤ j → j < length ranges
    → comes_before (get_or ranges j d).start (get_or ranges i d).start ≡ false
starts_far ranges order =
    sorted_far (λ x y. is_lt (slice_cmp nat_cmp x.start y.start)) (ranks_by nat_list_cmp_total (λ (range : Range). range.start)) ranges order

-- a range that starts behind k doesn't hold it
pub not_in_later : (range : Range) (k : List ℕ) → comes_before k range.start ≡ true → is_in range k ≡ false
not_in_later range k before = rw before refl

-- where the range at i starts behind k, none from there on holds k
pub none_from : (ranges : List Range) (i : ℕ) (d : Range) (k : List ℕ) → IsInOrder ranges → i < length ranges
    → comes_before k (get_or ranges i d).start ≡ true → times_covered (drop i ranges) k ≡ 0
none_from ranges i d k order within before =
    count_none (λ range. is_in range k) (drop i ranges) (λ j e inside.
    let len = length-drop i ranges in
    let there : get_or (drop i ranges) j e ≡ get_or ranges (i + j) d =
    get_or-drop i ranges j e ∙ get_or_default ranges (i + j) e d (omega arith) in
    let far = starts_far ranges order i (i + j) d (omega arith) (omega arith) in
    let behind = before_upto k (get_or ranges i d).start (get_or ranges (i + j) d).start before far in
    ap (λ (range : Range). is_in range k) there ∙ not_in_later (get_or ranges (i + j) d) k behind)

-- the front and the rest
pub covered_by_parts : (ranges : List Range) (i : ℕ) (k : List ℕ)
    → times_covered (take i ranges) k + times_covered (drop i ranges) k ≡ times_covered ranges k
covered_by_parts ranges i k = sum_by-take-drop (λ range. cond (is_in range k) 1 0) ranges i

-- one range more
pub covered_more : (ranges : List Range) (i : ℕ) (d : Range) (k : List ℕ) → i < length ranges
    → times_covered (take (i + 1) ranges) k ≡ times_covered (take i ranges) k + cond (is_in (get_or ranges i d) k) 1 0
covered_more ranges i d k within = sum_by_more (λ range. cond (is_in range k) 1 0) ranges i d within

-- the rest holds what its first range holds
pub covered_by_next : (ranges : List Range) (i : ℕ) (d : Range) (k : List ℕ) → i < length ranges → is_in (get_or ranges i d) k ≡ true
    → 1 ≤ times_covered (drop i ranges) k
covered_by_next ranges i d k within holds =
    let one = one_if (is_in (get_or ranges i d) k) holds in
    omega (arith, sum_by-drop_more (λ range. cond (is_in range k) 1 0) ranges i d within)
