-- Elements of lists by their places, and tests over lists.
use Rattle.std.proofs.Common.{◌≡◌, ℕ, zero, suc, ◌+◌, ◌<◌, ◌≤◌, Bool, true, false, cond, ◌||◌, ◌==◌, List, [], ◌∷◌, length, take, drop, slice_get, count_by, find, Some, refl, sym, ap, subst, ◌∙◌, arith}
use Rattle.std.specs.Cmp.Lexicographic.{pointwise}
use Rattle.std.specs.List.{enumerate_from, list_any}
use Rattle.std.specs.Option.{option_map_or}
use Rattle.std.proofs.lemmas.Bool.{eq-eqb, eqb-true}
use Rattle.std.proofs.lemmas.List.Sums.{sum_by-cons}
use Rattle.vl_rules.specs.Kept.{IsIn}
use Rattle.vl_rules.proofs.Passed.{both, neither, other_one}

-- ---- a number of a list of numbers

pub is_in_among : (ns : List ℕ) (n : ℕ) → list_any (λ m. m == n) ns ≡ true → IsIn ns n
is_in_among [] n among = cc
is_in_among (m ∷ ms) n among =
    elim (m == n) as (λ b. (m == n) ≡ b → IsIn (m ∷ ms) n) [
      | true ↦ λ same. (0, ap (λ (k : ℕ). Some k) (eqb-true m n same))
      | false ↦ λ other. let rest = is_in_among ms n (other_one (m == n) (list_any (λ k. k == n) ms) among other) in (suc rest.0, rest.1)
    ]
    refl

pub among_is_in : (ns : List ℕ) (n : ℕ) → IsIn ns n → list_any (λ m. m == n) ns ≡ true
among_is_in [] n (k, at) = cc
among_is_in (m ∷ ms) n (zero, at) = let same : m ≡ n = cc in ap (λ (b : Bool). b || list_any (λ k. k == n) ms) (eq-eqb m n same)
among_is_in (m ∷ ms) n (suc k, at) =
    let rest = among_is_in ms n (k, at) in
    elim (m == n) as (λ b. (b || list_any (λ j. j == n) ms) ≡ true) [ true ↦ refl | false ↦ rest ]

-- ---- the first that passes

pub first_passing : {X : Type 0} (test : X → Bool) (xs : List X) → list_any test xs ≡ true
    → (i : ℕ) × (x : X) × (slice_get xs i ≡ Some x) × (test x ≡ true) × (list_any test (take i xs) ≡ false)
first_passing test [] some = cc
first_passing {X} test (y ∷ ys) some =
    elim (test y) as (λ b. test y ≡ b → (i : ℕ) × (x : X) × (slice_get (y ∷ ys) i ≡ Some x) × (test x ≡ true) × (list_any test (take i (y ∷ ys)) ≡ false)) [
      | true ↦ λ passes. (0, y, refl, passes, refl)
      | false ↦ λ fails.
          let rest = first_passing test ys (other_one (test y) (list_any test ys) some fails) in
          (suc rest.0, rest.1, rest.2, rest.3, ap (λ (b : Bool). b || list_any test (take rest.0 ys)) fails ∙ rest.4)
    ]
    refl

pub taken_at : {X : Type 0} (xs : List X) (i j : ℕ) (x : X) → j < i → slice_get xs j ≡ Some x → slice_get (take i xs) j ≡ Some x
taken_at [] i j x before at = cc
taken_at (y ∷ ys) zero j x before at = absurd (omega arith)
taken_at (y ∷ ys) (suc i) zero x before at = at
taken_at (y ∷ ys) (suc i) (suc j) x before at = taken_at ys i j x (omega arith) at

pub dropped_at : {X : Type 0} (xs : List X) (i j : ℕ) (x : X) → slice_get xs (i + j) ≡ Some x → slice_get (drop i xs) j ≡ Some x
dropped_at xs zero j x at = let place : 0 + j ≡ j = omega arith in subst (λ (k : ℕ). slice_get xs k ≡ Some x) place at
dropped_at [] (suc i) j x at = cc
dropped_at {X} (y ∷ ys) (suc i) j x at =
    let place : suc i + j ≡ suc (i + j) = omega arith in
    dropped_at ys i j x (subst (λ (k : ℕ). slice_get (y ∷ ys) k ≡ Some x) place at)

-- what is found fails where no element passes
pub found_fails : {X : Type 0} (test which : X → Bool) (xs : List X) → list_any test xs ≡ false → option_map_or test (find which xs) false ≡ false
found_fails test which [] none = refl
found_fails test which (y ∷ ys) none =
    let parts = neither (test y) (list_any test ys) none in
    let rest = found_fails test which ys parts.1 in
    elim (which y) as (λ b. option_map_or test (cond b (Some y) (find which ys)) false ≡ false) [ true ↦ parts.0 | false ↦ rest ]

-- ---- counts

count_first : {X : Type 0} (test : X → Bool) (y : X) (ys : List X) → test y ≡ true → count_by test (y ∷ ys) ≡ 1 + count_by test ys
count_first test y ys passes =
    let one : cond {A = ℕ} (test y) 1 0 ≡ 1 = ap (λ (b : Bool). cond {A = ℕ} b 1 0) passes in
    sum_by-cons (λ z. cond {A = ℕ} (test z) 1 0) y ys ∙ ap (λ (n : ℕ). n + count_by test ys) one

count_rest : {X : Type 0} (test : X → Bool) (y : X) (ys : List X) → count_by test ys ≤ count_by test (y ∷ ys)
count_rest test y ys = let sum = sum_by-cons (λ z. cond {A = ℕ} (test z) 1 0) y ys in omega arith

counted : {X : Type 0} (test : X → Bool) (xs : List X) (i : ℕ) (x : X) → slice_get xs i ≡ Some x → test x ≡ true → 1 ≤ count_by test xs
counted test [] i x at passes = cc
counted test (y ∷ ys) zero x at passes =
    let same : y ≡ x = cc in
    let count = count_first test y ys (ap test same ∙ passes) in
    omega arith
counted test (y ∷ ys) (suc i) x at passes =
    let rest = counted test ys i x at passes in
    let fewer = count_rest test y ys in
    omega arith

-- at most one element passes
pub only_one : {X : Type 0} (test : X → Bool) (xs : List X) (i j : ℕ) (x y : X) → count_by test xs ≤ 1 → slice_get xs i ≡ Some x → test x ≡ true
    → slice_get xs j ≡ Some y → test y ≡ true → i ≡ j
only_one test [] i j x y most at passes at' passes' = cc
only_one test (z ∷ zs) zero zero x y most at passes at' passes' = refl
only_one test (z ∷ zs) zero (suc j) x y most at passes at' passes' =
    let same : z ≡ x = cc in
    let count = count_first test z zs (ap test same ∙ passes) in
    let rest = counted test zs j y at' passes' in
    absurd (omega arith)
only_one test (z ∷ zs) (suc i) zero x y most at passes at' passes' =
    let same : z ≡ y = cc in
    let count = count_first test z zs (ap test same ∙ passes') in
    let rest = counted test zs i x at passes in
    absurd (omega arith)
only_one test (z ∷ zs) (suc i) (suc j) x y most at passes at' passes' =
    let fewer = count_rest test z zs in
    ap suc (only_one test zs i j x y (omega arith) at passes at' passes')

-- ---- elements with their places, and lists pair by pair

pub numbered_at : {X : Type 0} (xs : List X) (i n : ℕ) (x : X) → slice_get xs n ≡ Some x → slice_get (enumerate_from i xs) n ≡ Some (i + n, x)
numbered_at [] i n x at = cc
numbered_at {X} (y ∷ ys) i zero x at =
    let same : y ≡ x = cc in
    let place : i ≡ i + 0 = omega arith in
    ap (λ (k : ℕ). Some (k, y)) place ∙ ap (λ (z : X). Some (i + 0, z)) same
numbered_at {X} (y ∷ ys) i (suc n) x at =
    let place : i + 1 + n ≡ i + suc n = omega arith in
    numbered_at ys (i + 1) n x at ∙ ap (λ (k : ℕ). Some (k, x)) place

pub paired_at : {X Y : Type 0} (test : X → Y → Bool) (xs : List X) (ys : List Y) (k : ℕ) (x : X) (y : Y) → pointwise test xs ys ≡ true
    → slice_get xs k ≡ Some x → slice_get ys k ≡ Some y → test x y ≡ true
paired_at test [] ys k x y all at at' = cc
paired_at test (a ∷ as') [] k x y all at at' = cc
paired_at {X} {Y} test (a ∷ more) (b ∷ rest) zero x y all at at' =
    let same : a ≡ x = cc in
    let same' : b ≡ y = cc in
    ap (λ (z : X). test z y) (sym same) ∙ ap (λ (z : Y). test a z) (sym same') ∙ (both (test a b) (pointwise test more rest) all).0
paired_at test (a ∷ more) (b ∷ rest) (suc k) x y all at at' = paired_at test more rest k x y (both (test a b) (pointwise test more rest) all).1 at at'

pub as_long : {X Y : Type 0} (test : X → Y → Bool) (xs : List X) (ys : List Y) → pointwise test xs ys ≡ true → length xs ≡ length ys
as_long test [] [] all = refl
as_long test [] (y ∷ ys) all = cc
as_long test (x ∷ xs) [] all = cc
as_long test (x ∷ xs) (y ∷ ys) all = ap suc (as_long test xs ys (both (test x y) (pointwise test xs ys) all).1)

pub numbered : {X : Type 0} (xs : List X) (n : ℕ) (x : X) → slice_get xs n ≡ Some x → slice_get (enumerate_from 0 xs) n ≡ Some (n, x)
numbered {X} xs n x at =
    let place : 0 + n ≡ n = omega arith in
    numbered_at xs 0 n x at ∙ ap (λ (k : ℕ). Some (k, x)) place
