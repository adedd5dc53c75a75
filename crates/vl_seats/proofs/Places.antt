-- Elements of a list by their places, where one was replaced, removed or added.
use Rattle.std.proofs.Common.{◌≡◌, ◌≢◌, ◌∙◌, ◌<◌, ◌==◌, ◌++◌, ◌⊎◌, ℕ, zero, suc, Contains, Bool, true, false, List, [], ◌∷◌, ap, inl, inr, refl, sym, subst, true≢false, arith, length, Some}
use Rattle.std.specs.List.{AllPairs}
use Rattle.std.proofs.lemmas.Bool.{eq-eqb, eqb-true}
use Rattle.std.proofs.lemmas.List.Quantifiers.{all_pairs_push}
use Rattle.std.proofs.lemmas.Option.{get_or_from_slice_get, same_Some, slice_get-get_or, slice_get_within}
use Rattle.std.specs.Prelude.{cond, filter, not, remove, slice_get, slice_set}

pub get_set : {X : Type 0} (xs : List X) (i : ℕ) (x : X) → i < length xs → slice_get (slice_set xs i x) i ≡ Some x
get_set [] i x below = absurd (omega (arith, below))
get_set (y ∷ xs) zero x below = refl
get_set (y ∷ xs) (suc i) x below = get_set xs i x (omega (arith, below))

pub get_set_other : {X : Type 0} (xs : List X) (i j : ℕ) (x : X) → j ≢ i → slice_get (slice_set xs i x) j ≡ slice_get xs j
get_set_other [] i j x apart = refl
get_set_other (y ∷ xs) zero zero x apart = absurd (apart refl)
get_set_other (y ∷ xs) zero (suc j) x apart = refl
get_set_other (y ∷ xs) (suc i) zero x apart = refl
get_set_other (y ∷ xs) (suc i) (suc j) x apart = get_set_other xs i j x (λ same. apart (ap suc same))

-- a number that stands once has one place
apart_at : (xs : List ℕ) (i j x : ℕ) → AllPairs (λ one other. one ≢ other) xs → i < j → slice_get xs i ≡ Some x → slice_get xs j ≡ Some x → ⊥
apart_at xs i j x apart below there here = apart i j x below (slice_get_within xs j x here) (get_or_from_slice_get xs i x x there ∙ sym (get_or_from_slice_get xs j x x here))

pub one_place : (xs : List ℕ) (i j x : ℕ) → AllPairs (λ one other. one ≢ other) xs → slice_get xs i ≡ Some x → slice_get xs j ≡ Some x → i ≡ j
one_place xs i j x apart there here = elim (three i j) [ inl below ↦ absurd (apart_at xs i j x apart below there here) | inr rest ↦ elim rest [ inl same ↦ same | inr above ↦ absurd (apart_at xs j i x apart above here there) ] ]
  where
    three : (a b : ℕ) → (a < b) ⊎ ((a ≡ b) ⊎ (b < a))
    three zero zero = inr (inl refl)
    three zero (suc b) = inl (omega arith)
    three (suc a) zero = inr (inr (omega arith))
    three (suc a) (suc b) = elim (three a b) [ inl below ↦ inl (omega (arith, below)) | inr rest ↦ elim rest [ inl same ↦ inr (inl (ap suc same)) | inr above ↦ inr (inr (omega (arith, above))) ] ]

-- ---- one more at the end

pub get_append : {X : Type 0} (xs : List X) (x : X) (i : ℕ) (y : X) → slice_get (xs ++ x ∷ []) i ≡ Some y → (slice_get xs i ≡ Some y) ⊎ ((i ≡ length xs) × (y ≡ x))
get_append [] x zero y is = inr (refl, sym (same_Some x y is))
get_append [] x (suc i) y is = absurd (cc)
get_append (z ∷ xs) x zero y is = inl is
get_append (z ∷ xs) x (suc i) y is = elim (get_append xs x i y is) [ inl there ↦ inl there | inr end ↦ inr (ap suc end.0, end.1) ]

-- ---- one less

-- the place before one was removed
abbrev pub skip : ℕ → ℕ → ℕ
skip zero j = suc j
skip (suc i) zero = zero
skip (suc i) (suc j) = suc (skip i j)

pub skip_apart : (i j : ℕ) → skip i j ≢ i
skip_apart zero j same = cc
skip_apart (suc i) zero same = cc
skip_apart (suc i) (suc j) same = skip_apart i j (omega (arith, same))

pub get_remove : {X : Type 0} (xs : List X) (i j : ℕ) → i < length xs → slice_get (remove xs i) j ≡ slice_get xs (skip i j)
get_remove [] i j below = absurd (omega (arith, below))
get_remove (x ∷ xs) zero j below = refl
get_remove (x ∷ xs) (suc i) zero below = refl
get_remove (x ∷ xs) (suc i) (suc j) below = get_remove xs i j (omega (arith, below))

pub length_remove : {X : Type 0} (xs : List X) (i : ℕ) → i < length xs → suc (length (remove xs i)) ≡ length xs
length_remove [] i below = absurd (omega (arith, below))
length_remove (x ∷ xs) zero below = refl
length_remove (x ∷ xs) (suc i) below = ap suc (length_remove xs i (omega (arith, below)))

tail_pairs : (x : ℕ) (xs : List ℕ) → AllPairs (λ one other. one ≢ other) (x ∷ xs) → AllPairs (λ one other. one ≢ other) xs
tail_pairs x xs pairs = λ i j d below within. pairs (suc i) (suc j) d (omega (arith, below)) (omega (arith, within))

kept_by : (n x : ℕ) (rest : List ℕ) → (x == n) ≡ false → filter (λ m. not (m == n)) (x ∷ rest) ≡ x ∷ filter (λ m. not (m == n)) rest
kept_by n x rest other = ap (λ (b : Bool). cond (not b) (x ∷ filter (λ m. not (m == n)) rest) (filter (λ m. not (m == n)) rest)) other

unequal : (a b : ℕ) → (a ≡ b → ⊥) → (a == b) ≡ false
unequal a b apart = by_test (a == b) refl
  where
    by_test : (t : Bool) → (a == b) ≡ t → (a == b) ≡ false
    by_test true is = absurd (apart (eqb-true a b is))
    by_test false is = is

filter_all : (n : ℕ) (xs : List ℕ) → ((k : ℕ) → slice_get xs k ≡ Some n → ⊥) → filter (λ m. not (m == n)) xs ≡ xs
filter_all n [] none = refl
filter_all n (x ∷ xs) none = kept_by n x xs (unequal x n (λ same. none zero (ap Some same))) ∙ ap (λ (l : List ℕ). x ∷ l) (filter_all n xs (λ k is. none (suc k) is))

pub filter_out : (xs : List ℕ) (i n : ℕ) → AllPairs (λ one other. one ≢ other) xs → slice_get xs i ≡ Some n → filter (λ m. not (m == n)) xs ≡ remove xs i
filter_out [] i n pairs is = absurd (cc)
filter_out (x ∷ xs) zero n pairs is =
    ap (λ (b : Bool). cond (not b) (x ∷ filter (λ m. not (m == n)) xs) (filter (λ m. not (m == n)) xs)) (eq-eqb x n (same_Some x n is))
    ∙ filter_all n xs (λ k there. apart_at (x ∷ xs) zero (suc k) n pairs (omega arith) is there)
filter_out (x ∷ xs) (suc i) n pairs is =
    kept_by n x xs (unequal x n (λ same. apart_at (x ∷ xs) zero (suc i) n pairs (omega arith) (ap Some same) is)) ∙ ap (λ (l : List ℕ). x ∷ l) (filter_out xs i n (tail_pairs x xs pairs) is)

-- ---- elements

pub contains_get : {X : Type 0} (xs : List X) (i : ℕ) (x : X) → slice_get xs i ≡ Some x → Contains xs x
contains_get xs i x is = (i, slice_get_within xs i x is, get_or_from_slice_get xs i x x is)

pub one_of : (a n : ℕ) → Contains (a ∷ []) n → a ≡ n
one_of a n (zero, below, is) = is
one_of a n (suc k, below, is) = absurd (omega (arith, below))

pub pairs_with : (xs : List ℕ) (x : ℕ) → AllPairs (λ one other. one ≢ other) xs → (Contains xs x → ⊥) → AllPairs (λ one other. one ≢ other) (xs ++ x ∷ [])
pairs_with xs x pairs none = all_pairs_push (λ one other. one ≢ other) xs x pairs (λ k d below same. none (contains_get xs k x (slice_get-get_or xs k d below ∙ ap Some same)))

-- ---- what a filter leaves

cons_cases : (x : ℕ) (xs : List ℕ) (m : ℕ) → Contains (x ∷ xs) m → (x ≡ m) ⊎ Contains xs m
cons_cases x xs m (zero, below, is) = inl is
cons_cases x xs m (suc k, below, is) = inr (k, omega (arith, below), is)

behind_one : (x : ℕ) (xs : List ℕ) (m : ℕ) → Contains xs m → Contains (x ∷ xs) m
behind_one x xs m (k, below, is) = (suc k, omega (arith, below), is)

abbrev others : ℕ → List ℕ → List ℕ
others n xs = filter (λ k. not (k == n)) xs

dropped_by : (n x : ℕ) (rest : List ℕ) → (x == n) ≡ true → others n (x ∷ rest) ≡ others n rest
dropped_by n x rest same = ap (λ (b : Bool). cond (not b) (x ∷ others n rest) (others n rest)) same

pub filter_without : (xs : List ℕ) (n : ℕ) → Contains (filter (λ k. not (k == n)) xs) n → ⊥
filter_without [] n (k, below, is) = absurd (omega (arith, below))
filter_without (x ∷ xs) n there = by_test (filter_without xs n) (x == n) refl
  where
    by_test : (Contains (others n xs) n → ⊥) → (t : Bool) → (x == n) ≡ t → ⊥
    by_test rest_none true is = rest_none (subst (λ (l : List ℕ). Contains l n) (dropped_by n x xs is) there)
    by_test rest_none false is =
        elim (cons_cases x (others n xs) n (subst (λ (l : List ℕ). Contains l n) (kept_by n x xs is) there)) [ inl same ↦ true≢false (sym (eq-eqb x n same) ∙ is) | inr rest ↦ rest_none rest ]

pub filter_with : (xs : List ℕ) (n m : ℕ) → (n == m) ≡ false → Contains xs m → Contains (filter (λ k. not (k == n)) xs) m
filter_with [] n m other (k, below, is) = absurd (omega (arith, below))
filter_with (x ∷ xs) n m other there = by_test (filter_with xs n m other) (x == n) refl (cons_cases x xs m there)
  where
    by_test : (Contains xs m → Contains (others n xs) m) → (t : Bool) → (x == n) ≡ t → (x ≡ m) ⊎ Contains xs m → Contains (others n (x ∷ xs)) m
    by_test with_rest true is (inl same) = absurd (true≢false (sym (eq-eqb n m (sym (eqb-true x n is) ∙ same)) ∙ other))
    by_test with_rest true is (inr rest) = subst (λ (l : List ℕ). Contains l m) (sym (dropped_by n x xs is)) (with_rest rest)
    by_test with_rest false is (inl same) = subst (λ (l : List ℕ). Contains l m) (sym (kept_by n x xs is)) (0, omega arith, same)
    by_test with_rest false is (inr rest) = subst (λ (l : List ℕ). Contains l m) (sym (kept_by n x xs is)) (behind_one x (others n xs) m (with_rest rest))

pub filter_back : (xs : List ℕ) (n m : ℕ) → Contains (filter (λ k. not (k == n)) xs) m → Contains xs m
filter_back [] n m there = there
filter_back (x ∷ xs) n m there = by_test (filter_back xs n m) (x == n) refl
  where
    by_test : (Contains (others n xs) m → Contains xs m) → (t : Bool) → (x == n) ≡ t → Contains (x ∷ xs) m
    by_test back true is = behind_one x xs m (back (subst (λ (l : List ℕ). Contains l m) (dropped_by n x xs is) there))
    by_test back false is =
        elim (cons_cases x (others n xs) m (subst (λ (l : List ℕ). Contains l m) (kept_by n x xs is) there)) [ inl same ↦ (0, omega arith, same) | inr rest ↦ behind_one x xs m (back rest) ]
