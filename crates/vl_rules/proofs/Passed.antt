-- Tests that were passed or failed, taken apart.
use Rattle.std.proofs.Common.{◌≡◌, ℕ, zero, suc, ◌<◌, Bool, true, false, not, ◌&&◌, ◌||◌, ◌==◌, List, [], ◌∷◌, length, slice_get, option_and_then, Option, Some, None, refl, sym, ap, ◌∙◌, arith}
use Rattle.std.specs.List.{list_all, list_any}
use Rattle.std.specs.Option.{option_map_or}
use Rattle.std.proofs.lemmas.Bool.{eq-eqb, eqb-true}

pub both : (a b : Bool) → (a && b) ≡ true → (a ≡ true) × (b ≡ true)
both true b holds = (refl, holds)
both false b holds = cc

pub neither : (a b : Bool) → (a || b) ≡ false → (a ≡ false) × (b ≡ false)
neither true b fails = cc
neither false b fails = (refl, fails)

pub not_false : (a : Bool) → not a ≡ false → a ≡ true
not_false true fails = refl
not_false false fails = cc

pub not_true : (a : Bool) → not a ≡ true → a ≡ false
not_true true holds = cc
not_true false holds = refl

-- where not both hold and the first does, the second doesn't
pub not_both : (a b : Bool) → (a && b) ≡ false → a ≡ true → b ≡ false
not_both true b fails holds = fails
not_both false b fails holds = cc

-- where one of two holds and the first doesn't, the second does
pub other_one : (a b : Bool) → (a || b) ≡ true → a ≡ false → b ≡ true
other_one true b holds fails = cc
other_one false b holds fails = holds

-- a test of a value that has to be there
pub there : {X : Type 0} (test : X → Bool) (o : Option X) → option_map_or test o false ≡ true → (x : X) × (o ≡ Some x) × (test x ≡ true)
there test None holds = cc
there test (Some x) holds = (x, refl, holds)

-- no element passes
pub none_passes : {X : Type 0} (test : X → Bool) (xs : List X) (i : ℕ) (x : X) → list_any test xs ≡ false → slice_get xs i ≡ Some x → test x ≡ false
none_passes test [] i x none at = cc
none_passes test (y ∷ ys) zero x none at = let same : y ≡ x = cc in ap test (sym same) ∙ (neither (test y) (list_any test ys) none).0
none_passes test (y ∷ ys) (suc i) x none at = none_passes test ys i x (neither (test y) (list_any test ys) none).1 at

-- each element passes
pub each_passes : {X : Type 0} (test : X → Bool) (xs : List X) (i : ℕ) (x : X) → list_all test xs ≡ true → slice_get xs i ≡ Some x → test x ≡ true
each_passes test [] i x all at = cc
each_passes test (y ∷ ys) zero x all at = let same : y ≡ x = cc in ap test (sym same) ∙ (both (test y) (list_all test ys) all).0
each_passes test (y ∷ ys) (suc i) x all at = each_passes test ys i x (both (test y) (list_all test ys) all).1 at

-- a number of the list fails a test that no number of it passes
pub among_fails : (test : ℕ → Bool) (ns : List ℕ) (n : ℕ) → list_any (λ m. m == n) ns ≡ true → list_any test ns ≡ false → test n ≡ false
among_fails test [] n among none = cc
among_fails test (m ∷ ms) n among none =
    let parts = neither (test m) (list_any test ms) none in
    elim (m == n) as (λ b. (m == n) ≡ b → test n ≡ false) [
      | true ↦ λ same. ap test (sym (eqb-true m n same)) ∙ parts.0
      | false ↦ λ other. among_fails test ms n (other_one (m == n) (list_any (λ k. k == n) ms) among other) parts.1
    ]
    refl

-- an element of the list is there
pub at_number : {X : Type 0} (xs : List X) (i : ℕ) → i < length xs → (x : X) × (slice_get xs i ≡ Some x)
at_number [] i within = absurd (omega arith)
at_number (x ∷ xs) zero within = (x, refl)
at_number (x ∷ xs) (suc i) within = at_number xs i (omega arith)

-- an element by a number that may be missing
pub at_option : {X : Type 0} (xs : List X) (o : Option ℕ) (x : X) → option_and_then (slice_get xs) o ≡ Some x → (n : ℕ) × (o ≡ Some n) × (slice_get xs n ≡ Some x)
at_option xs None x at = cc
at_option xs (Some n) x at = (n, refl, at)

-- the number is there, and it is n
pub is_that_number : (n : ℕ) (o : Option ℕ) → option_map_or (λ m. m == n) o false ≡ true → o ≡ Some n
is_that_number n None holds = cc
is_that_number n (Some m) holds = ap (λ (k : ℕ). Some k) (eqb-true m n holds)

pub that_number_is : (n : ℕ) (o : Option ℕ) → o ≡ Some n → option_map_or (λ m. m == n) o false ≡ true
that_number_is n None same = cc
that_number_is n (Some m) same = let equal : m ≡ n = cc in eq-eqb m n equal
