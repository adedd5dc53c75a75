-- The order of byte strings, as a test.
use Rattle.std.proofs.Common.{◌≡◌, ℕ, List, [], ◌∷◌, true, false, refl, sym, ap, ◌∙◌, inl, inr}
use Rattle.std.specs.Cmp.Lexicographic.{slice_cmp}
use Rattle.std.specs.declared.cmp.Ordering.{Ordering}
use Rattle.std.proofs.Common.{Less, Equal, Greater}
use Rattle.std.specs.Ordering.{is_lt, is_gt, nat_cmp, ordering_reverse}
use Rattle.std.proofs.lemmas.Bool.{cases_Bool, false≢true}
use Rattle.std.proofs.lemmas.Cmp.{nat_list_cmp_total, tied_itself, upto}
use Rattle.std.proofs.lemmas.Map.Lookups.{exact_bytes}
use Rattle.vl_vindex.specs.KeyRange.{comes_before}

less_from_test : (o : Ordering) → is_lt o ≡ true → o ≡ Less
less_from_test Less h = refl
less_from_test Equal h = cc
less_from_test Greater h = cc

is_gt-reverse : (o : Ordering) → is_gt (ordering_reverse o) ≡ is_lt o
is_gt-reverse Less = refl
is_gt-reverse Equal = refl
is_gt-reverse Greater = refl

is_gt_is : (a b : List ℕ) → is_gt (slice_cmp nat_cmp a b) ≡ comes_before b a
is_gt_is a b =
    ap is_gt (nat_list_cmp_total.antisymm a b) ∙ is_gt-reverse (slice_cmp nat_cmp b a)

-- no byte string stands before itself
pub before_itself : (a : List ℕ) → comes_before a a ≡ false
before_itself a = ap is_lt (tied_itself nat_list_cmp_total a)

-- none stands before the empty one
pub before_nil : (a : List ℕ) → comes_before a [] ≡ false
before_nil [] = refl
before_nil (x ∷ xs) = refl

-- a ≤ b and b ≤ c give a ≤ c
pub upto_upto : (a b c : List ℕ) → comes_before b a ≡ false → comes_before c b ≡ false → comes_before c a ≡ false
upto_upto a b c p q = sym (is_gt_is a c) ∙ upto nat_list_cmp_total a b c (is_gt_is a b ∙ p) (is_gt_is b c ∙ q)

-- a < b and b ≤ c give a < c
pub before_upto : (a b c : List ℕ) → comes_before a b ≡ true → comes_before c b ≡ false → comes_before a c ≡ true
before_upto a b c p q =
    elim (cases_Bool (comes_before a c)) [
      | inl holds ↦ holds
      | inr fails ↦ absurd (false≢true (sym (upto_upto b c a q fails) ∙ p))
    ]

-- a ≤ b and b < c give a < c
pub upto_before : (a b c : List ℕ) → comes_before b a ≡ false → comes_before b c ≡ true → comes_before a c ≡ true
upto_before a b c p q =
    elim (cases_Bool (comes_before a c)) [
      | inl holds ↦ holds
      | inr fails ↦ absurd (false≢true (sym (upto_upto c a b fails p) ∙ q))
    ]

pub before_back : (a b : List ℕ) → comes_before a b ≡ true → comes_before b a ≡ false
before_back a b p = sym (is_gt_is a b) ∙ ap is_gt (less_from_test _ p)

-- what the answer of a comparison says
pub less_is : (a b : List ℕ) → slice_cmp nat_cmp a b ≡ Less → comes_before a b ≡ true
less_is a b e = ap is_lt e

pub greater_is : (a b : List ℕ) → slice_cmp nat_cmp a b ≡ Greater → comes_before b a ≡ true
greater_is a b e = sym (is_gt_is a b) ∙ ap is_gt e

pub equal_is : (a b : List ℕ) → slice_cmp nat_cmp a b ≡ Equal → a ≡ b
equal_is a b e = exact_bytes a b e
