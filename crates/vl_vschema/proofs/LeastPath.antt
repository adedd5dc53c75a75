-- The least of some paths.
use Rattle.std.proofs.Common.{◌≡◌, ℕ, zero, suc, List, [], ◌∷◌, Bool, true, false, Option, Some, None, Ordering, Less, Equal, Greater, fold, refl, sym, ap, ◌∙◌, subst, arith, cond, nat_cmp}
use Rattle.std.proofs.lemmas.Cmp.{nat_list_cmp_total, tied_itself, upto}
use Rattle.std.proofs.lemmas.List.Elements.{All-cons}
use Rattle.std.specs.Cmp.Lexicographic.{slice_cmp}
use Rattle.std.specs.List.{All, Contains}
use Rattle.std.specs.Ordering.{is_lt, is_gt, ordering_reverse}
use Rattle.vl_vschema.specs.Document.{IsAtMost, IsLeastOf}
use Rattle.vl_vschema.specs.Sink.{lesser}

-- ---- the order

itself : (path : List ℕ) → IsAtMost path path
itself path = ap is_gt (tied_itself nat_list_cmp_total path)

below : (o : Ordering) → is_lt o ≡ true → is_gt o ≡ false
below Less h = refl
below Equal h = refl
below Greater h = sym h

turned : (o : Ordering) → is_lt o ≡ false → is_gt (ordering_reverse o) ≡ false
turned Less h = h
turned Equal h = refl
turned Greater h = refl

not_below : (path least : List ℕ) → is_lt (slice_cmp nat_cmp path least) ≡ false → IsAtMost least path
not_below path least h = ap is_gt (nat_list_cmp_total.antisymm least path) ∙ turned (slice_cmp nat_cmp path least) h

-- ---- the least

contains_first : {X : Type 0} (x : X) (xs : List X) → Contains (x ∷ xs) x
contains_first x xs = (0, omega arith, refl)

contains_later : {X : Type 0} (y x : X) (xs : List X) → Contains xs x → Contains (y ∷ xs) x
contains_later y x xs (k, within, is) = (suc k, omega arith, is)

record IsLeastFrom (least : List ℕ) (paths : List (List ℕ)) (found : Option (List ℕ)) : Type 0 where
  path : List ℕ
  is : found ≡ Some path
  among : Contains (least ∷ paths) path
  below_first : IsAtMost path least
  below_all : All (IsAtMost path) paths

swapped : (least next path : List ℕ) (paths : List (List ℕ)) → Contains (least ∷ paths) path → Contains (least ∷ next ∷ paths) path
swapped least next path paths (zero, within, is) = (0, omega arith, is)
swapped least next path paths (suc k, within, is) = (suc (suc k), omega arith, is)

least_step : (least next : List ℕ) (paths : List (List ℕ)) → (b : Bool) → is_lt (slice_cmp nat_cmp next least) ≡ b
    → IsLeastFrom next paths (fold lesser (Some next) paths) → IsLeastFrom least paths (fold lesser (Some least) paths)
    → IsLeastFrom least (next ∷ paths) (fold lesser (cond b (Some next) (Some least)) paths)
least_step least next paths true lt changed kept = record {
  path = changed.path;
  is = changed.is;
  among = contains_later least changed.path (next ∷ paths) changed.among;
  below_first = upto nat_list_cmp_total changed.path next least changed.below_first (below (slice_cmp nat_cmp next least) lt);
  below_all = All-cons (IsAtMost changed.path) next paths changed.below_first changed.below_all;
}
least_step least next paths false lt changed kept = record {
  path = kept.path;
  is = kept.is;
  among = swapped least next kept.path paths kept.among;
  below_first = kept.below_first;
  below_all = All-cons (IsAtMost kept.path) next paths (upto nat_list_cmp_total kept.path least next kept.below_first (not_below next least lt)) kept.below_all;
}

least_from : (least : List ℕ) (paths : List (List ℕ)) → IsLeastFrom least paths (fold lesser (Some least) paths)
least_from least [] = record {
  path = least;
  is = refl;
  among = contains_first least [];
  below_first = itself least;
  below_all = search arith;
}
least_from least (next ∷ paths) = least_step least next paths _ refl (least_from next paths) (least_from least paths)

pub least_of : (paths : List (List ℕ)) → IsLeastOf paths (fold lesser None paths)
least_of [] = refl
least_of (first ∷ paths) =
    let from = least_from first paths in
    let both : IsLeastOf (first ∷ paths) (Some from.path) = (from.among, All-cons (IsAtMost from.path) first paths from.below_first from.below_all) in
    subst (IsLeastOf (first ∷ paths)) (sym from.is) both
