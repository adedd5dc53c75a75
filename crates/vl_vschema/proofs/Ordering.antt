-- Paths in their order, each once.
use Rattle.std.proofs.Common.{◌≡◌, ℕ, List, [], ◌∷◌, ◌++◌, true, fold, refl, sym, ◌∙◌, nat_cmp, append-nil, append_assoc}
use Rattle.std.proofs.lemmas.Cmp.{nat_list_cmp_total, eq_by_cmp_equiv}
use Rattle.std.proofs.lemmas.List.Kept.{Contains-dedup, Contains-from_dedup, IsStrictlySortedBy-dedup}
use Rattle.std.proofs.lemmas.List.Sorted.{Contains-permutation, IsPermutation-sym}
use Rattle.std.proofs.lemmas.Map.Text.{is_eq-slice_cmp}
use Rattle.std.proofs.lemmas.Slice.Eq.{bytes_eq-Decides}
use Rattle.std.specs.Cmp.Lexicographic.{slice_cmp}
use Rattle.std.specs.List.{dedup}
use Rattle.std.specs.List.Sorted.{IsPermutation, IsSorted}
use Rattle.std.specs.Ordering.{eq_by_cmp}
use Rattle.vl_vschema.specs.Sink.{IsListing, listed}

same_path : (x y : List ℕ) → eq_by_cmp (slice_cmp nat_cmp) x y ≡ true → x ≡ y
same_path x y same = (bytes_eq-Decides x y).0 (sym (is_eq-slice_cmp x y) ∙ same)

-- sorted, and one of each
pub listing_of : (paths sorted : List (List ℕ)) → IsPermutation paths sorted → IsSorted (slice_cmp nat_cmp) sorted → IsListing paths (dedup (eq_by_cmp (slice_cmp nat_cmp)) sorted)
listing_of paths sorted moved rises = record {
  once = IsStrictlySortedBy-dedup nat_list_cmp_total (λ x y. refl) sorted rises;
  each = λ path. (
    (λ listed. Contains-permutation _ _ path (IsPermutation-sym _ _ moved) (Contains-from_dedup _ sorted path listed)),
    (λ found. Contains-dedup (eq_by_cmp_equiv nat_list_cmp_total) same_path sorted path (Contains-permutation _ _ path moved found)),
  );
}

-- a listing of paths that came one after another
pub all_listed : (paths before : List (List ℕ)) → fold listed before paths ≡ before ++ paths
all_listed [] before = sym (append-nil before)
all_listed (path ∷ paths) before = all_listed paths (before ++ path ∷ []) ∙ append_assoc before (path ∷ []) paths
