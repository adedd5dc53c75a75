-- The names of a key's other columns, name by name.
use Rattle.std.proofs.Common.{◌≡◌, ℕ, suc, Bool, true, false, ◌&&◌, nat_eq, ◌==◌, List, [], ◌∷◌, length, map, Option, Some, None, unwrap_or, refl, sym, ap, ◌∙◌}
use Rattle.std.proofs.Math.Dec.{eqb-suc-suc, eqb-suc-zero}
use Rattle.std.proofs.lemmas.List.{length-map}
use Rattle.std.specs.Cmp.Lexicographic.{pointwise}
use Rattle.std.specs.Option.{option_map, option_map_or}
use Rattle.vl_catalog.specs.declared.column.Column.{Column}
use Rattle.vl_catalog.specs.Build.{Names, all_numbers, column_number, column_numbers}
use Rattle.vl_rules.specs.ColumnVindexes.{names_column}

-- the number is there, and it is n
abbrev pub is_that : Option ℕ → ℕ → Bool
is_that number n = option_map_or (λ m. m == n) number false

by_number : (columns : List Column) (names : Names) (ns : List ℕ)
    → pointwise is_that (map (column_number columns) names) ns ≡ pointwise (names_column columns) names ns
by_number columns [] [] = refl
by_number columns [] (n ∷ ns) = refl
by_number columns (name ∷ names) [] = refl
by_number columns (name ∷ names) (n ∷ ns) = ap (λ (b : Bool). names_column columns name n && b) (by_number columns names ns)

regroup : (a b c : Bool) → ((a && b) && c) ≡ (a && (b && c))
regroup true b c = refl
regroup false b c = refl

with_false : (a : Bool) → (a && false) ≡ false
with_false true = refl
with_false false = refl

some_numbers : (numbers : List (Option ℕ)) → all_numbers numbers ≡ None → (length numbers == 0) ≡ false
some_numbers [] none = cc
some_numbers (number ∷ numbers) none = eqb-suc-zero (length numbers)

more_than_none : (found : Option (List ℕ)) (n k : ℕ)
    → (pointwise nat_eq (unwrap_or (option_map (λ ms. n ∷ ms) found) []) [] && (suc k == 0)) ≡ false
more_than_none None n k = eqb-suc-zero k
more_than_none (Some ms) n k = refl

one_more : (found : Option (List ℕ)) (n m : ℕ) (numbers : List (Option ℕ)) (ns : List ℕ) → all_numbers numbers ≡ found
    → (pointwise nat_eq (unwrap_or found []) ns && (length numbers == length ns)) ≡ pointwise is_that numbers ns
    → (pointwise nat_eq (unwrap_or (option_map (λ ms. n ∷ ms) found) []) (m ∷ ns) && (length numbers == length ns)) ≡ (nat_eq n m && pointwise is_that numbers ns)
one_more None n m numbers [] found so_far =
    sym (with_false (nat_eq n m)) ∙ ap (λ (b : Bool). nat_eq n m && b) (sym (some_numbers numbers found) ∙ so_far)
one_more None n m numbers (k ∷ ns) found so_far = sym (with_false (nat_eq n m)) ∙ ap (λ (b : Bool). nat_eq n m && b) so_far
one_more (Some ms) n m numbers ns found so_far =
    regroup (nat_eq n m) (pointwise nat_eq ms ns) (length numbers == length ns) ∙ ap (λ (b : Bool). nat_eq n m && b) so_far

all_or_none : (numbers : List (Option ℕ)) (ns : List ℕ)
    → (pointwise nat_eq (unwrap_or (all_numbers numbers) []) ns && (length numbers == length ns)) ≡ pointwise is_that numbers ns
all_or_none [] [] = refl
all_or_none [] (m ∷ ns) = refl
all_or_none (None ∷ numbers) [] = eqb-suc-zero (length numbers)
all_or_none (None ∷ numbers) (m ∷ ns) = refl
all_or_none (Some n ∷ numbers) [] = more_than_none (all_numbers numbers) n (length numbers)
all_or_none (Some n ∷ numbers) (m ∷ ns) = rw eqb-suc-suc (one_more (all_numbers numbers) n m numbers ns refl (all_or_none numbers ns))

-- the numbers of the names are these, name by name
pub rest_by_name : (columns : List Column) (names : Names) (ns : List ℕ)
    → pointwise (names_column columns) names ns ≡ (pointwise nat_eq (column_numbers columns names) ns && (length names == length ns))
rest_by_name columns names ns =
    sym (by_number columns names ns)
    ∙ sym (all_or_none (map (column_number columns) names) ns)
    ∙ ap (λ (k : ℕ). pointwise nat_eq (column_numbers columns names) ns && (k == length ns)) (length-map names (column_number columns))
