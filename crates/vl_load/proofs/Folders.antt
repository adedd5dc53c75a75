-- A file's folder ends with the last `/` of its name.
use Rattle.std.proofs.Common.{◌≡◌, ◌≢◌, ℕ, zero, suc, ◌<◌, ◌==◌, Bool, true, false, List, [], ◌∷◌, ◌++◌, length, get_or, take, drop, Some, refl, sym, ap, ◌∙◌, arith, lit<}
use Rattle.std.proofs.lemmas.Bool.{ne_eqb}
use Rattle.std.proofs.lemmas.List.{take-append-drop}
use Rattle.std.proofs.lemmas.Str.Pattern.{NoCharPasses-char, drop_at_char}
use Rattle.std.specs.List.{list_any}
use Rattle.std.specs.Str.{NoCharPasses}
use Rattle.std.specs.Str.Pattern.{HasCharAt, RFindsChar}
use Rattle.vl_load.specs.Names.{folder_of}

abbrev IsWithout : List ℕ → Type 0
IsWithout xs = (i : ℕ) → i < length xs → get_or xs i 0 ≢ 47

tail_without : (x : ℕ) (xs : List ℕ) → IsWithout (x ∷ xs) → IsWithout xs
tail_without x xs h i lt = h (suc i) (omega arith)

none_is : (xs : List ℕ) → IsWithout xs → list_any (λ b. b == 47) xs ≡ false
none_is [] h = refl
none_is (x ∷ xs) h =
    let first : (x == 47) ≡ false = ne_eqb x 47 (h 0 (omega arith)) in
    let rest : list_any (λ b. b == 47) xs ≡ false = none_is xs (tail_without x xs h) in
    rw (first, rest)

pub without_folder : (name : List ℕ) → IsWithout name → folder_of name ≡ []
without_folder [] h = refl
without_folder (x ∷ xs) h =
    let none : list_any (λ b. b == 47) (x ∷ xs) ≡ false = none_is (x ∷ xs) h in
    rw none

one_is : (front back : List ℕ) → list_any (λ b. b == 47) (front ++ (47 ∷ back)) ≡ true
one_is [] back = refl
one_is (x ∷ front) back = let rest = one_is front back in grind (arith, rest)

cut_at : (front back : List ℕ) → IsWithout back → folder_of (front ++ (47 ∷ back)) ≡ front ++ (47 ∷ [])
cut_at [] back h = let e = without_folder back h in rw e
cut_at (x ∷ front) back h =
    let some : list_any (λ b. b == 47) (x ∷ (front ++ (47 ∷ back))) ≡ true = one_is (x ∷ front) back in
    let e = cut_at front back h in
    rw (some, e)

pub folder_at : (name : List ℕ) (i j : ℕ) → RFindsChar 47 name (Some (i, j)) → folder_of name ≡ take i name ++ (47 ∷ [])
folder_at name i j finds =
    let behind : IsWithout (drop j name) = λ k lt. NoCharPasses-char 47 (drop j name) k finds.0 (lit< tt) lt in
    let parts : take i name ++ (47 ∷ drop j name) ≡ name = ap (λ rest. take i name ++ rest) (sym (drop_at_char 47 name i j finds.1 (lit< tt))) ∙ take-append-drop i name in
    ap folder_of (sym parts) ∙ cut_at (take i name) (drop j name) behind
