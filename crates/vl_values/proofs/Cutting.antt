-- A list that is built piece by piece and cut each time is cut as a whole.
use Rattle.std.proofs.Common.{◌≡◌, ℕ, zero, suc, ◌+◌, ◌<◌, List, [], ◌∷◌, ◌++◌, length, take, get_or, refl, ap, ◌∙◌, append_assoc}
use Rattle.std.specs.List.{flat_map}
use Rattle.std.proofs.lemmas.List.{take_more, append-nil}
use Rattle.std.proofs.lemmas.Grind.{flat_map-append}

pub take-take-append : (n : ℕ) (xs ys : List ℕ) → take n (take n xs ++ ys) ≡ take n (xs ++ ys)
take-take-append zero xs ys = refl
take-take-append (suc n) [] ys = refl
take-take-append (suc n) (x ∷ xs) ys = ap (λ l. x ∷ l) (take-take-append n xs ys)

-- one piece more
pub cut_more : (n : ℕ) (xs ys zs : List ℕ) → zs ≡ take n xs → take n (zs ++ ys) ≡ take n (xs ++ ys)
cut_more n xs ys zs is = ap (λ l. take n (l ++ ys)) is ∙ take-take-append n xs ys

regroup : (old a b c d : List ℕ) → (((old ++ a) ++ b) ++ c) ++ d ≡ old ++ (a ++ (b ++ (c ++ d)))
regroup old a b c d = simp append_assoc

-- four pieces, one after another
pub cut_four : (n : ℕ) (old a b c d one two three four : List ℕ) → one ≡ take n (old ++ a) → two ≡ take n (one ++ b) → three ≡ take n (two ++ c) → four ≡ take n (three ++ d)
    → four ≡ take n (old ++ (a ++ (b ++ (c ++ d))))
cut_four n old a b c d one two three four e f g h =
    h ∙ cut_more n _ d three (g ∙ cut_more n _ c two (f ∙ cut_more n _ b one e)) ∙ ap (take n) (regroup old a b c d)

-- the pieces up to the next one
pub flat_map-take-more : {X : Type 0} (f : X → List ℕ) (xs : List X) (i : ℕ) (d : X) → i < length xs → flat_map f (take (i + 1) xs) ≡ flat_map f (take i xs) ++ f (get_or xs i d)
flat_map-take-more f xs i d within =
    ap (flat_map f) (take_more xs i d within) ∙ flat_map-append f (take i xs) (get_or xs i d ∷ []) ∙ ap (λ l. flat_map f (take i xs) ++ l) (append-nil (f (get_or xs i d)))
