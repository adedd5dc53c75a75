-- A loop that changes each element of a list in place, in order.
use Rattle.std.proofs.Common.{◌≡◌, ◌<◌, ◌+◌, ◌∙◌, ap, sym, ℕ, List, [], ◌∷◌, ◌++◌, map, take, drop, length, get_or, append_assoc, arith}
use Rattle.std.proofs.Math.ListN.{set}
use Rattle.std.proofs.Math.Seq.{take-length, drop-length}
use Rattle.std.proofs.lemmas.List.{length-take, length-map, map-append, take_more, drop_more, get_or_at, set_at, append-nil}

-- one more element is changed
pub walk : {X : Type 0} (f : X → X) (xs ys : List X) (i : ℕ) (d new : X) → ys ≡ map f (take i xs) ++ drop i xs → i < length xs → new ≡ f (get_or ys i d) → set ys i new ≡ map f (take (i + 1) xs) ++ drop (i + 1) xs
walk {X} f xs ys i d new ys_is below new_is =
    let x : X = get_or xs i d in
    let front : List X = map f (take i xs) in
    let rest : List X = drop (i + 1) xs in
    let split : ys ≡ front ++ x ∷ rest = ys_is ∙ ap (λ v. front ++ v) (drop_more xs i d below) in
    let len : length front ≡ i = length-map (take i xs) f ∙ length-take i xs ∙ omega arith in
    let here : get_or ys i d ≡ x = ap (λ v. get_or v i d) split ∙ get_or_at front x rest d i len in
    let value : new ≡ f x = new_is ∙ ap f here in
    let put : set ys i new ≡ front ++ new ∷ rest = ap (λ v. set v i new) split ∙ set_at front x rest new i len in
    let more : map f (take (i + 1) xs) ≡ front ++ f x ∷ [] =
    ap (map f) (take_more xs i d below) ∙ map-append f (take i xs) (x ∷ []) in
    put ∙ ap (λ v. front ++ v ∷ rest) value ∙ sym (ap (λ v. v ++ rest) more ∙ append_assoc front (f x ∷ []) rest)

-- all elements are changed
pub whole : {X : Type 0} (f : X → X) (xs ys : List X) (i : ℕ) → i ≡ length xs → ys ≡ map f (take i xs) ++ drop i xs → ys ≡ map f xs
whole f xs ys i at_end ys_is =
    ys_is
    ∙ ap (λ k. map f (take k xs) ++ drop k xs) at_end
    ∙ ap (λ v. map f v ++ drop (length xs) xs) (take-length xs)
    ∙ ap (λ v. map f xs ++ v) (drop-length xs)
    ∙ append-nil (map f xs)
