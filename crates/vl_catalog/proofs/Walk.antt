-- A walk over a list that changes one element after another.
use Rattle.std.proofs.Common.{◌≡◌, ℕ, ◌+◌, ◌<◌, List, [], ◌∷◌, ◌++◌, length, map, take, drop, get_or, set, sym, ap, ◌∙◌, arith}
use Rattle.std.proofs.lemmas.List.{append_assoc, drop_more, get_or_at, length-map, length-take-le, map_more, set_at}

pub walk_more : {X : Type 0} (f : X → X) (xs ys : List X) (i : ℕ) (d new : X) → ys ≡ map f (take i xs) ++ drop i xs → i < length xs
    → new ≡ f (get_or ys i d) → set ys i new ≡ map f (take (i + 1) xs) ++ drop (i + 1) xs
walk_more {X} f xs ys i d new so_far within changed =
    let front = map f (take i xs) in
    let x = get_or xs i d in
    let rest = drop (i + 1) xs in
    let size : length front ≡ i = length-map (take i xs) f ∙ length-take-le i xs (omega arith) in
    let split : ys ≡ front ++ (x ∷ rest) = so_far ∙ ap (λ (zs : List X). front ++ zs) (drop_more xs i d within) in
    let here : get_or ys i d ≡ x = ap (λ (zs : List X). get_or zs i d) split ∙ get_or_at front x rest d i size in
    let becomes : new ≡ f x = changed ∙ ap f here in
    ap (λ (zs : List X). set zs i new) split
    ∙ set_at front x rest new i size
    ∙ ap (λ (y : X). front ++ (y ∷ rest)) becomes
    ∙ sym (append_assoc front (f x ∷ []) rest)
    ∙ ap (λ (zs : List X). zs ++ rest) (sym (map_more f xs i d within))
