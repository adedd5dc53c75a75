-- The conditions of a statement are its tests.
use Rattle.std.proofs.Common.{◌≡◌, List, [], ◌∷◌, ◌++◌, map, refl, sym, ap, ◌∙◌}
use Rattle.std.specs.List.{flat_map}

flat_of : {X Z A : Type 0} (f : X → Z) (h : Z → List A) (xs : List X) → flat_map (λ (x : X). h (f x)) xs ≡ flat_map h (map f xs)
flat_of f h [] = refl
flat_of {A = A} f h (x ∷ xs) = ap (λ (rest : List A). h (f x) ++ rest) (flat_of f h xs)

map_of : {X Z A : Type 0} (f : X → Z) (h : Z → A) (xs : List X) → map (λ (x : X). h (f x)) xs ≡ map h (map f xs)
map_of f h [] = refl
map_of {A = A} f h (x ∷ xs) = ap (λ (rest : List A). h (f x) ∷ rest) (map_of f h xs)

pub same_flat : {X Y Z A : Type 0} (f : X → Z) (g : Y → Z) (h : Z → List A) (xs : List X) (ys : List Y) → map f xs ≡ map g ys
    → flat_map (λ (x : X). h (f x)) xs ≡ flat_map (λ (y : Y). h (g y)) ys
same_flat f g h xs ys same = flat_of f h xs ∙ ap (flat_map h) same ∙ sym (flat_of g h ys)

pub same_map : {X Y Z A : Type 0} (f : X → Z) (g : Y → Z) (h : Z → A) (xs : List X) (ys : List Y) → map f xs ≡ map g ys
    → map (λ (x : X). h (f x)) xs ≡ map (λ (y : Y). h (g y)) ys
same_map f g h xs ys same = map_of f h xs ∙ ap (map h) same ∙ sym (map_of g h ys)
