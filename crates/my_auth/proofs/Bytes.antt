-- Walks over bytes that change them one by one.
use Rattle.std.proofs.Common.{◌≡◌, ℕ, zero, suc, ◌<◌, List, [], ◌∷◌, ◌++◌, length, get_or, take, drop, map, bit_xor, refl, ap, arith}
use Rattle.std.proofs.Math.ListN.{set}
use Rattle.my_auth.specs.Token.{xor_bytes}

-- the next byte is changed by f
pub mapped : (f : ℕ → ℕ) (xs : List ℕ) (i : ℕ) → i < length xs → let zs = map f (take i xs) ++ drop i xs in set zs i (f (get_or zs i 0)) ≡ map f (take (suc i) xs) ++ drop (suc i) xs
mapped f [] i below = absurd (omega (arith, below))
mapped f (x ∷ xs) zero below = refl
mapped f (x ∷ xs) (suc i) below = ap (λ ys. f x ∷ ys) (mapped f xs i (omega arith))

-- the next byte is joined with that of the other list
pub joined : (xs ys : List ℕ) (i : ℕ) → i < length xs → i < length ys → let zs = xor_bytes (take i xs) ys ++ drop i xs in set zs i (bit_xor (get_or zs i 0) (get_or ys i 0)) ≡ xor_bytes (take (suc i) xs) ys ++ drop (suc i) xs
joined [] ys i below other = absurd (omega (arith, below))
joined (x ∷ xs) [] i below other = absurd (omega (arith, other))
joined (x ∷ xs) (y ∷ ys) zero below other = refl
joined (x ∷ xs) (y ∷ ys) (suc i) below other = ap (λ zs. bit_xor x y ∷ zs) (joined xs ys i (omega arith) (omega arith))
