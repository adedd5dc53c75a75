-- Numbers that ascend below a bound are no more than that.
use Rattle.std.proofs.Common.{◌≡◌, ℕ, zero, suc, ◌<◌, ◌≤◌, List, [], ◌∷◌, length, get_or, refl, arith}
use Rattle.std.specs.Prelude.{Contains}
use Rattle.std.specs.List.{AllPairs}

reaches : (xs : List ℕ) → AllPairs (λ one other. one < other) xs → (i : ℕ) → i < length xs → i ≤ get_or xs i 0
reaches xs up zero within = omega arith
reaches xs up (suc i) within =
    let before = reaches xs up i (omega (arith, within)) in
    let rises = up i (suc i) 0 (omega arith) within in
    omega (arith, before, rises)

pub ascending_short : (xs : List ℕ) (count : ℕ) → AllPairs (λ one other. one < other) xs → ((x : ℕ) → Contains xs x → x < count) → length xs ≤ count
ascending_short [] count up below = omega arith
ascending_short (x ∷ xs) count up below =
    let last = reaches (x ∷ xs) up (length xs) (omega arith) in
    let within = below (get_or (x ∷ xs) (length xs) 0) (length xs, omega arith, same_any (x ∷ xs) (length xs) 0 (get_or (x ∷ xs) (length xs) 0) (omega arith)) in
    omega (arith, last, within)
  where
    same_any : (xs : List ℕ) (n c d : ℕ) → n < length xs → get_or xs n d ≡ get_or xs n c
    same_any [] n c d within = absurd (omega (arith, within))
    same_any (x ∷ xs) zero c d within = refl
    same_any (x ∷ xs) (suc n) c d within = same_any xs n c d (omega (arith, within))
