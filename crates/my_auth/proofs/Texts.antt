-- Where a text ends.
use Rattle.std.proofs.Common.{◌≡◌, ℕ, zero, suc, ◌<◌, List, [], ◌∷◌, length, get_or, take, drop, Ok, Err, eqb, eq-eqb, ne_eqb, false, refl, arith}
use Rattle.my_auth.specs.Reading.{text_at}

-- at the first 0
pub cut : (bytes : List ℕ) (i : ℕ) → i < length bytes → ((k : ℕ) → k < i → get_or bytes k 0 ≡ 0 → ⊥) → get_or bytes i 0 ≡ 0 → text_at bytes ≡ Ok (take i bytes, drop (suc i) bytes)
cut [] i below none at = absurd (omega (arith, below))
cut (byte ∷ rest) zero below none at = rw (eq-eqb byte 0 at) refl
cut (byte ∷ rest) (suc i) below none at =
    let here : eqb byte 0 ≡ false = ne_eqb byte 0 (none 0 (omega arith)) in
    rw (here, cut rest i (omega arith) (λ k before. none (suc k) (omega arith)) at) refl

-- nowhere
pub uncut : (bytes : List ℕ) → ((k : ℕ) → k < length bytes → get_or bytes k 0 ≡ 0 → ⊥) → text_at bytes ≡ Err 0
uncut [] none = refl
uncut (byte ∷ rest) none =
    let here : eqb byte 0 ≡ false = ne_eqb byte 0 (none 0 (omega arith)) in
    rw (here, uncut rest (λ k before. none (suc k) (omega arith))) refl
