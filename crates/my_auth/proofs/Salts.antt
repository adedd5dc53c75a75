-- A salt has no 0.
use Rattle.std.proofs.Common.{ℕ, zero, suc, ◌<◌, ◌%◌, List, cond, true, false, eqb, get_or, arith}
use Rattle.std.proofs.lemmas.List.Elements.{All-map}
use Rattle.my_auth.specs.Salt.{HasNoZero, salt, salt_byte, seven_bits}

positive_bits : (n : ℕ) → 0 < seven_bits n
positive_bits zero = omega arith
positive_bits (suc n) =
    elim (eqb (suc n) 0) as (λ a. 0 < cond a 1 (cond (eqb (suc n) 36) 37 (suc n))) [
      | true ↦ omega arith
      | false ↦ elim (eqb (suc n) 36) as (λ b. 0 < cond b 37 (suc n)) [ true ↦ omega arith | false ↦ omega arith ]
    ]

pub no_zero : (random : List ℕ) → HasNoZero (salt random)
no_zero random = All-map (λ byte. 0 < byte) salt_byte random (λ k d below. positive_bits (get_or random k d % 128))
