-- Reading a number digit by digit, and the one way to cut a text at its first comma.
use Rattle.std.proofs.Common.{◌≡◌, ◌∙◌, ◌+◌, ◌-◌, ◌*◌, ◌^◌, ◌<◌, ◌≤◌, ap, sym, subst, ℕ, List, [], ◌∷◌, All, take, drop, length, get_or, arith}
use Rattle.std.specs.Char.{IsAsciiDigit}
use Rattle.std.proofs.lemmas.List.{drop_more, take_all, drop_all}
use Rattle.vl_model.specs.ScriptLine.{value_behind, IsNumber}

-- a number grows with each digit behind it
pub value_grows : (digits : List ℕ) (n : ℕ) → n ≤ value_behind n digits
value_grows [] n = omega arith
value_grows (digit ∷ digits) n = omega (arith, value_grows digits (10 * n + (digit - 48)))

-- the digit at i is read
pub value_more : (digits : List ℕ) (i n : ℕ) → i < length digits → value_behind n (drop i digits) ≡ value_behind (10 * n + (get_or digits i 0 - 48)) (drop (i + 1) digits)
value_more digits i n below = ap (value_behind n) (drop_more digits i 0 below)

-- digits whose front is too large already have no value of 64 bits
pub too_large : (digits : List ℕ) (i n m : ℕ) → i < length digits → value_behind n (drop i digits) ≡ value_behind 0 digits → (10 * n + (get_or digits i 0 - 48) < 2 ^ 64 → ⊥) → IsNumber digits m → ⊥
too_large digits i n m below so_far large number =
    let next : ℕ = 10 * n + (get_or digits i 0 - 48) in
    let step : value_behind n (drop i digits) ≡ value_behind next (drop (i + 1) digits) = value_more digits i n below in
    let grown : next ≤ value_behind next (drop (i + 1) digits) = value_grows (drop (i + 1) digits) next in
    let same : value_behind next (drop (i + 1) digits) ≡ m = cc (number.value) in
    large (omega (arith, number.fits))

-- all digits are read
pub is_number : (digits : List ℕ) (i n : ℕ) → 1 ≤ length digits → length digits ≤ 20 → length digits ≤ i → All IsAsciiDigit (take i digits) → value_behind n (drop i digits) ≡ value_behind 0 digits → n < 2 ^ 64 → IsNumber digits n
is_number digits i n some most at_end each value fits = record {
  some = some;
  most = most;
  each = subst (λ (v : List ℕ). All IsAsciiDigit v) (take_all i digits at_end) each;
  value = sym value ∙ ap (value_behind n) (drop_all i digits at_end);
  fits = fits;
}
