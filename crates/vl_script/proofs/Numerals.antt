-- Reading a count: digits without a leading zero are what their number is printed as.
use Rattle.std.specs.declared.result.Result.{Result}
use Rattle.std.proofs.Common.{◌≡◌, ◌∙◌, ◌<◌, ◌≤◌, ◌^◌, ap, sym, subst, ℕ, zero, suc, List, arith, length, get_or, Ok, Err}
use Rattle.std.specs.Fmt.{decimal}
use Rattle.std.specs.Result.{OkIff}
use Rattle.std.specs.Str.{IsUtf8}
use Rattle.std.specs.Str.Parse.{AllDigits, ParsesUnsigned, digits_value}
use Rattle.std.proofs.lemmas.Fmt.{IsAscii-decimal, decimal-digits_value, decimal_digit, decimal_nonempty, first_decimal, parse-decimal}
use Rattle.std.proofs.lemmas.Str.{IsUtf8-from_ascii}
use Rattle.std.proofs.lemmas.Str.Parse.{IsNumeralModel, numerals_by_value, parse_plain, tells_digits}
use Rattle.vl_script.specs.Script.{IsCount}

own : IsNumeralModel (AllDigits 10) (digits_value 10)
own = numerals_by_value (AllDigits 10) tells_digits

-- no count is written without a digit
pub no_digits : (digits : List ℕ) → length digits < 1 → (n : ℕ) → IsCount n → digits ≡ decimal n → ⊥
no_digits digits short n count is =
    let fits : n < 2 ^ 64 = omega (arith, count.most) in
    omega (arith, decimal_nonempty n fits, ap length is)

-- nor with a zero or a sign in front
pub low_first : (digits : List ℕ) → get_or digits 0 0 ≤ 48 → (n : ℕ) → IsCount n → digits ≡ decimal n → ⊥
low_first digits low n count is =
    let fits : n < 2 ^ 64 = omega (arith, count.most) in
    let high : 48 < get_or (decimal n) 0 0 = first_decimal n (omega (arith, count.least)) fits in
    let same : get_or digits 0 0 ≡ get_or (decimal n) 0 0 = ap (λ v. get_or v 0 0) is in
    omega arith

-- nor in bytes that aren't text
pub not_text : (digits : List ℕ) → (IsUtf8 digits → ⊥) → (n : ℕ) → IsCount n → digits ≡ decimal n → ⊥
not_text digits bad n count is =
    let fits : n < 2 ^ 64 = omega (arith, count.most) in
    bad (subst (λ (v : List ℕ). IsUtf8 v) (sym is) (IsUtf8-from_ascii (decimal n) (IsAscii-decimal n fits)))

-- a count's digits are read as the count
pub read_as : {E : Type 0} (digits text : List ℕ) (r : Result ℕ E) → text ≡ digits → ParsesUnsigned 32 10 text r → (n : ℕ) → IsCount n → digits ≡ decimal n → r ≡ Ok n
read_as digits text r same parsed n count is =
    parse-decimal 32 n text r (omega (arith, count.most)) (omega (arith, count.most)) (same ∙ is) parsed

pub not_read : {E : Type 0} (digits text : List ℕ) (r : Result ℕ E) (e : E) → text ≡ digits → ParsesUnsigned 32 10 text r → r ≡ Err e → (n : ℕ) → IsCount n → digits ≡ decimal n → ⊥
not_read digits text r e same parsed failed n count is =
    let read : r ≡ Ok n = read_as digits text r same parsed n count is in
    cc

pub too_large : {E : Type 0} (digits text : List ℕ) (r : Result ℕ E) (m : ℕ) → text ≡ digits → ParsesUnsigned 32 10 text r → r ≡ Ok m → 1000000 < m → (n : ℕ) → IsCount n → digits ≡ decimal n → ⊥
too_large digits text r m same parsed reads large n count is =
    let read : r ≡ Ok n = read_as digits text r same parsed n count is in
    let number : m ≡ n = cc in
    omega (arith, count.most)

positive : (digits : List ℕ) (m : ℕ) → digits ≡ decimal m → 48 < get_or digits 0 0 → 1 ≤ m
positive digits zero is high =
    let same : get_or digits 0 0 ≡ 48 = ap (λ v. get_or v 0 0) (is ∙ decimal_digit 0 (omega arith)) in
    absurd (omega arith)
positive digits (suc m) is high = omega arith

-- what is read of digits with neither a zero nor a sign in front writes these digits
pub is_read : {E : Type 0} (digits text : List ℕ) (r : Result ℕ E) (m : ℕ) → text ≡ digits → ParsesUnsigned 32 10 text r → r ≡ Ok m → 48 < get_or digits 0 0 → m ≤ 1000000
    → (digits ≡ decimal m) × IsCount m
is_read {E} digits text r m same parsed reads high most =
    let here : ParsesUnsigned 32 10 digits r = subst (λ (v : List ℕ). ParsesUnsigned 32 10 v r) same parsed in
    let plain : OkIff r (AllDigits 10 digits × (0 < length digits) × (digits_value 10 digits < 2 ^ 32)) (digits_value 10 digits) = parse_plain own 32 digits r here (λ e. omega arith) in
    let read : (AllDigits 10 digits × (0 < length digits) × (digits_value 10 digits < 2 ^ 32)) × (m ≡ digits_value 10 digits) =
    subst (λ (v : Result ℕ E). OkIff v (AllDigits 10 digits × (0 < length digits) × (digits_value 10 digits < 2 ^ 32)) (digits_value 10 digits)) reads plain in
    let writes : decimal (digits_value 10 digits) ≡ digits =
    decimal-digits_value own digits read.0.0 read.0.1 (λ e. absurd (omega arith)) (omega (arith, read.0.2)) in
    let is : digits ≡ decimal m = sym writes ∙ ap decimal (sym read.1) in
    (is, record { least = positive digits m is high; most = most })
