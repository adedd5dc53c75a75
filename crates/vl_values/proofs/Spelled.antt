-- Decimal digits: they are ASCII, and what std's parser makes of them.
use Rattle.std.proofs.Common.{arith, rules, ◌≡◌, ℕ, zero, suc, ◌^◌, ◌≤◌, ◌<◌, true, List, [], ◌∷◌, length, Result, Err}
use Rattle.std.specs.Char.{is_ascii_digit}
use Rattle.std.specs.List.{list_all}
use Rattle.std.specs.Str.{IsAscii, IsUtf8}
use Rattle.std.specs.Str.Parse.{ParsesUnsigned, digits_value}
use Rattle.std.proofs.lemmas.Str.{IsUtf8-from_ascii}
use Rattle.std.proofs.lemmas.Str.Parse.{IsNumeralModel, numerals_by_value, parse_digits}
use Rattle.std.proofs.lemmas.Result.{OkIff-at_err}
use Rattle.vl_values.specs.Fit.{are_digits}

pub numerals : IsNumeralModel (λ ds. list_all is_ascii_digit ds ≡ true) (digits_value 10)
numerals = numerals_by_value _ (search rules)

pub all_digits : (ds : List ℕ) → are_digits ds ≡ true → list_all is_ascii_digit ds ≡ true
all_digits ds digits = search rules

pub some_digit : (ds : List ℕ) → are_digits ds ≡ true → 0 < length ds
some_digit ds digits = search rules

pub digits_are_ascii : (ds : List ℕ) → list_all is_ascii_digit ds ≡ true → IsAscii ds
digits_are_ascii [] digits i = search rules
digits_are_ascii (d ∷ ds) digits zero = search rules
digits_are_ascii (d ∷ ds) digits (suc i) = search (rules, digits_are_ascii ds)

pub digits_are_utf8 : (ds : List ℕ) → are_digits ds ≡ true → IsUtf8 ds
digits_are_utf8 ds digits = IsUtf8-from_ascii ds (digits_are_ascii ds (all_digits ds digits))

-- digits that aren't read spell a number of more than 64 bits
pub beyond : {E : Type 0} (text ds : List ℕ) (r : Result ℕ E) (e : E) → are_digits ds ≡ true → text ≡ ds → ParsesUnsigned 64 10 text r → r ≡ Err e → 2 ^ 64 ≤ digits_value 10 ds
beyond text ds r e digits same parsed failed = search (rules, arith, some_digit ds digits, OkIff-at_err r _ _ e (parse_digits numerals 64 ds r (rw same at parsed) (all_digits ds digits)) failed)
