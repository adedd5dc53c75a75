-- The value that a column takes for a given one, or why it takes none.
use Rattle.std.specs.Prelude.{◌≡◌, ℕ, ◌-◌, ◌^◌, ◌==◌, not, ◌&&◌, nat_le, nat_lt, Bool, true, false, ℤ, pos, negsuc, neg_ℤ, List, [], ◌∷◌, length, Option, Some, None, Result, Ok, Err, unsigned_abs, if◌then◌else◌}
use Rattle.std.specs.Char.{is_ascii_digit}
use Rattle.std.specs.Fmt.{signed_decimal}
use Rattle.std.specs.List.{list_all}
use Rattle.std.specs.Option.{option_map}
use Rattle.std.specs.Str.Parse.{digits_value}
use Rattle.vl_values.specs.declared.col_type.ColType.{ColType}
use Rattle.vl_values.specs.declared.col_type.ColType.TheVariants as types
use Rattle.vl_values.specs.declared.fit_fault.FitFault.{FitFault}
use Rattle.vl_values.specs.declared.fit_fault.FitFault.TheVariants as faults
use Rattle.vl_values.specs.declared.value.Value.{Value}
use Rattle.vl_values.specs.declared.value.Value.TheVariants.{Null, Int, Uint, Bytes}

-- ---- the number that a text spells

-- one decimal digit or more, and nothing else
abbrev pub are_digits : List ℕ → Bool
are_digits ds = not (length ds == 0) && list_all is_ascii_digit ds

abbrev pub magnitude_in : List ℕ → Option ℕ
magnitude_in ds = if are_digits ds then Some (digits_value 10 ds) else None

-- `[-]digits`, the whole text
abbrev pub integer_in : List ℕ → Option ℤ
integer_in [] = None
integer_in (b ∷ bs) = if b == 45 then option_map (λ n. neg_ℤ (pos n)) (magnitude_in bs) else option_map (λ n. pos n) (magnitude_in (b ∷ bs))

-- ---- numbers and bytes

-- whether a number lies from - least to most
abbrev pub is_between : ℕ → ℕ → ℤ → Bool
is_between least most (pos n) = nat_le n most
is_between least most (negsuc n) = nat_lt n least

abbrev pub ranged : ℕ → ℕ → ℤ → Value → Result Value FitFault
ranged least most z value = if is_between least most z then Ok value else Err faults.Range

abbrev pub fit_bytes : ℕ → List ℕ → Result Value FitFault
fit_bytes most bytes = if nat_le (length bytes) most then Ok (Bytes bytes) else Err faults.TooLong

-- a column of bytes takes a number's decimal text
abbrev pub fit_integer : ColType → ℤ → Result Value FitFault
fit_integer types.BigInt z = ranged (2 ^ 63) (2 ^ 63 - 1) z (Int z)
fit_integer types.BigUint z = ranged 0 (2 ^ 64 - 1) z (Uint (unsigned_abs z))
fit_integer types.Int z = ranged (2 ^ 31) (2 ^ 31 - 1) z (Int z)
fit_integer types.Uint32 z = ranged 0 (2 ^ 32 - 1) z (Uint (unsigned_abs z))
fit_integer (types.VarChar most) z = fit_bytes most (signed_decimal z)
fit_integer (types.VarBinary most) z = fit_bytes most (signed_decimal z)

abbrev pub fit_spelled : ColType → Option ℤ → Result Value FitFault
fit_spelled ty None = Err faults.NotNumber
fit_spelled ty (Some z) = fit_integer ty z

abbrev pub is_number_type : ColType → Bool
is_number_type (types.VarChar most) = false
is_number_type (types.VarBinary most) = false
is_number_type ty = true

-- a column of numbers takes the number that a text spells
abbrev pub fit_text : ColType → List ℕ → Result Value FitFault
fit_text types.BigInt text = fit_spelled types.BigInt (integer_in text)
fit_text types.BigUint text = fit_spelled types.BigUint (integer_in text)
fit_text types.Int text = fit_spelled types.Int (integer_in text)
fit_text types.Uint32 text = fit_spelled types.Uint32 (integer_in text)
fit_text (types.VarChar most) text = fit_bytes most text
fit_text (types.VarBinary most) text = fit_bytes most text

-- ---- the whole

-- the column's value: a signed number for BIGINT and INT, an unsigned one for their unsigned forms,
-- bytes for the other types, and NULL where the column may hold it
abbrev pub fitted : Value → ColType → Bool → Result Value FitFault
fitted Null ty true = Ok Null
fitted Null ty false = Err faults.Null
fitted (Int z) ty nullable = fit_integer ty z
fitted (Uint n) ty nullable = fit_integer ty (pos n)
fitted (Bytes text) ty nullable = fit_text ty text

-- the answer is this one, or memory was refused
abbrev pub Answers : Result Value FitFault → Result Value FitFault → Type 0
Answers (Err faults.Memory) right = Unit {0}
Answers (Err fault) right = right ≡ Err fault
Answers (Ok value) right = right ≡ Ok value

-- ---- the values of a column

-- whether a value other than NULL is one of this type
abbrev pub is_of_type : ColType → Value → Bool
is_of_type types.BigInt (Int z) = is_between (2 ^ 63) (2 ^ 63 - 1) z
is_of_type types.BigUint (Uint n) = nat_le n (2 ^ 64 - 1)
is_of_type types.Int (Int z) = is_between (2 ^ 31) (2 ^ 31 - 1) z
is_of_type types.Uint32 (Uint n) = nat_le n (2 ^ 32 - 1)
is_of_type (types.VarChar most) (Bytes bytes) = nat_le (length bytes) most
is_of_type (types.VarBinary most) (Bytes bytes) = nat_le (length bytes) most
is_of_type ty value = false

-- whether a column of this type may hold the value
abbrev pub is_held : ColType → Bool → Value → Bool
is_held ty nullable Null = nullable
is_held ty nullable value = is_of_type ty value
