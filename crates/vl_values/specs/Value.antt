-- The text of a value, and the order of values.
use Rattle.std.specs.Prelude.{Bool, true, false, ℕ, ℤ, pos, List, []}
use Rattle.std.specs.declared.cmp.Ordering.{Ordering}
use Rattle.std.specs.Fmt.{decimal, signed_decimal}
use Rattle.std.specs.Ordering.{nat_cmp, int_cmp, is_eq, on, then_cmp}
use Rattle.std.specs.Cmp.Lexicographic.{slice_cmp}
use Rattle.vl_values.specs.declared.value.Value.{Value}
use Rattle.vl_values.specs.declared.value.Value.TheVariants.{Null, Int, Uint, Bytes}

-- a number in decimal, bytes as they are, nothing for NULL
abbrev pub text_of_value : Value → List ℕ
text_of_value Null = []
text_of_value (Int n) = signed_decimal n
text_of_value (Uint n) = decimal n
text_of_value (Bytes s) = s

-- NULL, then numbers, then bytes
abbrev pub class : Value → ℕ
class Null = 0
class (Int n) = 1
class (Uint n) = 1
class (Bytes s) = 2

abbrev pub number : Value → ℤ
number Null = pos 0
number (Int n) = n
number (Uint n) = pos n
number (Bytes s) = pos 0

-- which of two numbers of one value stands first: the signed one
abbrev pub sign_class : Value → ℕ
sign_class Null = 0
sign_class (Int n) = 0
sign_class (Uint n) = 1
sign_class (Bytes s) = 0

abbrev pub bytes : Value → List ℕ
bytes Null = []
bytes (Int n) = []
bytes (Uint n) = []
bytes (Bytes s) = s

-- by class, then by the number's value, then signed before unsigned, then by the bytes
abbrev pub value_cmp : Value → Value → Ordering
value_cmp = then_cmp (on class nat_cmp) (then_cmp (on number int_cmp) (then_cmp (on sign_class nat_cmp) (on bytes (slice_cmp nat_cmp))))

-- whether two values are one value
abbrev pub is_same_value : Value → Value → Bool
is_same_value a b = is_eq (value_cmp a b)

abbrev pub is_null : Value → Bool
is_null Null = true
is_null (Int n) = false
is_null (Uint n) = false
is_null (Bytes s) = false
