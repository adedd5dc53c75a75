-- How a value is shown, by the type of its column.
use Rattle.std.specs.Prelude.{ℕ, Bool, true, false, not, ◌&&◌, ◌==◌, nat_le, if◌then◌else◌, List, ◌++◌, codes}
use Rattle.std.specs.Fmt.{decimal, signed_decimal}
use Rattle.std.specs.List.{list_all}
use Rattle.hex.specs.Hex.{encode_lower}
use Rattle.vl_values.specs.declared.col_type.ColType.{ColType}
use Rattle.vl_values.specs.declared.col_type.ColType.TheVariants.{BigInt, BigUint, Int as IntType, Uint32, VarChar, VarBinary}
use Rattle.vl_values.specs.declared.value.Value.{Value}
use Rattle.vl_values.specs.declared.value.Value.TheVariants.{Null, Int, Uint, Bytes}

-- a byte of printable ASCII
abbrev pub is_printable : ℕ → Bool
is_printable byte = nat_le 32 byte && nat_le byte 126

-- a byte that stands for itself between single quotes
abbrev pub is_plain : ℕ → Bool
is_plain byte = is_printable byte && not (byte == 39) && not (byte == 92)

-- `x'hex'`, with lower case digits
abbrev pub in_hex : List ℕ → List ℕ
in_hex bytes = codes "x'" ++ (encode_lower bytes ++ codes "'")

abbrev pub in_quotes : List ℕ → List ℕ
in_quotes bytes = codes "'" ++ (bytes ++ codes "'")

-- whether bytes of this type are a text
abbrev pub is_text : ColType → Bool
is_text BigInt = false
is_text BigUint = false
is_text IntType = false
is_text Uint32 = false
is_text (VarChar n) = true
is_text (VarBinary n) = false

-- a text in single quotes where each byte stands for itself there; other bytes in hexadecimal
abbrev pub shown_bytes : Bool → List ℕ → List ℕ
shown_bytes text bytes = if text && list_all is_plain bytes then in_quotes bytes else in_hex bytes

abbrev pub shown : ColType → Value → List ℕ
shown ty Null = codes "NULL"
shown ty (Int n) = signed_decimal n
shown ty (Uint n) = decimal n
shown ty (Bytes s) = shown_bytes (is_text ty) s
