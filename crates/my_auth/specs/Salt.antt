-- The salt of a greeting, made of random bytes.
use Rattle.std.specs.Prelude.{ℕ, ◌<◌, ◌%◌, ◌==◌, if◌then◌else◌, List, All, map}

-- a byte of seven bits that is neither 0, which would end the salt, nor `$`
abbrev pub seven_bits : ℕ → ℕ
seven_bits n = if n == 0 then 1 else (if n == 0x24 then 0x25 else n)

-- the low seven bits of a byte; 1 for 0, and 0x25 for 0x24
abbrev pub salt_byte : ℕ → ℕ
salt_byte byte = seven_bits (byte % 128)

abbrev pub salt : List ℕ → List ℕ
salt random = map salt_byte random

-- no byte is 0, which clients take for the end of the salt
abbrev pub HasNoZero : List ℕ → Type 0
HasNoZero bytes = All (λ byte. 0 < byte) bytes
