-- The fields of payloads as bytes.
use Rattle.std.specs.Prelude.{ℕ, ◌+◌, ◌^◌, ◌==◌, bit_and, nat_lt, Bool, if◌then◌else◌, List, [], ◌∷◌, ◌++◌, length}
use Rattle.std.specs.Int.{to_le_bytes, bytes_low_first, w16, w64}

-- a number of two bytes, the low one first
abbrev pub two_bytes : ℕ → List ℕ
two_bytes n = to_le_bytes w16 n

-- a length-encoded number in its shortest form: one byte below 251, else a mark and 2, 3 or 8 bytes
abbrev pub length_encoded : ℕ → List ℕ
length_encoded n =
    if nat_lt n 251 then n ∷ [] else
    if nat_lt n (2 ^ 16) then 252 ∷ two_bytes n else
    if nat_lt n (2 ^ 24) then 253 ∷ bytes_low_first 0 3 n else
    254 ∷ to_le_bytes w64 n

-- a text behind its length
abbrev pub text_bytes : List ℕ → List ℕ
text_bytes text = length_encoded (length text) ++ text

-- the status flags: in a transaction 1, with autocommit on 2
abbrev pub status_flags : Bool → Bool → ℕ
status_flags tx auto = (if tx then 1 else 0) + (if auto then 2 else 0)

-- the rows that an OK counts: with FOUND_ROWS those found, else those changed
abbrev pub counted : ℕ → ℕ → ℕ → ℕ
counted caps affected found = if bit_and caps 2 == 0 then affected else found
