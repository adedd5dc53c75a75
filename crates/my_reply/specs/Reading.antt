-- What bytes say as an OK or an ERR: a value and the bytes behind it, or how many bytes are left at the first fault.
use Rattle.std.specs.Prelude.{◌≡◌, ℕ, ◌-◌, ◌==◌, nat_lt, if◌then◌else◌, List, [], ◌∷◌, ◌++◌, length, take, drop, Option, Some, None, Result, Ok, Err}
use Rattle.std.specs.Int.{from_le_bytes, w16, w32, w64}
use Rattle.my_reply.specs.declared.wire.Wire.{Wire}
use Rattle.my_reply.specs.declared.wire.Wire.TheVariants as wires
use Rattle.my_reply.specs.declared.wire.Fault.{Fault}

abbrev pub Read : Type 0 → Type 0
Read A = Result (A × List ℕ) ℕ

infixl 10 ◌>>=◌
abbrev pub ◌>>=◌ : {A B : Type 0} → Result A ℕ → (A → Result B ℕ) → Result B ℕ
(Ok x) >>= f = f x
(Err left) >>= f = Err left

-- what a function of the code gives is what reading gives
abbrev pub Gives : {X Y : Type 0} → (X → Y) → Result X Fault → Result Y ℕ → Type 0
Gives view (Ok x) read = read ≡ Ok (view x)
Gives view (Err fault) read = read ≡ Err fault.left

-- numbers of two, three and eight bytes, the low one first
abbrev pub two_at : List ℕ → Read ℕ
two_at bytes = if nat_lt (length bytes) 2 then Err 0 else Ok (from_le_bytes w16 (take 2 bytes), drop 2 bytes)

abbrev pub three_at : List ℕ → Read ℕ
three_at bytes = if nat_lt (length bytes) 3 then Err 0 else Ok (from_le_bytes w32 (take 3 bytes ++ 0 ∷ []), drop 3 bytes)

abbrev pub eight_at : List ℕ → Read ℕ
eight_at bytes = if nat_lt (length bytes) 8 then Err 0 else Ok (from_le_bytes w64 (take 8 bytes), drop 8 bytes)

-- a length-encoded number, whether in its shortest form or not; 251 and 255 begin none
unfoldable pub number_at : List ℕ → Read ℕ
number_at [] = Err 0
number_at (first ∷ rest) =
    if nat_lt first 251 then Ok (first, rest) else
    if first == 252 then two_at rest else
    if first == 253 then three_at rest else
    if first == 254 then eight_at rest else
    Err (length (first ∷ rest))

-- the end of a payload, or of all bytes
abbrev pub ends_with : {A : Type 0} → A → List ℕ → Result A ℕ
ends_with x [] = Ok x
ends_with x (more ∷ rest) = Err (length (more ∷ rest))

-- as many bytes as this
abbrev pub bytes_at : ℕ → List ℕ → Read (List ℕ)
bytes_at n bytes = if nat_lt (length bytes) n then Err 0 else Ok (take n bytes, drop n bytes)

-- an OK behind its mark
unfoldable pub ok_at : List ℕ → Result Wire ℕ
ok_at bytes = do
  affected ← number_at bytes
  insert_id ← number_at affected.1
  status ← two_at insert_id.1
  warnings ← two_at status.1
  ends_with (wires.Ok affected.0 insert_id.0 status.0 warnings.0) warnings.1

-- `#` and a SQLSTATE, or none
unfoldable pub state_at : List ℕ → Read (Option (List ℕ))
state_at [] = Ok (None, [])
state_at (first ∷ rest) =
    if first == 35 then (if nat_lt (length rest) 5 then Err 0 else Ok (Some (take 5 rest), drop 5 rest)) else
    Ok (None, first ∷ rest)

-- an ERR behind its mark: a text has at most 512 bytes
unfoldable pub err_at : List ℕ → Result Wire ℕ
err_at bytes = do
  code ← two_at bytes
  state ← state_at code.1
  if nat_lt 512 (length state.1) then Err (length state.1 - 512) else Ok (wires.Err code.0 state.0 state.1)
