-- What the reader of key ranges finds on its way.
use Rattle.std.specs.Prelude.{◌≡◌, ℕ, ◌+◌, ◌%◌, ◌<◌, ◌≤◌, false, List, length, take, drop, slice_index}
use Rattle.std.specs.List.{AllPass}
use Rattle.hex.specs.Hex.{is_hex_digit}

-- the text begins with n digits, and with no more unless these are 32
pub record IsRun (text : List ℕ) (n : ℕ) : Type 0 where
  pub within : n ≤ length text
  pub most : n ≤ 32
  pub digits : AllPass is_hex_digit (take n text)
  pub stops : n < length text → n < 32 → is_hex_digit (slice_index text n) ≡ false

-- digits that may be a side
pub record IsDigits (digits : List ℕ) : Type 0 where
  pub even : length digits % 2 ≡ 0
  pub most : length digits ≤ 32
  pub each : AllPass is_hex_digit digits

-- the `-` between two sides is at this place
pub record IsDash (text : List ℕ) (at : ℕ) : Type 0 where
  pub within : at < length text
  pub dash : slice_index text at ≡ 45
  pub before : IsDigits (take at text)
  pub behind : IsDigits (drop (at + 1) text)
