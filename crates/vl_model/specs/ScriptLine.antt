-- The lines of a script.
use Rattle.std.specs.Prelude.{◌≡◌, ℕ, ◌+◌, ◌*◌, ◌-◌, ◌^◌, ◌<◌, ◌≤◌, List, [], ◌∷◌, ◌++◌, codes, length, All, Some}
use Rattle.std.specs.Char.{IsAsciiDigit}
use Rattle.vl_sql.specs.declared.stmt.Stmt.{Stmt}
use Rattle.vl_model.specs.Taken.{insert_of}

-- the value of decimal digits, the highest first, behind a number that was read before them
abbrev pub value_behind : ℕ → List ℕ → ℕ
value_behind n [] = n
value_behind n (digit ∷ digits) = value_behind (10 * n + (digit - 48)) digits

-- 1 to 20 decimal digits of a number that has 64 bits
pub record IsNumber (digits : List ℕ) (n : ℕ) : Type 0 where
  pub some : 1 ≤ length digits
  pub most : length digits ≤ 20
  pub each : All IsAsciiDigit digits
  pub value : value_behind 0 digits ≡ n
  pub fits : n < 2 ^ 64

-- `run s1 INSERT INTO t1(id,u) VALUES(N,M)`, and the statement is the INSERT of these two numbers
abbrev pub Asks : List ℕ → Stmt → Type 0
Asks line stmt = (id : ℕ) × (u : ℕ) × (n : List ℕ) × (m : List ℕ)
    × (line ≡ codes "run s1 INSERT INTO t1(id,u) VALUES(" ++ (n ++ (codes "," ++ (m ++ codes ")")))) × IsNumber n id × IsNumber m u × (insert_of stmt ≡ Some (id, u))

-- an empty line, or one that begins with `#`
pub data IsSkipped : List ℕ → Type 0 where
  Empty : IsSkipped []
  Comment : (text : List ℕ) → IsSkipped (35 ∷ text)
