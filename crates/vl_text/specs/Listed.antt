-- The texts of several values in a row.
use Rattle.std.specs.Prelude.{ℕ, ◌+◌, ◌==◌, if◌then◌else◌, List, [], ◌∷◌, ◌++◌}
use Rattle.vl_values.specs.declared.value.Value.{Value}

-- what stands before value n: the separator, unless it is the first
abbrev pub before_value : List ℕ → ℕ → List ℕ
before_value separator n = if n == 0 then [] else separator

-- the values from number n on, of which f gives the texts, with the separator between each two
abbrev pub listed_from : List ℕ → (ℕ → Value → List ℕ) → ℕ → List Value → List ℕ
listed_from separator f n [] = []
listed_from separator f n (value ∷ rest) = before_value separator n ++ (f n value ++ listed_from separator f (n + 1) rest)

abbrev pub listed : List ℕ → (ℕ → Value → List ℕ) → List Value → List ℕ
listed separator f values = listed_from separator f 0 values
