-- What is written behind a file's closed gate.
use Rattle.std.specs.Prelude.{◌≡◌, ◌≢◌, ◌⊎◌, ◌++◌, [], ◌∷◌, ℕ, List}
use Rattle.vl_record.specs.Grammar.{EndsAt}
use Rattle.vl_record.specs.Spelling.{open_gate}
use Rattle.vl_record.specs.Stored.{IsNew}

-- bytes with a closed gate behind them
abbrev pub framed : List ℕ → List ℕ
framed text = text ++ 0 ∷ []

-- the same file with a text and a closed gate behind its closed gate
pub record IsStaged (front text file : List ℕ) : Type 0 where
  pub gate : ℕ
  pub rest : List ℕ
  pub split : file ≡ front ++ gate ∷ (framed text ++ rest)
  pub shut : gate ≢ open_gate

-- a text behind its open gate
abbrev pub unlocked : List ℕ → List ℕ
unlocked text = open_gate ∷ text

abbrev pub EndsWithOrWithout : List ℕ → List ℕ → List ℕ → Type 0
EndsWithOrWithout front text file = EndsAt front file ⊎ EndsAt (front ++ unlocked text) file

-- nothing stored yet, or the text behind an open file gate, with a closed gate behind it
abbrev pub IsNewOrEndsAt : List ℕ → List ℕ → Type 0
IsNewOrEndsAt text file = IsNew file ⊎ EndsAt (unlocked text) file
