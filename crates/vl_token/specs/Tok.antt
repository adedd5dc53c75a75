-- What a token stands for.
use Rattle.std.specs.Prelude.{ℕ, Bool, List}

pub data Tok : Type 0 where
  Word : List ℕ → Tok
  Quoted : List ℕ → Tok
  Text : List ℕ → Tok
  Hex : List ℕ → Tok
  Number : Bool → List ℕ → Tok
  Variable : List ℕ → Tok
  Mark : ℕ → Tok
  Bad : Tok
