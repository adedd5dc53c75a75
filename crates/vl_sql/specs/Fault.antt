-- Where a text stops being a statement.
use Rattle.std.specs.Prelude.{◌≡◌, ◌⊎◌, ℕ, ◌-◌, List, [], ◌∷◌, ◌++◌, length, slice_index_or, Result, Ok, Err}
use Rattle.std.specs.List.{AllByRecursion}
use Rattle.vl_token.specs.Tok.{Tok}
use Rattle.vl_token.specs.Lexical.{IsToken, tokens_in, lefts_in}
use Rattle.vl_sql.specs.declared.stmt.Stmt.{Stmt}
use Rattle.vl_sql.specs.declared.parser.ParseError.{ParseError}
use Rattle.vl_sql.specs.declared.parser.ParseError.TheVariants.{Syntax, Memory}
use Rattle.vl_sql.specs.Grammar.{IsStatement}

-- the tokens begin a statement, whose limits are `more` above their own; tokens that a text can have go on with it
pub record Begins (more : ℕ) (before : List Tok) : Type 0 where
  pub statement : Stmt
  pub behind : List Tok
  pub real : AllByRecursion IsToken behind
  pub is : IsStatement more statement (before ++ behind)

-- the tokens before begin a statement, and no statement goes on with the next token, whatever its limits
pub record IsWrong (before rest : List Tok) : Type 0 where
  pub begun : Begins 0 before
  pub dead : (t : Tok) (behind other : List Tok) (more : ℕ) (s : Stmt) → rest ≡ t ∷ behind → IsStatement more s (before ++ t ∷ other) → ⊥

-- an item too many: the tokens before begin a statement only with larger limits, and without the last of them a statement within its own
pub record IsTooMany (before : List Tok) : Type 0 where
  pub front : List Tok
  pub last : Tok
  pub parts : before ≡ front ++ last ∷ []
  pub begun : Begins 0 front
  pub more : ℕ
  pub beyond : Begins more before
  pub dead : (other : List Tok) (s : Stmt) → IsStatement 0 s (before ++ other) → ⊥

-- n tokens are left where the tokens stop being a statement
pub record IsFault (ts : List Tok) (n : ℕ) : Type 0 where
  pub before : List Tok
  pub rest : List Tok
  pub parts : ts ≡ before ++ rest
  pub left : length rest ≡ n
  pub cause : IsWrong before rest ⊎ IsTooMany before

-- the first byte of the token from which on n are left; the text's length where none is
abbrev pub place_of : List ℕ → ℕ → ℕ
place_of text n = length text - slice_index_or (lefts_in text) (length (lefts_in text) - n) 0

-- the place is that of the one fault
abbrev pub IsAt : ParseError → List ℕ → Type 0
IsAt (Syntax at) text = (n : ℕ) × IsFault (tokens_in text) n × (at ≡ place_of text n)
IsAt Memory text = Unit {0}

-- the statement, unless memory ran out
abbrev pub IsRead : Result Stmt ParseError → Stmt → Type 0
IsRead (Ok q) s = q ≡ s
IsRead (Err (Syntax at)) s = ⊥
IsRead (Err Memory) s = Unit {0}
