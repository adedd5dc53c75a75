-- What a script prints: ONE table answers its lines, in order.
use Rattle.std.specs.Prelude.{◌≡◌, ℕ, ◌+◌, ◌<◌, ◌≤◌, ◌⊎◌, List, [], ◌∷◌, ◌++◌, codes, length}
use Rattle.std.specs.Fmt.{decimal}
use Rattle.std.specs.Str.Lines.{lines}
use Rattle.vl_sql.specs.declared.stmt.Stmt.{Stmt}
use Rattle.vl_model.specs.ReplyLine.{reply_line}
use Rattle.vl_model.specs.ScriptLine.{Asks, IsSkipped}
use Rattle.vl_model.specs.Steps.{Rows, Step}
use Rattle.vl_values.specs.declared.reply.Reply.{Reply}

-- the most bytes of a line, without its LF and a CR before that
abbrev pub line_limit : ℕ
line_limit = 1048576

-- the most lines of a script
abbrev pub count_limit : ℕ
count_limit = 1000000

-- the table answers a line: what is printed, and the rows afterwards
pub data Answers (old : Rows) (line : List ℕ) (new : Rows) : List ℕ → Type 0 where
  Passed : IsSkipped line → new ≡ old → Answers old line new []
  Said : (stmt : Stmt) (reply : Reply) → Asks line stmt → Step old stmt reply new → Answers old line new (reply_line (codes "s1") reply)

-- the table answers lines, each within the limits, from line n of a script on, counted from 0
abbrev pub Plays : ℕ → Rows → List (List ℕ) → List ℕ → Rows → Type 0
Plays n old [] text new = (text ≡ []) × (new ≡ old)
Plays n old (line ∷ others) text new = (mid : Rows) × (front : List ℕ) × (back : List ℕ)
    × (text ≡ front ++ back) × (length line ≤ line_limit) × (n < count_limit) × Answers old line mid front × Plays (n + 1) mid others back new

-- line n, counted from 0, is too long, is one too many or is outside the grammar
pub data IsFault (n : ℕ) (line : List ℕ) : Type 0 where
  TooLong : line_limit < length line → IsFault n line
  TooMany : count_limit ≤ n → IsFault n line
  Outside : (IsSkipped line → ⊥) → ((stmt : Stmt) → Asks line stmt → ⊥) → IsFault n line

-- what is printed for a fault; lines are numbered from 1
abbrev pub fault_line : ℕ → List ℕ
fault_line number = codes "line " ++ (decimal number ++ (codes " is not a script line" ++ 10 ∷ []))

-- all lines are answered
abbrev pub IsWhole : List ℕ → List ℕ → Type 0
IsWhole bytes text = (rows : Rows) × Plays 0 [] (lines bytes) text rows

-- the first lines are answered
abbrev pub IsFront : List ℕ → List ℕ → Type 0
IsFront bytes text = (first : List (List ℕ)) × (others : List (List ℕ)) × (rows : Rows) × (lines bytes ≡ first ++ others) × Plays 0 [] first text rows

-- the lines before the first fault are answered, and the fault is told
abbrev pub IsRefused : List ℕ → List ℕ → Type 0
IsRefused bytes text = (first : List (List ℕ)) × (fault : List ℕ) × (others : List (List ℕ)) × (answers : List ℕ) × (rows : Rows)
    × (lines bytes ≡ first ++ fault ∷ others) × Plays 0 [] first answers rows × IsFault (length first) fault × (text ≡ answers ++ fault_line (length first + 1))

-- a part of that: some of its bytes, from the first on
abbrev pub Begins : List ℕ → List ℕ → Type 0
Begins bytes text = (more : List ℕ) × (IsFront bytes (text ++ more) ⊎ IsRefused bytes (text ++ more))
