-- A script that is played as its bytes come.
use Rattle.std.specs.Prelude.{◌≡◌, ℕ, ◌+◌, ◌-◌, ◌*◌, ◌<◌, ◌≤◌, ◌==◌, false, List, [], ◌++◌, length, All, Option}
use Rattle.std.specs.Io.KnownBytes.{Appends, Keeps}
use Rattle.std.specs.Str.Lines.{lines}
use Rattle.vl_base.specs.Sink.{WrotePart}
use Rattle.vl_model.specs.Steps.{Rows}
use Rattle.vtgate_cl.specs.declared.stop.Stop.{Stop}
use Rattle.vtgate_cl.specs.declared.stop.Stop.TheVariants.{NotScript, Read, Write, Memory}
use Rattle.vtgate_cl.specs.Script.{Plays, Answers, IsFault, fault_line, line_limit, count_limit, IsRefused, Begins}

-- no end of a line
abbrev pub IsPlain : List ℕ → Type 0
IsPlain = All (λ b. (b == 10) ≡ false)

-- The bytes read so far are lines that have ended, which are answered, and a line that hasn't: whatever
-- comes behind, its bytes go on with that line.
pub record PlayedAt (read text : List ℕ) (rows : Rows) (count : ℕ) (line : List ℕ) : Type 0 where
  pub ended : List (List ℕ)
  pub long : length ended ≡ count
  pub answered : Plays 0 [] ended text rows
  pub cut : (more : List ℕ) → lines (read ++ more) ≡ ended ++ lines (line ++ more)
  pub plain : IsPlain line

-- how far the line that tells a fault was printed
abbrev pub Refuses : Stop → Option (List ℕ) → Option (List ℕ) → List ℕ → Type 0
Refuses NotScript old new text = Appends old new text
Refuses Read old new text = ⊥
Refuses Write old new text = WrotePart old new text
Refuses Memory old new text = Keeps old new

-- how the script stops at line n, counted from 0: at a fault, or with a part of the answer, or for want of memory
pub data Halts (n : ℕ) (rows : Rows) (line : List ℕ) (old new : Option (List ℕ)) : Stop → Type 0 where
  AtFault : (stop : Stop) → IsFault n line → Refuses stop old new (fault_line (n + 1)) → Halts n rows line old new stop
  InAnswer : (text : List ℕ) (after : Rows) → length line ≤ line_limit → n < count_limit → Answers rows line after text → WrotePart old new text → Halts n rows line old new Write
  ForMemory : Keeps old new → Halts n rows line old new Memory

-- what is printed in all where the script stops
abbrev pub Ends : Stop → List ℕ → List ℕ → Type 0
Ends NotScript bytes text = IsRefused bytes text
Ends Read bytes text = Begins bytes text
Ends Write bytes text = Begins bytes text
Ends Memory bytes text = Begins bytes text

-- how many bytes a script may still have, at most: of the line that hasn't ended, and of those behind it with their ends
abbrev pub room : ℕ → List ℕ → ℕ
room count line = (count_limit - count) * (line_limit + 2) + (line_limit + 1 - length line)
