-- The statuses of the program, and what the status of a script tells of the bytes that were read and printed.
use Rattle.std.specs.Prelude.{◌≡◌, ℕ, List, [], ◌∷◌, ◌++◌, Option, Some, Contains}
use Rattle.std.specs.Io.KnownBytes.{Appends}
use Rattle.vl_model.specs.Steps.{Rows}
use Rattle.vtgate_cl.specs.declared.status.Status.{Status}
use Rattle.vtgate_cl.specs.declared.status.Status.TheVariants.{Done, InvalidArguments, NotScriptLine, ReadFailed, WriteFailed, OutOfMemory, FileNotLoaded, CatalogRefused}
use Rattle.vtgate_cl.specs.declared.stop.Stop.{Stop}
use Rattle.vtgate_cl.specs.declared.stop.Stop.TheVariants.{NotScript, Read, Write, Memory}
use Rattle.vtgate_cl.specs.declared.words_fault.WordsFault.{WordsFault}
use Rattle.vtgate_cl.specs.declared.words_fault.WordsFault.TheVariants as words_faults
use Rattle.vtgate_cl.specs.Playing.{PlayedAt}
use Rattle.vtgate_cl.specs.Script.{IsWhole, IsRefused, Begins}

-- the number with which the program exits
abbrev pub number_of : Status → ℕ
number_of Done = 0
number_of InvalidArguments = 1
number_of NotScriptLine = 2
number_of ReadFailed = 3
number_of WriteFailed = 4
number_of OutOfMemory = 6
number_of FileNotLoaded = 8
number_of CatalogRefused = 10

-- those of a script
abbrev pub IsScriptStatus : Status → Type 0
IsScriptStatus = Contains (Done ∷ NotScriptLine ∷ ReadFailed ∷ WriteFailed ∷ OutOfMemory ∷ [])

-- those of words that aren't accepted: memory may be refused before that is known
abbrev pub IsRefusalStatus : Status → Type 0
IsRefusalStatus = Contains (InvalidArguments ∷ OutOfMemory ∷ [])

abbrev pub status_of_words : WordsFault → Status
status_of_words words_faults.Refused = InvalidArguments
status_of_words (words_faults.Help text) = InvalidArguments
status_of_words words_faults.Memory = OutOfMemory

abbrev pub status_of : Stop → Status
status_of NotScript = NotScriptLine
status_of Read = ReadFailed
status_of Write = WriteFailed
status_of Memory = OutOfMemory

-- The source gave a front of its bytes and still has the others: the lines that have ended in that front
-- are answered, and nothing is printed of the line that hasn't.
abbrev pub IsPaused : List ℕ → Option (List ℕ) → List ℕ → Type 0
IsPaused bytes left text = (read : List ℕ) × (rest : List ℕ) × (rows : Rows) × (count : ℕ) × (line : List ℕ)
    × (bytes ≡ read ++ rest) × (left ≡ Some rest) × PlayedAt read text rows count line

-- all bytes were read, and all lines are answered
abbrev pub IsDone : List ℕ → Option (List ℕ) → List ℕ → Type 0
IsDone bytes left text = IsWhole bytes text × (left ≡ Some [])

-- what is printed where the reading of a script stops, and what the source has left
abbrev pub Breaks : Stop → List ℕ → Option (List ℕ) → List ℕ → Type 0
Breaks NotScript bytes left text = IsRefused bytes text
Breaks Read bytes left text = IsPaused bytes left text
Breaks Write bytes left text = Begins bytes text
Breaks Memory bytes left text = Begins bytes text

-- what was printed of a script of these bytes, and what the source has left of them
pub record IsTold (status : Status) (bytes : List ℕ) (left : Option (List ℕ)) (text : List ℕ) : Type 0 where
  pub done : status ≡ Done → IsDone bytes left text
  pub refused : status ≡ NotScriptLine → IsRefused bytes text
  pub paused : status ≡ ReadFailed → IsPaused bytes left text
  -- in each case no more than the answers of lines before the first fault, in order, and that fault
  pub begins : Begins bytes text

-- Where the source tells its bytes: a text was printed, of which this holds, with the bytes and what the
-- source has left of them.
abbrev pub Prints : (List ℕ → Option (List ℕ) → List ℕ → Type 0) → Option (List ℕ) → Option (List ℕ) → Option (List ℕ) → Option (List ℕ) → Type 0
Prints Says left after held holds = (bytes : List ℕ) → left ≡ Some bytes → (text : List ℕ) × Appends held holds text × Says bytes after text
