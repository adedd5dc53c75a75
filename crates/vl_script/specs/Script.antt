-- The lines of the script language.
use Rattle.std.specs.Prelude.{◌≡◌, ℕ, ◌≤◌, List, [], ◌∷◌, ◌++◌, codes, length, All, ◌==◌, false}
use Rattle.std.specs.Fmt.{decimal}
use Rattle.vl_values.specs.Group.{group_name}
use Rattle.vl_values.specs.declared.group.Group.{Group}
use Rattle.vl_script.specs.declared.line.Line.{Line}
use Rattle.vl_script.specs.declared.line.Line.TheVariants.{Skipped, Run, Ask, Step, Go, Close, Lose, DropSession, Restart, Fail, CrashAt, CrashNow, Checkpoint, Dump, Audit, Visited}
use Rattle.vl_script.specs.declared.pick.Pick.{Pick}
use Rattle.vl_script.specs.declared.pick.Pick.TheVariants.{None_, All as AllPick, Half, Gates}
use Rattle.vl_script.specs.declared.side.Side.{Side}
use Rattle.vl_script.specs.declared.side.Side.TheVariants.{Before, After}

-- an empty line, or one that begins with `#`
pub data IsSkipped : List ℕ → Type 0 where
  Empty : IsSkipped []
  Comment : (text : List ℕ) → IsSkipped (35 ∷ text)

abbrev pub HasNoSpace : List ℕ → Type 0
HasNoSpace = All (λ b. (b == 32) ≡ false)

-- a word: at least one byte, none of them a space
pub record IsWord (word : List ℕ) : Type 0 where
  pub some : 1 ≤ length word
  pub plain : HasNoSpace word

-- N, which stands as decimal digits without leading zeros
pub record IsCount (n : ℕ) : Type 0 where
  pub least : 1 ≤ n
  pub most : n ≤ 1000000

-- the number of a session
pub record IsSession (n : ℕ) : Type 0 where
  pub least : 1 ≤ n
  pub most : n ≤ 9999

-- SESSION: `s1` to `s9999`
abbrev pub session_name : ℕ → List ℕ
session_name n = codes "s" ++ decimal n

-- PICK
abbrev pub pick_name : Pick → List ℕ
pick_name None_ = codes "none"
pick_name AllPick = codes "all"
pick_name Half = codes "half"
pick_name Gates = codes "gates"

abbrev pub side_name : Side → List ℕ
side_name Before = codes "before"
side_name After = codes "after"

-- a keyword and its space, then a session
abbrev pub IsOfSession : List ℕ → List ℕ → ℕ → Type 0
IsOfSession text keyword session = (text ≡ keyword ++ session_name session) × IsSession session

-- a keyword and its space, then a session, one space, and any bytes
abbrev pub Says : List ℕ → List ℕ → ℕ → List ℕ → Type 0
Says text keyword session sql = (text ≡ keyword ++ (session_name session ++ (codes " " ++ sql))) × IsSession session

-- a keyword and its space, then a shard
abbrev pub IsOfShard : List ℕ → List ℕ → List ℕ → Type 0
IsOfShard text keyword shard = (text ≡ keyword ++ shard) × IsWord shard

abbrev pub IsLoss : List ℕ → List ℕ → Side → ℕ → Type 0
IsLoss text shard side n = (text ≡ codes "lose " ++ (shard ++ (codes " " ++ (side_name side ++ (codes " " ++ decimal n))))) × IsWord shard × IsCount n

abbrev pub IsDrop : List ℕ → ℕ → Group → List ℕ → Type 0
IsDrop text session group shard = (text ≡ codes "drop " ++ (session_name session ++ (codes " " ++ (group_name group ++ (codes " " ++ shard))))) × IsSession session × IsWord shard

abbrev pub IsFailure : List ℕ → List ℕ → ℕ → Type 0
IsFailure text shard n = (text ≡ codes "fail " ++ (shard ++ (codes " " ++ decimal n))) × IsWord shard × IsCount n

abbrev pub IsCrash : List ℕ → List ℕ → ℕ → Pick → Type 0
IsCrash text shard n pick = (text ≡ codes "crash " ++ (shard ++ (codes " " ++ (decimal n ++ (codes " " ++ pick_name pick))))) × IsWord shard × IsCount n

-- the text is this line
abbrev pub IsLine : List ℕ → Line → Type 0
IsLine text Skipped = IsSkipped text
IsLine text (Run session sql) = Says text (codes "run ") session sql.now
IsLine text (Ask session sql) = Says text (codes "ask ") session sql.now
IsLine text (Step session) = IsOfSession text (codes "step ") session
IsLine text (Go session) = IsOfSession text (codes "go ") session
IsLine text (Close session) = IsOfSession text (codes "close ") session
IsLine text (Lose shard side carry) = IsLoss text shard.now side carry
IsLine text (DropSession session group shard) = IsDrop text session group shard.now
IsLine text (Restart shard) = IsOfShard text (codes "restart ") shard.now
IsLine text (Fail shard call) = IsFailure text shard.now call
IsLine text (CrashAt shard call pick) = IsCrash text shard.now call pick
IsLine text (CrashNow pick) = text ≡ codes "crash " ++ pick_name pick
IsLine text (Checkpoint shard) = IsOfShard text (codes "checkpoint ") shard.now
IsLine text Dump = text ≡ codes "dump"
IsLine text Audit = text ≡ codes "audit"
IsLine text (Visited session) = IsOfSession text (codes "visited ") session

-- two lines are the same, part by part
abbrev pub IsSame : Line → Line → Type 0
IsSame Skipped Skipped = Unit {0}
IsSame (Run session sql) (Run other_session other_sql) = (session ≡ other_session) × (sql.now ≡ other_sql.now)
IsSame (Ask session sql) (Ask other_session other_sql) = (session ≡ other_session) × (sql.now ≡ other_sql.now)
IsSame (Step session) (Step other_session) = session ≡ other_session
IsSame (Go session) (Go other_session) = session ≡ other_session
IsSame (Close session) (Close other_session) = session ≡ other_session
IsSame (Lose shard side count) (Lose other_shard other_side other_count) = (shard.now ≡ other_shard.now) × (side ≡ other_side) × (count ≡ other_count)
IsSame (DropSession session group shard) (DropSession other_session other_group other_shard) = (session ≡ other_session) × (group ≡ other_group) × (shard.now ≡ other_shard.now)
IsSame (Restart shard) (Restart other_shard) = shard.now ≡ other_shard.now
IsSame (Fail shard count) (Fail other_shard other_count) = (shard.now ≡ other_shard.now) × (count ≡ other_count)
IsSame (CrashAt shard count pick) (CrashAt other_shard other_count other_pick) = (shard.now ≡ other_shard.now) × (count ≡ other_count) × (pick ≡ other_pick)
IsSame (CrashNow pick) (CrashNow other_pick) = pick ≡ other_pick
IsSame (Checkpoint shard) (Checkpoint other_shard) = shard.now ≡ other_shard.now
IsSame Dump Dump = Unit {0}
IsSame Audit Audit = Unit {0}
IsSame (Visited session) (Visited other_session) = session ≡ other_session
IsSame _ _ = ⊥

-- the lines that begin with a keyword and a session
abbrev pub NamesSession : Line → Type 0
NamesSession (Run session sql) = Unit {0}
NamesSession (Ask session sql) = Unit {0}
NamesSession (Step session) = Unit {0}
NamesSession (Go session) = Unit {0}
NamesSession (Close session) = Unit {0}
NamesSession (DropSession session group shard) = Unit {0}
NamesSession (Visited session) = Unit {0}
NamesSession _ = ⊥

-- the lines that begin with a keyword and a shard
abbrev pub NamesShard : Line → Type 0
NamesShard (Lose shard side carry) = Unit {0}
NamesShard (Restart shard) = Unit {0}
NamesShard (Fail shard call) = Unit {0}
NamesShard (CrashAt shard call pick) = Unit {0}
NamesShard (Checkpoint shard) = Unit {0}
NamesShard _ = ⊥

-- the lines that name neither
abbrev pub NamesNeither : Line → Type 0
NamesNeither Skipped = Unit {0}
NamesNeither (CrashNow pick) = Unit {0}
NamesNeither Dump = Unit {0}
NamesNeither Audit = Unit {0}
NamesNeither _ = ⊥
