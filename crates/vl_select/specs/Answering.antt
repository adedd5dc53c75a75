-- What a program tells after the answer to its action, and what is left then.
use Rattle.std.specs.Prelude.{◌≡◌, ℕ, nat_lt, Bool, true, false, not, List, length, Option, Some, None}
use Rattle.vl_values.specs.declared.cause.Cause.{Cause}
use Rattle.vl_values.specs.declared.cause.Cause.TheVariants as causes
use Rattle.vl_values.specs.declared.key.Key.{Key}
use Rattle.vl_values.specs.declared.limit.Limit.{Limit as Quantity}
use Rattle.vl_values.specs.declared.lost_why.LostWhy.{LostWhy}
use Rattle.vl_values.specs.declared.reply.Reply.TheVariants as replies
use Rattle.vl_catalog.specs.declared.catalog.Catalog.{Catalog}
use Rattle.vl_port.specs.declared.answer.Answer.{Answer}
use Rattle.vl_port.specs.declared.answer.Answer.TheVariants.{Done, Unchanged, Rows, Found, Held, Lost, Device, Limit, Memory}
use Rattle.vl_port.specs.declared.tx_state.TxState.{TxState}
use Rattle.vl_port.specs.View.{Values}
use Rattle.vl_statement.specs.declared.program_told.ProgramTold.{ProgramTold}
use Rattle.vl_statement.specs.declared.program_told.ProgramTold.TheVariants as told
use Rattle.vl_statement.specs.Refusing.{OrNoMemory, device_failed, read_lost, refused, refused_whole, session_lost}
use Rattle.vl_statement.specs.Waiting.{Waits}
use Rattle.vl_select.specs.Columns.{columns_of}
use Rattle.vl_select.specs.Progress.{Action, Progress, due, passed, with_entries, with_rows, with_try}
use Rattle.vl_select.specs.Results.{IsResultOf}

-- the result set of the rows that were read. A transaction of its own ends with it
abbrev pub Answers : Catalog → TxState → Progress → ProgramTold → Type 0
Answers catalog tx p tells = (rows : List Values) × IsResultOf p.what p.sorts p.limit p.tally.rows p.rows rows × (tells ≡ told.Reply (replies.Rows (columns_of catalog p.table p.what) rows (not tx.single) tx.auto))

-- memory is wanted for the order, the columns and the projected rows
abbrev pub Ends : Catalog → TxState → Progress → ProgramTold → Type 0
Ends catalog tx p tells = OrNoMemory tx false tells (Answers catalog tx p tells)

-- the next action is due, or the statement is answered
abbrev pub GoesTo : Catalog → TxState → Option Action → Progress → ProgramTold → Progress → Type 0
GoesTo catalog tx None after tells new = Ends catalog tx after tells
GoesTo catalog tx (Some action) after tells new = (tells ≡ told.More) × (new ≡ after)

abbrev pub Goes : Catalog → TxState → Progress → ProgramTold → Progress → Type 0
Goes catalog tx after tells new = GoesTo catalog tx (due after) after tells new

-- ---- rows

-- the rows are kept, or one of them passes a limit
abbrev pub Takes : Catalog → TxState → Option (Quantity × ℕ) → Progress → List (Key × Values) → ProgramTold → Progress → Type 0
Takes catalog tx None old rows tells new = OrNoMemory tx false tells (Goes catalog tx (with_rows rows old) tells new)
Takes catalog tx (Some limit) old rows tells new = tells ≡ refused tx false (causes.Limit limit.0 limit.1)

-- of entries, or of rows
abbrev pub TakesOf : Catalog → TxState → Bool → Progress → List (Key × Values) → ProgramTold → Progress → Type 0
TakesOf catalog tx true old rows tells new = OrNoMemory tx false tells (Goes catalog tx (with_entries catalog rows old) tells new)
TakesOf catalog tx false old rows tells new = Takes catalog tx (passed old.what tx.limits old.tally rows) old rows tells new

-- ---- all other answers

-- the key that the read must obtain is held by another session. Nothing was written
abbrev pub AwaitsKey : Catalog → TxState → Progress → ℕ → Key → ProgramTold → Progress → Type 0
AwaitsKey catalog tx old by key tells new = Waits catalog tx false old.tries by key tells (with_try old) new

-- a session's loss is told with its group; a read without one has none
abbrev pub loss : Catalog → Action → Bool → LostWhy → Cause
loss catalog action true why = session_lost catalog action.group action.shard why
loss catalog action false why = read_lost catalog action.shard

-- the answer to a read that was done by a session, or without one. Nothing was written before a refusal
abbrev pub Answered : Catalog → TxState → Progress → Action → Bool → Answer → ProgramTold → Progress → Type 0
Answered catalog tx old action session (Rows rows) tells new = TakesOf catalog tx (nat_lt old.looked (length old.entries)) old rows tells new
Answered catalog tx old action session (Held by key) tells new = AwaitsKey catalog tx old by key tells new
Answered catalog tx old action session (Limit what count) tells new = tells ≡ refused tx false (causes.Limit what count)
Answered catalog tx old action session (Lost why) tells new = tells ≡ refused_whole (loss catalog action session why)
Answered catalog tx old action session Device tells new = tells ≡ refused_whole (device_failed catalog action.shard)
Answered catalog tx old action session Memory tells new = tells ≡ refused tx false causes.OutOfMemory
-- no write is done
Answered catalog tx old action session Done tells new = ⊥
Answered catalog tx old action session Unchanged tells new = ⊥
Answered catalog tx old action session (Found key row) tells new = ⊥

-- the answers that a read may get
abbrev pub IsReadAnswer : Answer → Type 0
IsReadAnswer (Rows rows) = Unit {0}
IsReadAnswer (Held by key) = Unit {0}
IsReadAnswer (Limit what count) = Unit {0}
IsReadAnswer (Lost why) = Unit {0}
IsReadAnswer Device = Unit {0}
IsReadAnswer Memory = Unit {0}
IsReadAnswer Done = ⊥
IsReadAnswer Unchanged = ⊥
IsReadAnswer (Found key row) = ⊥

-- ---- what is told

-- the program goes on
abbrev pub GoesOn : ProgramTold → Type 0
GoesOn told.More = Unit {0}
GoesOn (told.Held by key tries) = Unit {0}
GoesOn (told.Reply reply) = ⊥
