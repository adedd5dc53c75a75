-- What a program tells after the answer to its action, and what is left then.
use Rattle.std.specs.Prelude.{◌≡◌, ℕ, List, Option, Some, None}
use Rattle.vl_values.specs.declared.cause.Cause.{Cause}
use Rattle.vl_values.specs.declared.cause.Cause.TheVariants as causes
use Rattle.vl_values.specs.declared.key.Key.{Key}
use Rattle.vl_values.specs.declared.limit.Limit.{Limit as Quantity}
use Rattle.vl_catalog.specs.declared.catalog.Catalog.{Catalog}
use Rattle.vl_port.specs.declared.answer.Answer.{Answer}
use Rattle.vl_port.specs.declared.answer.Answer.TheVariants.{Done, Unchanged, Rows, Found, Held, Lost, Device, Limit, Memory}
use Rattle.vl_port.specs.declared.tx_state.TxState.{TxState}
use Rattle.vl_port.specs.View.{Values}
use Rattle.vl_statement.specs.declared.program_told.ProgramTold.{ProgramTold}
use Rattle.vl_statement.specs.declared.program_told.ProgramTold.TheVariants as told
use Rattle.vl_statement.specs.Refusing.{OrNoMemory, device_failed, done, refused as refused_when, refused_whole, session_lost}
use Rattle.vl_statement.specs.Tallies.{first_over}
use Rattle.vl_statement.specs.Waiting.{Waits}
use Rattle.vl_change.specs.declared.action.Action.{Action}
use Rattle.vl_change.specs.Progress.{Progress, due, found, with_rows, with_try, with_write}

-- ---- replies

-- the statement is done: how many rows it wrote and found. A transaction of its own ends with it
abbrev pub reply_of : TxState → Progress → ProgramTold
reply_of tx p = done tx p.done (found p)

-- a refusal, by whether the statement has written
abbrev pub refused : TxState → Progress → Cause → ProgramTold
refused tx p cause = refused_when tx p.wrote cause

-- ---- after an answer

-- the next action is due, or the statement is done
abbrev pub TellsNext : TxState → Option Action → Progress → ProgramTold → Type 0
TellsNext tx None after tells = tells ≡ reply_of tx after
TellsNext tx (Some action) after tells = tells ≡ told.More

abbrev pub Goes : TxState → Progress → ProgramTold → Progress → Type 0
Goes tx after tells new = TellsNext tx (due after) after tells × (new ≡ after)

-- the rows that a read gave of a shard are counted, and their writes known, or one of them passes a limit
abbrev pub Takes : TxState → Option (Quantity × ℕ) → Progress → ℕ → List (Key × Values) → ProgramTold → Progress → Type 0
Takes tx None old shard rows tells new = OrNoMemory tx old.wrote tells (Goes tx (with_rows shard rows old) tells new)
Takes tx (Some limit) old shard rows tells new = tells ≡ refused tx old (causes.Limit limit.0 limit.1)

-- memory is wanted for the action, for the writes of the rows that were found, and for the texts of a refusal
abbrev pub Answered : Catalog → TxState → Progress → Action → Answer → ProgramTold → Progress → Type 0
Answered catalog tx old action Done tells new = Goes tx (with_write old) tells new
Answered catalog tx old action (Rows rows) tells new = Takes tx (first_over tx.limits old.search.tally rows) old action.shard rows tells new
Answered catalog tx old action (Held by key) tells new = Waits catalog tx old.wrote old.tries by key tells (with_try old) new
Answered catalog tx old action (Limit what count) tells new = tells ≡ refused tx old (causes.Limit what count)
Answered catalog tx old action (Lost why) tells new = tells ≡ refused_whole (session_lost catalog action.group action.shard why)
Answered catalog tx old action Device tells new = tells ≡ refused_whole (device_failed catalog action.shard)
Answered catalog tx old action Memory tells new = tells ≡ refused tx old causes.OutOfMemory
-- no row is inserted, and no write depends on a value
Answered catalog tx old action (Found key row) tells new = ⊥
Answered catalog tx old action Unchanged tells new = ⊥
