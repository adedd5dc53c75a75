-- What a program tells after a step of its claim or the answer to its row, and what is left then.
use Rattle.std.specs.Prelude.{◌≡◌, ℕ, Bool, true, false, Option, Some, None}
use Rattle.vl_values.specs.declared.cause.Cause.{Cause}
use Rattle.vl_values.specs.declared.cause.Cause.TheVariants as causes
use Rattle.vl_values.specs.declared.group.Group.{Group}
use Rattle.vl_values.specs.declared.group.Group.TheVariants.{Pre, Main, Post}
use Rattle.vl_values.specs.declared.key.Key.{Key}
use Rattle.vl_catalog.specs.declared.catalog.Catalog.{Catalog}
use Rattle.vl_port.specs.declared.answer.Answer.{Answer}
use Rattle.vl_port.specs.declared.answer.Answer.TheVariants.{Done, Unchanged, Rows, Found, Held, Lost, Device, Limit, Memory}
use Rattle.vl_port.specs.declared.tx_state.TxState.{TxState}
use Rattle.vl_lookup.specs.declared.claim_told.ClaimTold.{ClaimTold}
use Rattle.vl_lookup.specs.declared.claim_told.ClaimTold.TheVariants as claims
use Rattle.vl_lookup.specs.Progress.{Progress as Claiming}
use Rattle.vl_statement.specs.declared.program_told.ProgramTold.{ProgramTold}
use Rattle.vl_statement.specs.declared.program_told.ProgramTold.TheVariants as told
use Rattle.vl_statement.specs.Refusing.{IsRefusedFor, device_failed, done, duplicate_entry, duplicate_row, refused, refused_whole, removed_and_claimed, session_lost}
use Rattle.vl_statement.specs.Waiting.{Waits}
use Rattle.vl_insert.specs.declared.task.Task.{Task}
use Rattle.vl_insert.specs.Progress.{Progress, with_action, with_task, with_try}

-- the statement is done: it has written all of its rows
abbrev pub reply_of : TxState → Progress → ProgramTold
reply_of tx p = done tx p.rows p.rows

abbrev pub refused_now : TxState → Progress → Cause → ProgramTold
refused_now tx p cause = refused tx p.wrote cause

-- another action is due, or the statement is done
abbrev pub TellsNext : TxState → Option Task → Progress → ProgramTold → Type 0
TellsNext tx None after tells = tells ≡ reply_of tx after
TellsNext tx (Some task) after tells = tells ≡ told.More

abbrev pub Goes : TxState → Progress → ProgramTold → Progress → Type 0
Goes tx after tells new = TellsNext tx after.task after tells × (new ≡ after)

-- the key that the action must obtain is held by another session
abbrev pub AwaitsKey : Catalog → TxState → Progress → ℕ → Key → ProgramTold → Progress → Type 0
AwaitsKey catalog tx p by key tells new = Waits catalog tx p.wrote p.tries by key tells (with_try p) new

-- ---- a claim

-- the actions of a claim that go by this group are writes: those in pre, while those in main are reads
abbrev pub is_writing : Group → Bool
is_writing Pre = true
is_writing Main = false
is_writing Post = false

-- what the claim in progress told of its action, which went by the session of this group
abbrev pub ClaimMeans : Catalog → TxState → Progress → Group → Claiming → ClaimTold → ProgramTold → Progress → Type 0
ClaimMeans catalog tx p group claim claims.More tells new = (tells ≡ told.More) × (new ≡ with_action p)
-- an entry that stood and is kept was read and no more
ClaimMeans catalog tx p group claim claims.Done tells new = Goes tx (with_task (is_writing group) p) tells new
ClaimMeans catalog tx p group claim (claims.Held by key) tells new = AwaitsKey catalog tx p by key tells new
ClaimMeans catalog tx p group claim (claims.SelfHeld key) tells new = IsRefusedFor tx p.wrote tells (removed_and_claimed catalog claim.lookup claim.row)
ClaimMeans catalog tx p group claim (claims.Duplicate lookup shard key) tells new = IsRefusedFor tx p.wrote tells (duplicate_entry catalog lookup claim.row shard key)
ClaimMeans catalog tx p group claim (claims.Lost shard why) tells new = tells ≡ refused_whole (session_lost catalog group shard why)
ClaimMeans catalog tx p group claim (claims.Device shard) tells new = tells ≡ refused_whole (device_failed catalog shard)
ClaimMeans catalog tx p group claim (claims.Limit what count) tells new = tells ≡ refused_now tx p (causes.Limit what count)
ClaimMeans catalog tx p group claim claims.Memory tells new = tells ≡ refused_now tx p causes.OutOfMemory

-- ---- a row

-- the answer to the Insert of a row on this shard
abbrev pub RowAnswered : Catalog → TxState → Progress → ℕ → Answer → ProgramTold → Progress → Type 0
RowAnswered catalog tx p shard Done tells new = Goes tx (with_task true p) tells new
RowAnswered catalog tx p shard (Found key row) tells new = IsRefusedFor tx p.wrote tells (duplicate_row catalog shard key)
RowAnswered catalog tx p shard (Held by key) tells new = AwaitsKey catalog tx p by key tells new
RowAnswered catalog tx p shard (Limit what count) tells new = tells ≡ refused_now tx p (causes.Limit what count)
RowAnswered catalog tx p shard (Lost why) tells new = tells ≡ refused_whole (session_lost catalog Main shard why)
RowAnswered catalog tx p shard Device tells new = tells ≡ refused_whole (device_failed catalog shard)
RowAnswered catalog tx p shard Memory tells new = tells ≡ refused_now tx p causes.OutOfMemory
-- answers to other acts
RowAnswered catalog tx p shard Unchanged tells new = ⊥
RowAnswered catalog tx p shard (Rows rows) tells new = ⊥
