-- What a step leaves of a transaction, as its reply and the shards show it.
use Rattle.std.specs.Prelude.{◌≡◌, ◌↔◌, ℕ, true, Option, Some}
use Rattle.vl_values.specs.declared.group.Group.{Group}
use Rattle.vl_values.specs.declared.key.Key.{Key}
use Rattle.vl_values.specs.declared.reply.Reply.TheVariants as replies
use Rattle.vl_port.specs.declared.tx_state.TxState.{TxState}
use Rattle.vl_port.specs.Serving.{Shards}
use Rattle.vl_port.specs.Transaction.{session_of}
use Rattle.vl_port.specs.View.{Values}
use Rattle.vl_statement.specs.declared.program_told.ProgramTold.{ProgramTold}
use Rattle.vl_statement.specs.declared.program_told.ProgramTold.TheVariants as told

-- the program goes on, or the statement is done
abbrev pub IsWell : ProgramTold → Type 0
IsWell told.More = Unit {0}
IsWell (told.Held by key tries) = Unit {0}
IsWell (told.Reply (replies.Ok affected found warnings tx auto)) = Unit {0}
IsWell (told.Reply (replies.Rows columns rows tx auto)) = Unit {0}
IsWell (told.Reply (replies.Err code why tx)) = ⊥

-- the reply says that a transaction stays open whose statement was refused
abbrev pub LeavesOpen : ProgramTold → Type 0
LeavesOpen told.More = ⊥
LeavesOpen (told.Held by key tries) = ⊥
LeavesOpen (told.Reply (replies.Ok affected found warnings tx auto)) = ⊥
LeavesOpen (told.Reply (replies.Rows columns rows tx auto)) = ⊥
LeavesOpen (told.Reply (replies.Err code why tx)) = tx ≡ true

-- the transaction's sessions have the pending versions that they had
abbrev pub HasPendingOf : TxState → Shards → Shards → Type 0
HasPendingOf tx old new = (shard : ℕ) (group : Group) (key : Key) (row : Option Values)
    → ((old shard).pending key ≡ Some (record { who = session_of tx group; row = row })) ↔ ((new shard).pending key ≡ Some (record { who = session_of tx group; row = row }))

-- each key that a session of the transaction held it holds
abbrev pub HasLocksOf : TxState → Shards → Shards → Type 0
HasLocksOf tx old new = (shard : ℕ) (group : Group) (key : Key) → (old shard).holder key ≡ Some (session_of tx group) → (new shard).holder key ≡ Some (session_of tx group)
