-- What a statement has done so far, as the shards show it.
use Rattle.std.specs.Prelude.{◌≡◌, ◌<◌, ◌≤◌, ℕ, slice_get, Some}
use Rattle.vl_values.specs.declared.group.Group.TheVariants.{Main}
use Rattle.vl_values.specs.declared.key.Key.{Key}
use Rattle.vl_port.specs.declared.act.Act.{Act}
use Rattle.vl_port.specs.declared.tx_state.TxState.{TxState}
use Rattle.vl_port.specs.declared.who.Who.{Who}
use Rattle.vl_port.specs.Acting.{row_left}
use Rattle.vl_port.specs.Serving.{Shards}
use Rattle.vl_port.specs.Transaction.{session_of}
use Rattle.vl_port.specs.View.{View, Values, standing}
use Rattle.vl_change.specs.declared.action.Action.{Action}
use Rattle.vl_change.specs.declared.search.Search.{Search}
use Rattle.vl_change.specs.Changes.{write_of}
use Rattle.vl_change.specs.Making.{written_key}
use Rattle.vl_change.specs.Progress.{Progress}

-- ---- shard by shard, so that the loss of one shard's session takes nothing from the others

-- the row of the write, or its removal, is the session's pending version of its key
abbrev pub IsWritten : View → Who → Act → Type 0
IsWritten view who act = (key : Key) → written_key act ≡ Some key → view.pending key ≡ Some (record { who = who; row = row_left act })

-- each write that was done on the shard stands
abbrev pub HasWritten : Shards → TxState → Progress → ℕ → Type 0
HasWritten seen tx p shard = (n : ℕ) (action : Action) → n < p.done → slice_get p.writes n ≡ Some action → action.shard ≡ shard → IsWritten (seen shard) (session_of tx Main) action.act

-- the write is the change of the row that the session sees, and has the lock of
pub record IsOwed (search : Search) (view : View) (who : Who) (action : Action) : Type 0 where
  pub key : Key
  pub row : Values
  pub is_write : write_of search.change action.shard (key, row) ≡ Some action
  pub stands : standing view who key ≡ Some row
  pub held : view.holder key ≡ Some who

-- the rows that are still to be written on the shard stand as they were found, under lock
abbrev pub AreOwed : Shards → TxState → Progress → ℕ → Type 0
AreOwed seen tx p shard = (n : ℕ) (action : Action) → p.done ≤ n → slice_get p.writes n ≡ Some action → action.shard ≡ shard → IsOwed p.search (seen shard) (session_of tx Main) action
