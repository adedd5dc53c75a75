-- A step of a program: one action of one of the transaction's sessions on one shard, or none.
use Rattle.std.specs.Prelude.{◌≡◌, true, false, Some, None}
use Rattle.vl_values.specs.declared.cause.Cause.TheVariants.{OutOfMemory}
use Rattle.vl_catalog.specs.declared.catalog.Catalog.{Catalog}
use Rattle.vl_port.specs.declared.answer.Answer.{Answer}
use Rattle.vl_port.specs.declared.tx_state.TxState.{TxState}
use Rattle.vl_port.specs.Asking.{HasAnswered, IsUnasked}
use Rattle.vl_port.specs.Calls.{PortView}
use Rattle.vl_port.specs.Limiting.{is_full}
use Rattle.vl_change.specs.declared.action.Action.{Action}
use Rattle.vl_statement.specs.declared.program_told.ProgramTold.{ProgramTold}
use Rattle.vl_statement.specs.Refusing.{limit_of_changes}
use Rattle.vl_change.specs.Answering.{Answered, refused, reply_of}
use Rattle.vl_change.specs.Progress.{Progress, due}

-- a step: what it told, and the program, the transaction and the port after it
pub data Stepped (catalog : Catalog) (old : Progress) (tx : TxState) (port : PortView) (tells : ProgramTold) (new : Progress) (tx_new : TxState) (port_new : PortView) : Type 0 where
  -- no action is left
  Idle : due old ≡ None → tells ≡ reply_of tx old → new ≡ old → tx_new ≡ tx → port_new ≡ port → Stepped catalog old tx port tells new tx_new port_new
  -- the write that was due would have passed the limit of changes: no shard was asked for it
  Full : (action : Action) → due old ≡ Some action → is_full tx action.act ≡ true → tells ≡ refused tx old (limit_of_changes tx) → tx_new ≡ tx → port_new ≡ port → Stepped catalog old tx port tells new tx_new port_new
  -- there was no memory to list the session: no shard was asked for the action that was due
  NoRoom : (action : Action) → due old ≡ Some action → is_full tx action.act ≡ false → tells ≡ refused tx old OutOfMemory → IsUnasked port tx tx_new port_new → Stepped catalog old tx port tells new tx_new port_new
  -- the action that was due was carried, by the session of its group on its shard, and answered: by a loss or
  -- a failure only with the cause that the port counts, by want of memory with nothing done
  Did : (action : Action) (answer : Answer) → due old ≡ Some action → is_full tx action.act ≡ false → HasAnswered port tx action.group action.shard action.act answer tx_new port_new → Answered catalog tx old action answer tells new
      → Stepped catalog old tx port tells new tx_new port_new
