-- A step of a program: one read on one shard, or none.
use Rattle.std.specs.Prelude.{◌≡◌, ◌↔◌, Bool, true, false, IsTrue, Contains, Some, None}
use Rattle.vl_values.specs.declared.cause.Cause.TheVariants.{OutOfMemory}
use Rattle.vl_catalog.specs.declared.catalog.Catalog.{Catalog}
use Rattle.vl_port.specs.declared.answer.Answer.{Answer}
use Rattle.vl_port.specs.declared.tx_state.TxState.{TxState}
use Rattle.vl_port.specs.Asking.{HasAnswered, IsUnasked, reader_in}
use Rattle.vl_port.specs.Calls.{HasActed, PortView}
use Rattle.vl_port.specs.Taking.{takes_keys}
use Rattle.vl_port.specs.Transaction.{listed}
use Rattle.vl_statement.specs.declared.program_told.ProgramTold.{ProgramTold}
use Rattle.vl_statement.specs.Refusing.{refused}
use Rattle.vl_select.specs.Answering.{Answered, Ends}
use Rattle.vl_select.specs.Progress.{Action, Progress, due}

-- a step: what it told, and the program, the transaction and the port after it
pub data Stepped (catalog : Catalog) (old : Progress) (tx : TxState) (port : PortView) (tells : ProgramTold) (new : Progress) (tx_new : TxState) (port_new : PortView) : Type 0 where
  -- no action is left
  Idle : due old ≡ None → Ends catalog tx old tells → tx_new ≡ tx → port_new ≡ port → Stepped catalog old tx port tells new tx_new port_new
  -- there was no memory to list the session: no shard was asked for the locking read that was due
  NoRoom : (action : Action) → due old ≡ Some action → takes_keys action.act ≡ true → tells ≡ refused tx false OutOfMemory → IsUnasked port tx tx_new port_new → Stepped catalog old tx port tells new tx_new port_new
  -- the locking read that was due was carried, by the session of its group on its shard, and answered: by a
  -- loss or a failure only with the cause that the port counts, by want of memory with nothing done
  Locked : (action : Action) (answer : Answer) → due old ≡ Some action → takes_keys action.act ≡ true → HasAnswered port tx action.group action.shard action.act answer tx_new port_new → Answered catalog tx old action true answer tells new
      → Stepped catalog old tx port tells new tx_new port_new
  -- the plain read that was due was carried, by that session where it is listed and else without one, and
  -- answered. It lists nothing
  Looked : (action : Action) (session : Bool) (answer : Answer) → due old ≡ Some action → takes_keys action.act ≡ false → (IsTrue session ↔ Contains (listed tx action.group) action.shard)
      → HasActed port (reader_in tx action.group session) action.shard action.act answer port_new → tx_new ≡ tx → Answered catalog tx old action session answer tells new → Stepped catalog old tx port tells new tx_new port_new
