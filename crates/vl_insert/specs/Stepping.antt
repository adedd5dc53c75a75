-- A step of a program: one action of one of the transaction's sessions on one shard, or none.
use Rattle.std.specs.Prelude.{◌≡◌, true, false, Some, None}
use Rattle.vl_values.specs.declared.cause.Cause.TheVariants.{OutOfMemory}
use Rattle.vl_values.specs.declared.group.Group.TheVariants.{Main}
use Rattle.vl_catalog.specs.declared.catalog.Catalog.{Catalog}
use Rattle.vl_port.specs.declared.answer.Answer.{Answer}
use Rattle.vl_port.specs.declared.tx_state.TxState.{TxState}
use Rattle.vl_port.specs.Asking.{HasAnswered, IsUnasked}
use Rattle.vl_port.specs.Calls.{PortView}
use Rattle.vl_port.specs.Limiting.{is_full}
use Rattle.vl_lookup.specs.declared.claim_told.ClaimTold.{ClaimTold}
use Rattle.vl_lookup.specs.Progress.{Progress as Claiming, due as claim_due}
use Rattle.vl_lookup.specs.Stepping.{ClaimStepped}
use Rattle.vl_statement.specs.declared.program_told.ProgramTold.{ProgramTold}
use Rattle.vl_statement.specs.Refusing.{limit_of_changes}
use Rattle.vl_insert.specs.declared.insertion.Insertion.{Insertion}
use Rattle.vl_insert.specs.declared.task.Task.TheVariants as tasks
use Rattle.vl_insert.specs.Answering.{ClaimMeans, RowAnswered, refused_now, reply_of}
use Rattle.vl_insert.specs.Progress.{Progress, at_claim}

-- a step: what it told, and the program, the transaction and the port after it
pub data Stepped (catalog : Catalog) (old : Progress) (tx : TxState) (port : PortView) (tells : ProgramTold) (new : Progress) (tx_new : TxState) (port_new : PortView) : Type 0 where
  -- no task is left
  Idle : old.task ≡ None → tells ≡ reply_of tx old → new ≡ old → tx_new ≡ tx → port_new ≡ port → Stepped catalog old tx port tells new tx_new port_new
  -- the claim in progress did a step of its own, and what that told has this meaning
  Claimed : (claim claim_new : Claiming) (told : ClaimTold) → old.task ≡ Some (tasks.Claim claim) → ClaimStepped catalog claim tx port told claim_new tx_new port_new
      → ClaimMeans catalog tx (at_claim claim_new old) (claim_due claim).group claim_new told tells new → Stepped catalog old tx port tells new tx_new port_new
  -- the row would have passed the limit of changes: no shard was asked for it
  Full : (insertion : Insertion) → old.task ≡ Some (tasks.Row insertion) → is_full tx insertion.act ≡ true → tells ≡ refused_now tx old (limit_of_changes tx) → tx_new ≡ tx → port_new ≡ port
      → Stepped catalog old tx port tells new tx_new port_new
  -- there was no memory to list the session: no shard was asked for the row
  NoRoom : (insertion : Insertion) → old.task ≡ Some (tasks.Row insertion) → is_full tx insertion.act ≡ false → tells ≡ refused_now tx old OutOfMemory → IsUnasked port tx tx_new port_new
      → Stepped catalog old tx port tells new tx_new port_new
  -- the row was inserted by the transaction's main session on its shard, and that was answered
  Did : (insertion : Insertion) (answer : Answer) → old.task ≡ Some (tasks.Row insertion) → is_full tx insertion.act ≡ false → HasAnswered port tx Main insertion.shard insertion.act answer tx_new port_new
      → RowAnswered catalog tx old insertion.shard answer tells new → Stepped catalog old tx port tells new tx_new port_new
