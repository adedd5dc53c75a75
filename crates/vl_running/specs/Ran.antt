-- What a step of a statement came to: what was done, and what its program told, as the turn keeps it.
use Rattle.std.specs.Prelude.{◌≡◌, ◌&&◌, not, ℕ, Bool, true, false, [], length, Option, Some, None}
use Rattle.vl_values.specs.declared.cause.Cause.TheVariants as causes
use Rattle.vl_values.specs.declared.reply.Reply.{Reply}
use Rattle.vl_values.specs.declared.reply.Reply.TheVariants as replies
use Rattle.vl_values.specs.Reply.{refusal}
use Rattle.vl_catalog.specs.declared.catalog.Catalog.{Catalog}
use Rattle.vl_port.specs.declared.outcome.Outcome.{Outcome}
use Rattle.vl_port.specs.declared.tx_state.TxState.{TxState}
use Rattle.vl_port.specs.Calls.{PortView, without_outcome}
use Rattle.vl_port.specs.Serving.{Serves}
use Rattle.vl_port.specs.Transaction.{IsIn}
use Rattle.vl_statement.specs.declared.program_told.ProgramTold.{ProgramTold}
use Rattle.vl_statement.specs.declared.program_told.ProgramTold.TheVariants as tells
use Rattle.vl_commit.specs.Closing.{AreClosed}
use Rattle.vl_commit.specs.Sessions.{sessions}
use Rattle.vl_lookup.specs.Stepping.{IsSameTxButClaims}
use Rattle.vl_exec.specs.declared.program.Program.{Program}
use Rattle.vl_exec.specs.Progress.{wrote}
use Rattle.vl_exec.specs.Stepping.{Stepped}
use Rattle.vl_run.specs.declared.deed.Deed.TheVariants as deeds
use Rattle.vl_run.specs.declared.ends.Ends.{Ends}
use Rattle.vl_run.specs.declared.ends.Ends.TheVariants as ends
use Rattle.vl_run.specs.declared.fault.Fault.{Fault}
use Rattle.vl_run.specs.declared.mark.Mark.{Mark}
use Rattle.vl_run.specs.declared.what.What.{What}
use Rattle.vl_run.specs.declared.what.What.TheVariants as whats
use Rattle.vl_course.specs.Turning.{Due, deed_of, fault_of, visit_of}
use Rattle.vl_course_program.specs.Programs.{due_of}
use Rattle.vl_session.specs.declared.purpose.Purpose.TheVariants as purposes
use Rattle.vl_session.specs.declared.turn.Turn.{Turn}
use Rattle.vl_session.specs.declared.work.Work.{Work}
use Rattle.vl_session.specs.declared.work.Work.TheVariants as works
use Rattle.vl_running.specs.declared.done.Done.{Done}

-- ---- what was done

abbrev pub nothing : Done
nothing = record { visits = None; deed = deeds.Nothing; fault = None }

abbrev pub acted : Due → Mark → Done
acted due mark = record { visits = Some due.shard; deed = deeds.Acts due.who due.shard due.act mark; fault = None }

abbrev pub failed : ℕ → Fault → Done
failed shard fault = record { visits = Some shard; deed = deeds.Nothing; fault = Some fault }

abbrev pub done_of : Option Due → Option Outcome → Done
done_of None outcome = nothing
done_of (Some due) outcome = record { visits = visit_of due outcome; deed = deed_of due outcome; fault = fault_of outcome }

-- ---- the turn

abbrev pub turn_of : Option ℕ → Done → Work → Ends → What → Turn
turn_of opens done work over what = record { work = work; opens = opens; visits = done.visits; deed = done.deed; fault = done.fault; ends = over; what = what }

-- a refusal leaves the transaction open, or has ended all of its sessions
abbrev pub IsRefusedAs : Bool → TxState → Option ℕ → Done → Reply → PortView → Turn → PortView → Type 0
IsRefusedAs true tx opens done reply port turn port_new = (turn ≡ turn_of opens done (works.Idle (Some tx)) ends.Nobody (whats.Reply reply)) × (port_new ≡ port)
IsRefusedAs false tx opens done reply port turn port_new = (turn ≡ turn_of opens done (works.Idle None) (ends.Whole tx.number) (whats.Reply reply)) × AreClosed tx 0 (length (sessions tx)) port port_new

-- a statement that was done leaves the transaction open, or the one that it had for itself is to be committed. There may be no
-- memory for that
pub data IsEnded (tx : TxState) (opens : Option ℕ) (done : Done) (reply : Reply) (port : PortView) (turn : Turn) (port_new : PortView) : Type 0 where
  Kept : tx.single ≡ false → turn ≡ turn_of opens done (works.Idle (Some tx)) ends.Nobody (whats.Reply reply) → port_new ≡ port → IsEnded tx opens done reply port turn port_new
  Empty : tx.single ≡ true → sessions tx ≡ [] → turn ≡ turn_of opens done (works.Idle None) ends.Nobody (whats.Reply reply) → port_new ≡ port → IsEnded tx opens done reply port turn port_new
  Commits : tx.single ≡ true → (sessions tx ≡ [] → ⊥) → turn ≡ turn_of opens done (works.Committing (record { tx = tx; at = 0; warnings = [] }) reply purposes.Statement) ends.Nobody whats.More → port_new ≡ port
      → IsEnded tx opens done reply port turn port_new
  NoRoom : tx.single ≡ true → IsRefusedAs false tx opens done (refusal causes.OutOfMemory false) port turn port_new → IsEnded tx opens done reply port turn port_new

abbrev pub IsReplied : TxState → Option ℕ → Done → Reply → PortView → Turn → PortView → Type 0
IsReplied tx opens done (replies.Err code why stays) port turn port_new = IsRefusedAs stays tx opens done (replies.Err code why stays) port turn port_new
IsReplied tx opens done (replies.Ok affected found warnings stays auto) port turn port_new = IsEnded tx opens done (replies.Ok affected found warnings stays auto) port turn port_new
IsReplied tx opens done (replies.Rows columns rows stays auto) port turn port_new = IsEnded tx opens done (replies.Rows columns rows stays auto) port turn port_new

-- what the turn is by what the program told
abbrev pub IsToldAs : ProgramTold → TxState → Program → Option ℕ → Done → PortView → Turn → PortView → Type 0
IsToldAs tells.More tx program opens done port turn port_new = (turn ≡ turn_of opens done (works.Running tx program) ends.Nobody whats.More) × (port_new ≡ port)
IsToldAs (tells.Held by key tries) tx program opens done port turn port_new = (turn ≡ turn_of opens done (works.Running tx program) ends.Nobody (whats.Held by key tries)) × (port_new ≡ port)
IsToldAs (tells.Reply reply) tx program opens done port turn port_new = IsReplied tx opens done reply port turn port_new

-- ---- the step

-- a statement that is refused for want of memory stays open where it isn't of itself alone and hasn't written
abbrev pub stays : TxState → Program → Bool
stays tx program = not tx.single && not (wrote program)

pub data Ran (catalog : Catalog) (count : ℕ) (tx : TxState) (program : Program) (opens : Option ℕ) (port : PortView) (turn : Turn) (port_new : PortView) : Type 0 where
  -- there was no memory for what the turn keeps, and nothing was done
  Starved : IsRefusedAs (stays tx program) tx opens nothing (refusal causes.OutOfMemory (stays tx program)) port turn port_new → Ran catalog count tx program opens port turn port_new
  -- the program did its step
  Did : (told : ProgramTold) (new : Program) (tx_new : TxState) (between : PortView) → Stepped catalog program tx port told new tx_new between → IsSameTxButClaims tx tx_new → IsIn tx_new count between.shards → Serves catalog count between.shards
      → IsToldAs told tx_new new opens (done_of (due_of tx program) between.outcome) (without_outcome between) turn port_new → Ran catalog count tx program opens port turn port_new
