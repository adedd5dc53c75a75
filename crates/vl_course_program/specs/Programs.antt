-- How far the program of a statement has come, as the run has it, whichever statement it is.
use Rattle.std.specs.Prelude.{◌≡◌, ◌∷◌, ℕ, false, List, [], Option, Some, None, Contains}
use Rattle.vl_values.specs.declared.key.Key.{Key}
use Rattle.vl_catalog.specs.declared.catalog.Catalog.{Catalog}
use Rattle.vl_sql.specs.declared.stmt.Stmt.{Stmt}
use Rattle.vl_port.specs.declared.answer.Answer.{Answer}
use Rattle.vl_port.specs.declared.limits.Limits.{Limits}
use Rattle.vl_port.specs.declared.tx_state.TxState.{TxState}
use Rattle.vl_port.specs.Calls.{HasActed, PortView}
use Rattle.vl_model.specs.Entries.{is_lookup_table}
use Rattle.vl_plan.specs.declared.plan.Plan.{Plan}
use Rattle.vl_plan.specs.declared.plan.Plan.TheVariants as plans
use Rattle.vl_statement.specs.declared.program_told.ProgramTold.{ProgramTold}
use Rattle.vl_change.specs.declared.action.Action.{Action}
use Rattle.vl_change.specs.declared.row_change.RowChange.TheVariants as changes
use Rattle.vl_change.specs.Making.{written_key}
use Rattle.vl_exec.specs.declared.program.Program.{Program}
use Rattle.vl_exec.specs.declared.program.Program.TheVariants as programs
use Rattle.vl_exec.specs.Progress.{wrote}
use Rattle.vl_run.specs.declared.event.Event.{Event}
use Rattle.vl_run.specs.Progress.{commits, warned}
use Rattle.vl_run.specs.Run.{Run}
use Rattle.vl_run.specs.Run.Point.{Happened}
use Rattle.vl_run.specs.Session.{Owned}
use Rattle.vl_course.specs.Changing.{IsChangeAt, due_of as change_due}
use Rattle.vl_course.specs.Course.{Course, IsTx}
use Rattle.vl_course.specs.Selecting.{IsSelectAt, due_of as select_due}
use Rattle.vl_course.specs.Turning.{Due, GoesOn, Turned}
use Rattle.vl_course_insert.specs.Inserting.{IsInsertAt, due_of as insert_due}

-- the writes that are known are of rows of this table
abbrev pub AreOf : ℕ → List Action → Type 0
AreOf table writes = (action : Action) (key : Key) → Contains writes action → written_key action.act ≡ Some key → key.table ≡ table

-- the program of this plan, at the place where the run says. Rows are written of no lookup's table, and of the plan's alone
abbrev pub IsProgramAt : Catalog → Limits → Run → ℕ → Plan → Program → Type 0
IsProgramAt catalog limits now n (plans.Insert plan) (programs.Insert p) = IsInsertAt catalog limits now n plan p × (is_lookup_table catalog plan.table ≡ false)
IsProgramAt catalog limits now n (plans.Select plan) (programs.Select p) = IsSelectAt catalog limits now n plan p
IsProgramAt catalog limits now n (plans.Update plan) (programs.Change p) = IsChangeAt catalog limits now n (changes.Set plan.settings) plan.pred plan.route p × AreOf plan.pred.table p.writes
IsProgramAt catalog limits now n (plans.Delete plan) (programs.Change p) = IsChangeAt catalog limits now n changes.Remove plan.pred plan.route p × AreOf plan.pred.table p.writes
IsProgramAt catalog limits now n _ _ = ⊥

-- the act that is due
abbrev pub due_of : TxState → Program → Option Due
due_of tx (programs.Insert p) = insert_due tx p
due_of tx (programs.Select p) = select_due tx p
due_of tx (programs.Change p) = change_due tx p

-- how often it was met by a key of another
abbrev pub tries_of : Program → ℕ
tries_of (programs.Insert p) = p.tries
tries_of (programs.Select p) = p.tries
tries_of (programs.Change p) = p.tries

-- the act that was due was carried to its shard, with this answer
pub record HasDone (port : PortView) (due : Option Due) (port_new : PortView) : Type 0 where
  pub act : Due
  pub was : due ≡ Some act
  pub answer : Answer
  pub acted : HasActed port act.who act.shard act.act answer port_new

-- the step is an event that the run allows. Behind it the transaction is what the run then says, unless something was lost,
-- and so is the program where it goes on
pub record ProgramTurned (catalog : Catalog) (limits : Limits) (past : Run) (e : Event) (stmt : Stmt) (plan : Plan) (own : Owned) (tells : ProgramTold) (new : Program) (tx_new : TxState) : Type 0 where
  pub turned : Turned catalog limits past e stmt plan own tells
  pub uncommitted : commits (Happened e ∷ past) e.session ≡ 0
  pub unwarned : warned catalog (Happened e ∷ past) e.session ≡ []
  pub left : e.fault ≡ None → IsTx limits (Happened e ∷ past) e.session own tx_new
  pub course : GoesOn tells → Course catalog limits (Happened e ∷ past) e.session stmt plan own tx_new (tries_of new) (wrote new)
  pub stands : GoesOn tells → IsProgramAt catalog limits (Happened e ∷ past) e.session plan new
