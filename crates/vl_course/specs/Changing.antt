-- How far the program of an UPDATE or a DELETE has come, as the run has it.
use Rattle.std.specs.Prelude.{◌≡◌, ◌∷◌, ℕ, true, false, [], List, map, take, length, Option, None}
use Rattle.std.specs.Option.{option_map}
use Rattle.vl_values.specs.declared.key.Key.{Key}
use Rattle.vl_values.specs.declared.pred.Pred.{Pred}
use Rattle.vl_catalog.specs.declared.catalog.Catalog.{Catalog}
use Rattle.vl_sql.specs.declared.stmt.Stmt.{Stmt}
use Rattle.vl_port.specs.declared.act.Act.TheVariants.{Find}
use Rattle.vl_port.specs.declared.limits.Limits.{Limits}
use Rattle.vl_port.specs.declared.tx_state.TxState.{TxState}
use Rattle.vl_port.specs.Transaction.{session_of}
use Rattle.vl_port.specs.View.{Values}
use Rattle.vl_model.specs.declared.route.Route.{Route}
use Rattle.vl_model.specs.Entries.{is_lookup_table}
use Rattle.vl_model.specs.Visiting.{entry_reads, visited}
use Rattle.vl_plan.specs.declared.plan.Plan.{Plan}
use Rattle.vl_plan.specs.declared.plan.Plan.TheVariants as plans
use Rattle.vl_statement.specs.declared.program_told.ProgramTold.{ProgramTold}
use Rattle.vl_statement.specs.Tallies.{counted, first_over}
use Rattle.vl_change.specs.declared.action.Action.{Action}
use Rattle.vl_change.specs.declared.row_change.RowChange.{RowChange}
use Rattle.vl_change.specs.declared.row_change.RowChange.TheVariants as changes
use Rattle.vl_change.specs.Progress.{Progress, due}
use Rattle.vl_run.specs.declared.event.Event.{Event}
use Rattle.vl_run.specs.declared.mark.Mark.TheVariants as marks
use Rattle.vl_run.specs.Gathered.{Gathered, Looked, Rows}
use Rattle.vl_run.specs.Machine.{key_place}
use Rattle.vl_run.specs.Named.{change_act, removals, updates}
use Rattle.vl_run.specs.Progress.{commits, looked_on, read_on, warned, wrote}
use Rattle.vl_run.specs.Refused.{nothing_read}
use Rattle.vl_run.specs.Run.{Run}
use Rattle.vl_run.specs.Run.Point.{Happened}
use Rattle.vl_run.specs.Session.{Owned}
use Rattle.vl_course.specs.Course.{Course, IsTx}
use Rattle.vl_course.specs.Turning.{Due, GoesOn, Turned}

-- ---- the plan

abbrev pub plan_of : RowChange → Pred → Route → Plan
plan_of (changes.Set settings) pred route = plans.Update (record { settings = settings; pred = pred; route = route })
plan_of changes.Remove pred route = plans.Delete (record { pred = pred; route = route })

-- what it makes of rows
abbrev pub changes_of : RowChange → Rows → List (Key × Option Values)
changes_of (changes.Set settings) rows = updates settings rows
changes_of changes.Remove rows = removals rows

-- ---- where it stands

-- the program of this plan: no entry is read, so many of the shards were, and so many of the changes of their rows are written
pub record IsChangeAt (catalog : Catalog) (limits : Limits) (now : Run) (n : ℕ) (change : RowChange) (pred : Pred) (route : Route) (p : Progress) : Type 0 where
  pub changes : p.search.change ≡ change
  pub find : p.search.find ≡ Find pred true
  pub plain : is_lookup_table catalog pred.table ≡ false
  pub direct : entry_reads catalog route ≡ []
  pub unlooked : looked_on now n ≡ []
  pub entries : Looked catalog now n []
  pub shards : p.search.shards ≡ visited catalog pred.table route []
  pub read : length (read_on now n) ≡ p.search.read
  -- the rows that were read are counted within the limits
  pub rows : Rows
  pub gathered : Gathered catalog now n rows
  pub tallied : p.search.tally ≡ counted nothing_read rows
  pub within : first_over limits nothing_read rows ≡ None
  -- their writes are known, in order
  pub acts : map (λ (action : Action). action.act) p.writes ≡ map change_act (changes_of change rows)
  pub placed : map (λ (action : Action). action.shard) p.writes ≡ map (λ (it : Key × Option Values). key_place catalog it.0) (changes_of change rows)
  pub done : wrote now n ≡ take p.done (changes_of change rows)

-- ---- the action that is due

-- each goes by a session of the transaction
abbrev pub due_as : TxState → Action → Due
due_as tx action = record { who = session_of tx action.group; shard = action.shard; act = action.act; mark = marks.Reads }

abbrev pub due_of : TxState → Progress → Option Due
due_of tx p = option_map (due_as tx) (due p)

-- ---- behind a step

-- the step is an event that the run allows. Behind it the transaction is what the run then says, unless something was lost,
-- and so is the program where it goes on
pub record ChangeTurned (catalog : Catalog) (limits : Limits) (past : Run) (e : Event) (stmt : Stmt) (change : RowChange) (pred : Pred) (route : Route) (own : Owned) (tells : ProgramTold) (new : Progress) (tx_new : TxState) : Type 0 where
  pub turned : Turned catalog limits past e stmt (plan_of change pred route) own tells
  pub uncommitted : commits (Happened e ∷ past) e.session ≡ 0
  pub unwarned : warned catalog (Happened e ∷ past) e.session ≡ []
  pub left : e.fault ≡ None → IsTx limits (Happened e ∷ past) e.session own tx_new
  pub course : GoesOn tells → Course catalog limits (Happened e ∷ past) e.session stmt (plan_of change pred route) own tx_new new.tries new.wrote
  pub stands : GoesOn tells → IsChangeAt catalog limits (Happened e ∷ past) e.session change pred route new
