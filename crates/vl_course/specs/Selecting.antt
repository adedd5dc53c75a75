-- How far the program of a SELECT has come, as the run has it.
use Rattle.std.specs.Prelude.{◌≡◌, ◌==◌, ◌∷◌, if◌then◌else◌, ℕ, false, [], List, map, nat_lt, length, Option, None}
use Rattle.std.specs.List.{filter_map, list_any}
use Rattle.std.specs.Option.{option_map}
use Rattle.vl_values.specs.declared.key.Key.{Key}
use Rattle.vl_catalog.specs.declared.catalog.Catalog.{Catalog}
use Rattle.vl_sql.specs.declared.stmt.Stmt.{Stmt}
use Rattle.vl_port.specs.declared.act.Act.TheVariants.{Find}
use Rattle.vl_port.specs.declared.limits.Limits.{Limits}
use Rattle.vl_port.specs.declared.tx_state.TxState.{TxState}
use Rattle.vl_port.specs.declared.who.Who.{Who}
use Rattle.vl_port.specs.Asking.{reader_in}
use Rattle.vl_port.specs.Taking.{takes_keys}
use Rattle.vl_port.specs.Transaction.{listed, session_of}
use Rattle.vl_port.specs.View.{Values}
use Rattle.vl_model.specs.declared.route.Route.{Route}
use Rattle.vl_model.specs.Visiting.{entry_reads}
use Rattle.vl_plan.specs.declared.plan.Plan.TheVariants as plans
use Rattle.vl_plan.specs.declared.select_plan.SelectPlan.{SelectPlan}
use Rattle.vl_statement.specs.declared.program_told.ProgramTold.{ProgramTold}
use Rattle.vl_select.specs.Begun.{entry_read, group_of}
use Rattle.vl_select.specs.Progress.{Action, Progress, due, kept, passed, shards_known, tallied}
use Rattle.vl_run.specs.declared.event.Event.{Event}
use Rattle.vl_run.specs.declared.mark.Mark.{Mark}
use Rattle.vl_run.specs.declared.mark.Mark.TheVariants as marks
use Rattle.vl_run.specs.Gathered.{Gathered, Looked}
use Rattle.vl_run.specs.Named.{ksid_on}
use Rattle.vl_run.specs.Progress.{commits, looked_on, read_on, warned, wrote}
use Rattle.vl_run.specs.Refused.{nothing_read}
use Rattle.vl_run.specs.Run.{Run}
use Rattle.vl_run.specs.Run.Point.{Happened}
use Rattle.vl_run.specs.Session.{Owned}
use Rattle.vl_course.specs.Course.{Course, IsTx}
use Rattle.vl_course.specs.Turning.{Due, GoesOn, Turned}

-- ---- where it stands

-- the entries that were read name these keyspace ids
pub record HasLooked (catalog : Catalog) (now : Run) (n : ℕ) (route : Route) (ksids : List (List ℕ)) : Type 0 where
  pub entries : List (Key × Values)
  pub looked : Looked catalog now n entries
  pub named : ksids ≡ filter_map (ksid_on catalog route) entries

-- the rows that were read are kept, and counted within the limits
pub record HasGathered (catalog : Catalog) (limits : Limits) (now : Run) (n : ℕ) (p : Progress) : Type 0 where
  pub rows : List (Key × Values)
  pub gathered : Gathered catalog now n rows
  pub kept : p.rows ≡ kept p.what rows
  pub tallied : p.tally ≡ tallied p.what nothing_read rows
  pub within : passed p.what limits nothing_read rows ≡ None

-- the program of this plan, so many of whose reads were done
pub record IsSelectAt (catalog : Catalog) (limits : Limits) (now : Run) (n : ℕ) (plan : SelectPlan) (p : Progress) : Type 0 where
  pub table : p.table ≡ plan.pred.table
  pub what : p.what ≡ plan.what
  pub sorts : p.sorts ≡ plan.sorts
  pub limit : p.limit ≡ plan.limit
  pub route : p.route ≡ plan.route
  pub find : p.find ≡ Find plan.pred plan.locking
  pub group : p.group ≡ group_of catalog plan.pred.table
  pub entries : p.entries ≡ map entry_read (entry_reads catalog plan.route)
  pub looked : length (looked_on now n) ≡ p.looked
  pub ksids : HasLooked catalog now n plan.route p.ksids
  pub shards : p.shards ≡ shards_known catalog plan.pred.table plan.route (nat_lt p.looked (length p.entries)) p.ksids
  pub read : length (read_on now n) ≡ p.read
  pub gathered : HasGathered catalog limits now n p
  pub unwritten : wrote now n ≡ []

-- ---- the read that is due

-- a locking read goes by the session of its group; a plain one by that session where it is listed, and else without one
abbrev pub reader_of : TxState → Action → Who
reader_of tx action = if takes_keys action.act then session_of tx action.group else reader_in tx action.group (list_any (λ other. other == action.shard) (listed tx action.group))

-- it gives entries while some are left to be read, and then rows
abbrev pub mark_of : Progress → Mark
mark_of p = if nat_lt p.looked (length p.entries) then marks.Looks else marks.Reads

abbrev pub due_as : TxState → Mark → Action → Due
due_as tx mark action = record { who = reader_of tx action; shard = action.shard; act = action.act; mark = mark }

abbrev pub due_of : TxState → Progress → Option Due
due_of tx p = option_map (due_as tx (mark_of p)) (due p)

-- ---- behind a step

-- the step is an event that the run allows. Behind it the transaction is what the run then says, unless something was lost,
-- and so is the program where it goes on
pub record SelectTurned (catalog : Catalog) (limits : Limits) (past : Run) (e : Event) (stmt : Stmt) (plan : SelectPlan) (own : Owned) (tells : ProgramTold) (new : Progress) (tx_new : TxState) : Type 0 where
  pub turned : Turned catalog limits past e stmt (plans.Select plan) own tells
  pub uncommitted : commits (Happened e ∷ past) e.session ≡ 0
  pub unwarned : warned catalog (Happened e ∷ past) e.session ≡ []
  pub left : e.fault ≡ None → IsTx limits (Happened e ∷ past) e.session own tx_new
  pub course : GoesOn tells → Course catalog limits (Happened e ∷ past) e.session stmt (plans.Select plan) own tx_new new.tries false
  pub stands : GoesOn tells → IsSelectAt catalog limits (Happened e ∷ past) e.session plan new
