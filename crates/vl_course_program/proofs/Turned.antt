-- A step of a program is an event that the run allows, whichever statement it is.
use Rattle.std.proofs.Common.{◌≡◌, ◌==◌, ◌∙◌, ◌<◌, ◌^◌, ◌++◌, inl, inr, ℕ, true, List, Option, Some, None, refl, sym, ap, subst}
use Rattle.std.specs.Prelude.{Contains}
use Rattle.std.specs.Option.{option_map}
use Rattle.std.proofs.lemmas.Bool.{and_parts, eqb-true}
use Rattle.std.proofs.lemmas.List.Elements.{Contains-append_cases}
use Rattle.vl_values.specs.declared.key.Key.{Key}
use Rattle.vl_values.specs.declared.pred.Pred.{Pred}
use Rattle.vl_values.specs.Pred.{matches}
use Rattle.vl_catalog.specs.declared.catalog.Catalog.{Catalog}
use Rattle.vl_rules.specs.Order.{Checked}
use Rattle.vl_sql.specs.declared.stmt.Stmt.{Stmt}
use Rattle.vl_port.specs.declared.act.Act.{Act}
use Rattle.vl_port.specs.declared.act.Act.TheVariants.{Insert, Put, Remove, RemoveIf, Find}
use Rattle.vl_port.specs.declared.answer.Answer.{Answer}
use Rattle.vl_port.specs.declared.answer.Answer.TheVariants.{Rows}
use Rattle.vl_port.specs.declared.limits.Limits.{Limits}
use Rattle.vl_port.specs.declared.tx_state.TxState.{TxState}
use Rattle.vl_port.specs.declared.who.Who.{Who}
use Rattle.vl_port.specs.Calls.{HasActed, PortView}
use Rattle.vl_port.specs.Transaction.{session_of}
use Rattle.vl_port.specs.View.{Values}
use Rattle.vl_model.specs.declared.route.Route.{Route}
use Rattle.vl_plan.specs.declared.plan.Plan.{Plan}
use Rattle.vl_plan.specs.declared.plan.Plan.TheVariants as plans
use Rattle.vl_statement.specs.declared.program_told.ProgramTold.{ProgramTold}
use Rattle.vl_statement.specs.declared.program_told.ProgramTold.TheVariants as told
use Rattle.vl_statement.specs.Effects.{IsWell}
use Rattle.vl_change.specs.declared.action.Action.{Action}
use Rattle.vl_change.specs.declared.row_change.RowChange.{RowChange}
use Rattle.vl_change.specs.declared.row_change.RowChange.TheVariants as changes
use Rattle.vl_change.specs.Changes.{writes_of}
use Rattle.vl_change.specs.Making.{IsMade as IsChangeMade, IsWrite, written_key}
use Rattle.vl_change.specs.Progress.{Progress as Changing, due}
use Rattle.vl_change.specs.Stepping.{Did, Full, Idle, NoRoom, Stepped as ChangeStepped}
use Rattle.vl_change.proofs.Dues.{IsDue, Reads, Writes, contains_at, due_is}
use Rattle.vl_change.proofs.Finding.{write_from, write_is}
use Rattle.vl_change.proofs.Goings.{Read, Waited, Went, Wrote, went}
use Rattle.vl_exec.specs.declared.program.Program.{Program}
use Rattle.vl_exec.specs.declared.program.Program.TheVariants as programs
use Rattle.vl_exec.specs.Making.{IsMade}
use Rattle.vl_exec.specs.Progress.{wrote}
use Rattle.vl_exec.specs.Stepping.{Stepped}
use Rattle.vl_run.specs.declared.event.Event.{Event}
use Rattle.vl_run.specs.Allowed.{now_of}
use Rattle.vl_run.specs.Gathered.{ReadsBy, shown}
use Rattle.vl_run.specs.Machine.{Machine}
use Rattle.vl_run.specs.Run.{Run}
use Rattle.vl_run.specs.Session.{Owned}
use Rattle.vl_course.specs.Answered.{IsAnswered}
use Rattle.vl_course.specs.Changing.{ChangeTurned, IsChangeAt, due_as as change_due_as, due_of as change_due, plan_of}
use Rattle.vl_course.specs.Course.{Course}
use Rattle.vl_course.specs.Turning.{Due, GoesOn, IsStep}
use Rattle.vl_course.proofs.ChangeTurns.{change_turned}
use Rattle.vl_course.proofs.Turns.{select_turned}
use Rattle.vl_course_insert.specs.Inserting.{IsFoundAs}
use Rattle.vl_course_insert.proofs.Turns.{insert_turned}
use Rattle.vl_course_program.specs.Programs.{AreOf, IsProgramAt, ProgramTurned, due_of, tries_of}

-- ---- the writes of the rows that were read

goes_well : (tells : ProgramTold) → GoesOn tells → IsWell tells
goes_well told.More on = tt
goes_well (told.Held by key tries) on = tt
goes_well (told.Reply reply) on = absurd on

-- a read of a table gives its rows
matched_of : (u : Machine) (catalog : Catalog) (who : Who) (shard : ℕ) (pred : Pred) (rows : List (Key × Values)) → ReadsBy catalog u who shard (Find pred true) rows → (row : Key × Values) → Contains rows row → row.0.table ≡ pred.table
matched_of u catalog who shard pred rows reads row among = eqb-true row.0.table pred.table (and_parts (row.0.table == pred.table) (matches pred row.1) (reads.sound row among).1).0

more_of : (table : ℕ) (change : RowChange) (shard : ℕ) (writes : List Action) (rows : List (Key × Values)) → AreOf table writes → ((row : Key × Values) → Contains rows row → row.0.table ≡ table) → AreOf table (writes ++ writes_of change shard rows)
more_of table change shard writes rows before of_table action key among is =
    elim (Contains-append_cases writes (writes_of change shard rows) action among) [
      | inl there ↦ before action key there is
      | inr new ↦
          let from = write_from change shard rows action new in
          let it = write_is change shard from.found action from.gives in
          let same : from.found.0 ≡ key = same_key from.found.0 key (written_key action.act) it.key_is is in
          sym (ap (λ (k : Key). k.table) same) ∙ of_table from.found from.among
    ]
  where
    same_key : (a b : Key) (o : Option Key) → o ≡ Some a → o ≡ Some b → a ≡ b
    same_key a b o one other = cc

-- no write gives rows
no_rows : (catalog : Catalog) (u : Machine) (who : Who) (shard : ℕ) (act : Act) (rows : List (Key × Values)) → IsWrite act → ReadsBy catalog u who shard act rows → ⊥
no_rows catalog u who shard (Insert key row) rows write reads = write
no_rows catalog u who shard (Put key row) rows write reads = reads
no_rows catalog u who shard (Remove key) rows write reads = reads
no_rows catalog u who shard (RemoveIf key column value) rows write reads = write
no_rows catalog u who shard (Find pred locking) rows write reads = write

module _ (catalog : Catalog) (past : Run) (tx : TxState) (pred : Pred) (p new : Changing) (count limit : ℕ) (port port_new : PortView) (find : p.search.find ≡ Find pred true) (made : IsChangeMade catalog count limit p) (before : AreOf pred.table p.writes)
    (from : (due : Due) (answer : Answer) → change_due tx p ≡ Some due → HasActed port due.who due.shard due.act answer port_new → IsAnswered catalog past due.who due.shard due.act answer) where
  read_of : (action : Action) (rows : List (Key × Values)) → IsDue p action → ReadsBy catalog (shown catalog past) (session_of tx action.group) action.shard action.act rows → (row : Key × Values) → Contains rows row → row.0.table ≡ pred.table
  read_of action rows (Reads at same main) reads =
      matched_of (shown catalog past) catalog (session_of tx action.group) action.shard pred rows (subst (λ (a : Act). ReadsBy catalog (shown catalog past) (session_of tx action.group) action.shard a rows) (same ∙ find) reads)
  read_of action rows (Writes at) reads =
      absurd (no_rows catalog (shown catalog past) (session_of tx action.group) action.shard action.act rows (made.writes action (contains_at p.writes p.done action at)).write reads)

  due_now : (action : Action) → due p ≡ Some action → change_due tx p ≡ Some (change_due_as tx action)
  due_now action is = ap (λ (o : Option Action). option_map (change_due_as tx) o) is

  went_of : (action : Action) (answer : Answer) → due p ≡ Some action → HasActed port (session_of tx action.group) action.shard action.act answer port_new → Went p action tx.limits.tries new answer → AreOf pred.table new.writes
  went_of action answer is acts (Wrote same) = subst (λ (q : Changing). AreOf pred.table q.writes) (sym same) before
  went_of action answer is acts (Read rows same) =
      subst (λ (q : Changing). AreOf pred.table q.writes) (sym same)
      (more_of pred.table p.search.change action.shard p.writes rows before (read_of action rows (due_is p action is) ((from (change_due_as tx action) (Rows rows) (due_now action is) acts).rows rows refl)))
  went_of action answer is acts (Waited by key same below) = subst (λ (q : Changing). AreOf pred.table q.writes) (sym same) before

  pub writes_of_table : (tells : ProgramTold) (tx_new : TxState) → ChangeStepped catalog p tx port tells new tx_new port_new → GoesOn tells → AreOf pred.table new.writes
  writes_of_table tells tx_new (Idle none replies same same_tx shows) on = subst (λ (q : Changing). AreOf pred.table q.writes) (sym same) before
  writes_of_table tells tx_new (Full action is full refused same_tx shows) on = absurd (subst GoesOn refused on)
  writes_of_table tells tx_new (NoRoom action is room refused unasked) on = absurd (subst GoesOn refused on)
  writes_of_table tells tx_new (Did action answer is room asked answered) on = went_of action answer is asked.acts (went catalog tx p action answer tells new answered (goes_well tells on))

-- ---- the law

module _ (catalog : Catalog) (limits : Limits) (past : Run) (e : Event) (stmt : Stmt) where
  change_at : (change : RowChange) (pred : Pred) (route : Route) (own : Owned) (tx : TxState) (p : Changing) (count : ℕ) → Course catalog limits (now_of e past) e.session stmt (plan_of change pred route) own tx p.tries p.wrote
      → IsChangeAt catalog limits (now_of e past) e.session change pred route p × AreOf pred.table p.writes → IsChangeMade catalog count limits.tries p → limits.changes < 2 ^ 32 → (port port_new : PortView) (tells : ProgramTold) (new : Changing) (tx_new : TxState)
      → port.outcome ≡ None → ChangeStepped catalog p tx port tells new tx_new port_new → IsStep e stmt (change_due tx p) port_new.outcome tells
      → ((due : Due) (answer : Answer) → change_due tx p ≡ Some due → HasActed port due.who due.shard due.act answer port_new → IsAnswered catalog past due.who due.shard due.act answer)
      → ChangeTurned catalog limits past e stmt change pred route own tells new tx_new × (GoesOn tells → AreOf pred.table new.writes)
  change_at change pred route own tx p count course at made fits port port_new tells new tx_new quiet stepped step from = (
    change_turned catalog limits past e stmt change pred route own tx p count course at.0 made fits port port_new tells new tx_new quiet stepped step from,
    writes_of_table catalog past tx pred p new count limits.tries port port_new at.0.find made at.1 from tells tx_new stepped,
  )

  pub turned : (plan : Plan) (own : Owned) (tx : TxState) (program : Program) (count : ℕ) → Checked catalog → Course catalog limits (now_of e past) e.session stmt plan own tx (tries_of program) (wrote program)
      → IsProgramAt catalog limits (now_of e past) e.session plan program → IsMade catalog count limits.tries program → limits.changes < 2 ^ 32 → (port port_new : PortView) (tells : ProgramTold) (new : Program) (tx_new : TxState)
      → port.outcome ≡ None → Stepped catalog program tx port tells new tx_new port_new → IsStep e stmt (due_of tx program) port_new.outcome tells
      → ((due : Due) (answer : Answer) → due_of tx program ≡ Some due → HasActed port due.who due.shard due.act answer port_new → IsAnswered catalog past due.who due.shard due.act answer × IsFoundAs catalog past due.who due.act answer)
      → ProgramTurned catalog limits past e stmt plan own tells new tx_new
  turned (plans.Insert plan) own tx (programs.Insert p) count checked course at made fits port port_new tells (programs.Insert new) tx_new quiet stepped step from =
      let it =
      insert_turned catalog limits past e stmt plan own tx p count checked course at.0 made fits port port_new tells new tx_new quiet stepped step (λ due answer is acts. (from due answer is acts).0) (λ due answer is acts. (from due answer is acts).1) in
      record { turned = it.turned; uncommitted = it.uncommitted; unwarned = it.unwarned; left = it.left; course = it.course; stands = λ on. (it.stands on, at.1) }
  turned (plans.Insert plan) own tx (programs.Insert p) count checked course at made fits port port_new tells new tx_new quiet stepped step from = absurd stepped
  turned (plans.Select plan) own tx (programs.Select p) count checked course at made fits port port_new tells (programs.Select new) tx_new quiet stepped step from =
      let it = select_turned catalog limits past e stmt plan own tx p count course at made port port_new tells new tx_new quiet stepped step (λ due answer is acts. (from due answer is acts).0) in
      record { turned = it.turned; uncommitted = it.uncommitted; unwarned = it.unwarned; left = it.left; course = it.course; stands = it.stands }
  turned (plans.Select plan) own tx (programs.Select p) count checked course at made fits port port_new tells new tx_new quiet stepped step from = absurd stepped
  turned (plans.Update plan) own tx (programs.Change p) count checked course at made fits port port_new tells (programs.Change new) tx_new quiet stepped step from =
      let it = change_at (changes.Set plan.settings) plan.pred plan.route own tx p count course at made fits port port_new tells new tx_new quiet stepped step (λ due answer is acts. (from due answer is acts).0) in
      record { turned = it.0.turned; uncommitted = it.0.uncommitted; unwarned = it.0.unwarned; left = it.0.left; course = it.0.course; stands = λ on. (it.0.stands on, it.1 on) }
  turned (plans.Update plan) own tx (programs.Change p) count checked course at made fits port port_new tells new tx_new quiet stepped step from = absurd stepped
  turned (plans.Delete plan) own tx (programs.Change p) count checked course at made fits port port_new tells (programs.Change new) tx_new quiet stepped step from =
      let it = change_at changes.Remove plan.pred plan.route own tx p count course at made fits port port_new tells new tx_new quiet stepped step (λ due answer is acts. (from due answer is acts).0) in
      record { turned = it.0.turned; uncommitted = it.0.uncommitted; unwarned = it.0.unwarned; left = it.0.left; course = it.0.course; stands = λ on. (it.0.stands on, it.1 on) }
  turned (plans.Delete plan) own tx (programs.Change p) count checked course at made fits port port_new tells new tx_new quiet stepped step from = absurd stepped
  turned plan own tx program count checked course at made fits port port_new tells new tx_new quiet stepped step from = absurd at
