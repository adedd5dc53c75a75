-- A step of an INSERT's program is an event that the run allows.
use Rattle.std.proofs.Common.{◌≡◌, ◌∙◌, ◌<◌, ◌^◌, ◌++◌, ◌∷◌, ℕ, List, [], Option, Some, None, ap, subst}
use Rattle.std.specs.Option.{option_map}
use Rattle.vl_values.specs.declared.cause.Cause.TheVariants as causes
use Rattle.vl_catalog.specs.declared.catalog.Catalog.{Catalog}
use Rattle.vl_rules.specs.Order.{Checked}
use Rattle.vl_sql.specs.declared.stmt.Stmt.{Stmt}
use Rattle.vl_port.specs.declared.answer.Answer.{Answer}
use Rattle.vl_port.specs.declared.limits.Limits.{Limits}
use Rattle.vl_port.specs.declared.outcome.Outcome.{Outcome}
use Rattle.vl_port.specs.declared.tx_state.TxState.{TxState}
use Rattle.vl_port.specs.Calls.{HasActed, PortView}
use Rattle.vl_port.specs.Outcomes.{outcome_of}
use Rattle.vl_port.specs.View.{Values}
use Rattle.vl_plan.specs.declared.insert_plan.InsertPlan.{InsertPlan}
use Rattle.vl_plan.specs.declared.plan.Plan.TheVariants as plans
use Rattle.vl_lookup.specs.declared.claim_told.ClaimTold.{ClaimTold}
use Rattle.vl_lookup.specs.Progress.{Progress as Claiming, due as claim_due}
use Rattle.vl_lookup.specs.Stepping.ClaimStepped.{Crossed as ClaimCrossed, Did as ClaimDid, Full as ClaimFull, NoRoom as ClaimNoRoom}
use Rattle.vl_lookup.specs.Stepping.{ClaimStepped}
use Rattle.vl_statement.specs.declared.program_told.ProgramTold.{ProgramTold}
use Rattle.vl_statement.specs.Refusing.{IsRefusedFor, refused, removed_and_claimed}
use Rattle.vl_insert.specs.declared.task.Task.{Task}
use Rattle.vl_insert.specs.declared.task.Task.TheVariants as tasks
use Rattle.vl_insert.specs.Answering.{ClaimMeans}
use Rattle.vl_insert.specs.Making.{IsMade}
use Rattle.vl_insert.specs.Progress.{Progress, at_claim}
use Rattle.vl_insert.specs.Stepping.{Stepped}
use Rattle.vl_insert.specs.Stepping.Stepped.{Claimed, Did, Full, Idle, NoRoom}
use Rattle.vl_run.specs.declared.deed.Deed.TheVariants as deeds
use Rattle.vl_run.specs.declared.event.Event.{Event}
use Rattle.vl_run.specs.Allowed.{now_of}
use Rattle.vl_run.specs.Refused.Refuses.{Memory}
use Rattle.vl_run.specs.Run.{Run}
use Rattle.vl_run.specs.Run.Point.{Happened}
use Rattle.vl_run.specs.Session.{Owned}
use Rattle.vl_course.specs.Answered.{IsAnswered}
use Rattle.vl_course.specs.Course.{Course}
use Rattle.vl_course.specs.Turning.{Due, GoesOn, HasTag, IsOfAct, IsStep}
use Rattle.vl_course.proofs.Events.{idle_act, proceeds_idle}
use Rattle.vl_course_insert.specs.Inserting.{InsertTurned, IsFoundAs, IsInsertAt, due_as, due_of}
use Rattle.vl_course_insert.proofs.ClaimTurns.{crossed_turned, did_turned, full_turned as claim_full}
use Rattle.vl_course_insert.proofs.Moves.{says_idle}
use Rattle.vl_course_insert.proofs.RowTurns.{full_turned as row_full, row_turned}
use Rattle.vl_course_insert.proofs.Tasks.{none_left}
use Rattle.vl_course_insert.proofs.Telling.{IsStart, idle_turned, over_left, refused_left, replied, still_sound}

module _ {catalog : Catalog} {limits : Limits} {past : Run} {e : Event} {stmt : Stmt} {plan : InsertPlan} {own : Owned} {tx : TxState} {p : Progress} (s : IsStart catalog limits past e stmt plan own tx p) where
  -- the program where no task is left
  idle_at : e.deed ≡ deeds.Nothing → p.task ≡ None → IsInsertAt catalog limits (Happened e ∷ past) e.session plan p
  idle_at still none =
      let says = says_idle catalog e past still in
      record {
        written = s.at.written;
        left = [];
        rows = s.at.rows ∙ ap (λ (rows : List Values). s.at.written ++ rows) (none_left catalog (now_of e past) e.session plan p s.at.left s.at.stands none);
        wrote = says.wrote ∙ s.at.wrote;
        counted = s.at.counted;
        unread = says.rows [] s.at.unread;
        stands = none;
      }

  module _ (port port_new : PortView) (tells : ProgramTold) (new : Progress) (tx_new : TxState) (quiet : port.outcome ≡ None) (act : IsOfAct e (due_of tx p) port_new.outcome) (tag : HasTag tells e.told)
      (from : (due : Due) (answer : Answer) → due_of tx p ≡ Some due → HasActed port due.who due.shard due.act answer port_new → IsAnswered catalog past due.who due.shard due.act answer)
      (found : (due : Due) (answer : Answer) → due_of tx p ≡ Some due → HasActed port due.who due.shard due.act answer port_new → IsFoundAs catalog past due.who due.act answer) where
    abbrev Turns : Type 0
    Turns = InsertTurned catalog limits past e stmt plan own tells new tx_new

    -- nothing was asked of the port
    none_asked : port_new ≡ port → (e.deed ≡ deeds.Nothing) × (e.visits ≡ None) × (e.fault ≡ None)
    none_asked same = idle_act e (due_of tx p) (subst (IsOfAct e (due_of tx p)) (ap (λ (v : PortView). v.outcome) same ∙ quiet) act)

    due_is : (task : Task) → p.task ≡ Some task → due_of tx p ≡ Some (due_as tx task)
    due_is task is = ap (option_map (due_as tx)) is

    asked_act : (task : Task) (answer : Answer) → p.task ≡ Some task → port_new.outcome ≡ Some (outcome_of answer) → IsOfAct e (Some (due_as tx task)) (Some (outcome_of answer))
    asked_act task answer is came = subst (λ (o : Option Outcome). IsOfAct e (Some (due_as tx task)) o) came (subst (λ (d : Option Due). IsOfAct e d port_new.outcome) (due_is task is) act)

    full_memory : port_new ≡ port → tx_new ≡ tx → tells ≡ refused tx p.wrote causes.OutOfMemory → Turns
    full_memory shown same refused =
        let still = none_asked shown in
        idle_turned s tells new tx_new still.0 still.1 still.2 same tag (refused_left s p.wrote causes.OutOfMemory tells new (still_sound s still.0 still.2) Memory refused)

    -- ---- a claim

    module _ (claim claim_new : Claiming) (said : ClaimTold) (is : p.task ≡ Some (tasks.Claim claim)) (means : ClaimMeans catalog tx (at_claim claim_new p) (claim_due claim).group claim_new said tells new) where
      means_as : (other : ClaimTold) → said ≡ other → ClaimMeans catalog tx (at_claim claim_new p) (claim_due claim).group claim_new other tells new
      means_as other same = subst (λ (it : ClaimTold). ClaimMeans catalog tx (at_claim claim_new p) (claim_due claim).group claim_new it tells new) same means

      by_claim : ClaimStepped catalog claim tx port said claim_new tx_new port_new → Turns
      by_claim (ClaimCrossed crossed says same unasked) =
          let still = none_asked unasked.shown in
          crossed_turned s claim is tells new tx_new tag still.0 still.1 still.2 unasked.same crossed
          (subst (λ (c : Claiming). IsRefusedFor tx p.wrote tells (removed_and_claimed catalog c.lookup c.row)) same (means_as _ says))
      by_claim (ClaimFull apart full says same unasked) =
          let still = none_asked unasked.shown in
          claim_full s claim is tells new tx_new tag still.0 still.1 still.2 unasked.same full (means_as _ says)
      by_claim (ClaimNoRoom says same unasked) = full_memory unasked.shown unasked.same (means_as _ says)
      by_claim (ClaimDid answer listed claims apart room asked same answered) =
          did_turned s claim is tells new tx_new tag answer
          (record {
            uncrossed = apart;
            room = room;
            mid = listed;
            claims = claims;
            lists = asked.lists;
            same = same;
            said = said;
            claim_new = claim_new;
            answered = answered;
            means = means;
            port = from (due_as tx (tasks.Claim claim)) answer (due_is (tasks.Claim claim) is) asked.acts;
            found = found (due_as tx (tasks.Claim claim)) answer (due_is (tasks.Claim claim) is) asked.acts;
            event = asked_act (tasks.Claim claim) answer is asked.acts.came;
          })

    -- ---- the step

    by_step : Stepped catalog p tx port tells new tx_new port_new → Turns
    by_step (Idle none replies same same_tx shown) =
        let still = none_asked shown in
        idle_turned s tells new tx_new still.0 still.1 still.2 same_tx tag
        (over_left s p.wrote tells new (replied s p tells (idle_at still.0 none) (proceeds_idle e still.0 still.2) none replies) (λ on. subst GoesOn replies on))
    by_step (Claimed claim claim_new said is stepped means) = by_claim claim claim_new said is means stepped
    by_step (Full insertion is full refused same shown) =
        let still = none_asked shown in
        row_full s insertion is tells new tx_new tag still.0 still.1 still.2 same full refused
    by_step (NoRoom insertion is room refused unasked) = full_memory unasked.shown unasked.same refused
    by_step (Did insertion answer is room asked answered) =
        row_turned s insertion is tells new tx_new tag room answer (from (due_as tx (tasks.Row insertion)) answer (due_is (tasks.Row insertion) is) asked.acts)
        (found (due_as tx (tasks.Row insertion)) answer (due_is (tasks.Row insertion) is) asked.acts)
        (asked_act (tasks.Row insertion) answer is asked.acts.came) asked.lists answered

-- ---- the law

pub insert_turned : (catalog : Catalog) (limits : Limits) (past : Run) (e : Event) (stmt : Stmt) (plan : InsertPlan) (own : Owned) (tx : TxState) (p : Progress) (count : ℕ) → Checked catalog
    → Course catalog limits (now_of e past) e.session stmt (plans.Insert plan) own tx p.tries p.wrote
    → IsInsertAt catalog limits (now_of e past) e.session plan p → IsMade catalog count limits.tries p → limits.changes < 2 ^ 32 → (port port_new : PortView) (tells : ProgramTold) (new : Progress) (tx_new : TxState)
    → port.outcome ≡ None
    → Stepped catalog p tx port tells new tx_new port_new → IsStep e stmt (due_of tx p) port_new.outcome tells
    → ((due : Due) (answer : Answer) → due_of tx p ≡ Some due → HasActed port due.who due.shard due.act answer port_new → IsAnswered catalog past due.who due.shard due.act answer)
    → ((due : Due) (answer : Answer) → due_of tx p ≡ Some due → HasActed port due.who due.shard due.act answer port_new → IsFoundAs catalog past due.who due.act answer)
    → InsertTurned catalog limits past e stmt plan own tells new tx_new
insert_turned catalog limits past e stmt plan own tx p count checked course at made fits port port_new tells new tx_new quiet stepped step from found =
    by_step (record { checked = checked; course = course; at = at; count = count; made = made; fits = fits; asks = step.asked }) port port_new tells new tx_new quiet step.act step.tag from found stepped
