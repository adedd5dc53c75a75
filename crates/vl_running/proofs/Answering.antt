-- What a step of a statement came to is an answer that the run allows.
use Rattle.std.proofs.Common.{◌≡◌, ◌∙◌, ◌⊎◌, ℕ, Option, Some, None, refl, subst}
use Rattle.vl_values.specs.declared.cause.Cause.TheVariants as causes
use Rattle.vl_values.specs.declared.reply.Reply.TheVariants as replies
use Rattle.vl_values.specs.Cause.{error_code}
use Rattle.vl_catalog.specs.declared.catalog.Catalog.{Catalog}
use Rattle.vl_sql.specs.declared.stmt.Stmt.{Stmt}
use Rattle.vl_port.specs.declared.outcome.Outcome.{Outcome}
use Rattle.vl_port.specs.declared.tx_state.TxState.{TxState}
use Rattle.vl_port.specs.Calls.{PortView, without_outcome}
use Rattle.vl_port.specs.Transaction.{IsIn}
use Rattle.vl_plan.specs.declared.plan.Plan.{Plan}
use Rattle.vl_statement.specs.declared.program_told.ProgramTold.{ProgramTold}
use Rattle.vl_statement.specs.declared.program_told.ProgramTold.TheVariants as tells
use Rattle.vl_commit.specs.Closing.{AreClosed}
use Rattle.vl_lookup.specs.Stepping.{IsSameTxButClaims}
use Rattle.vl_exec.specs.declared.program.Program.{Program}
use Rattle.vl_exec.specs.Making.{IsMade}
use Rattle.vl_exec.specs.Progress.{wrote}
use Rattle.vl_exec.specs.Stepping.{Stepped}
use Rattle.vl_run.specs.declared.deed.Deed.TheVariants as deeds
use Rattle.vl_run.specs.declared.event.Event.{Event}
use Rattle.vl_run.specs.declared.request.Request.{Request}
use Rattle.vl_run.specs.declared.request.Request.TheVariants as requests
use Rattle.vl_run.specs.Allowed.{IsAsked, now_of}
use Rattle.vl_run.specs.Progress.{session}
use Rattle.vl_run.specs.Refused.Refuses.{Memory}
use Rattle.vl_run.specs.Run.{Run}
use Rattle.vl_run.specs.Session.{Owned, Session}
use Rattle.vl_course.specs.Answered.{AreMarked}
use Rattle.vl_course.specs.Turning.{Due, IsOfAct, IsOfStmt, IsStep, Turned}
use Rattle.vl_course.proofs.Events.{none_committed, none_warned, sound_idle, tells_refused, turned_idle}
use Rattle.vl_course.proofs.Listed.{tx_idle}
use Rattle.vl_course_program.specs.Fitting.{IsDueFit}
use Rattle.vl_course_program.specs.Programs.{HasDone, ProgramTurned, due_of, tries_of}
use Rattle.vl_session.specs.declared.turn.Turn.{Turn}
use Rattle.vl_session.specs.Ready.{IsTxIn}
use Rattle.vl_session.specs.Standing.{IsRunningAt}
use Rattle.vl_session.specs.Turning.{Answering, IsEventOf, IsTurn}
use Rattle.vl_running.specs.Happening.Happens.{Still}
use Rattle.vl_running.specs.Ran.{IsRefusedAs, IsToldAs, Ran, done_of, nothing, stays}
use Rattle.vl_running.specs.Ran.Ran.{Did, Starved}
use Rattle.vl_running.proofs.Coming.{happens_so}
use Rattle.vl_running.proofs.Facts.{IsStepOf}
use Rattle.vl_running.proofs.Rowless.{done_rowless, program_works}
use Rattle.vl_running.proofs.Replies.{KeepsDone, refused_keeps, refused_turn, told_keeps, told_tag, told_turn}
use Rattle.vl_running.proofs.Unlisted.{step_unlisted}

asks_of : (s : Session) (r : Request) (stmt : Stmt) → IsAsked s r stmt → IsOfStmt r stmt
asks_of s (requests.Say said) stmt asked = asked.1
asks_of s requests.Step stmt asked = tt
asks_of s requests.Join stmt asked = absurd asked
asks_of s requests.Reset stmt asked = absurd asked
asks_of s requests.Leave stmt asked = absurd asked
asks_of s (requests.Kill who shard) stmt asked = absurd asked

act_kept : (e : Event) (turn : Turn) (opens : Option ℕ) (due : Option Due) (outcome : Option Outcome) → IsTurn e turn → KeepsDone opens (done_of due outcome) turn → IsOfAct e due outcome
act_kept e turn opens None outcome is kept = (is.deed ∙ kept.deed, is.visits ∙ kept.visits, is.fault ∙ kept.fault)
act_kept e turn opens (Some due) outcome is kept = (is.deed ∙ kept.deed, is.visits ∙ kept.visits, is.fault ∙ kept.fault)

closed_behind : (tx : TxState) (n : ℕ) (between newer : PortView) → AreClosed tx 0 n (without_outcome between) newer → AreClosed tx 0 n between newer
closed_behind tx n between newer are = record {
  closed = are.closed;
  quiet = record { faults = are.quiet.faults; carried = are.quiet.carried; way = are.quiet.way; losses = are.quiet.losses };
}

-- what the laws of a program's step say of the step of this one
pub record AreLaws (catalog : Catalog) (past : Run) (count : ℕ) (e : Event) (stmt : Stmt) (plan : Plan) (own : Owned) (tx : TxState) (program : Program) (port : PortView) : Type 0 where
  pub fits : (due : Due) → due_of tx program ≡ Some due → IsDueFit catalog count tx due
  pub once : (tx_new : TxState) (new : Program) (port_new : PortView) (told : ProgramTold) → Stepped catalog program tx port told new tx_new port_new → (port_new ≡ port) ⊎ HasDone port (due_of tx program) port_new
  pub turns : (port_new : PortView) (told : ProgramTold) (new : Program) (tx_new : TxState) → Stepped catalog program tx port told new tx_new port_new → IsStep e stmt (due_of tx program) port_new.outcome told → ProgramTurned catalog tx.limits past e stmt plan own told new tx_new

module _ (catalog : Catalog) (past : Run) (count : ℕ) (e : Event) (stmt : Stmt) (plan : Plan) (own : Owned) (tx : TxState) (program : Program) (port : PortView) (laws : AreLaws catalog past count e stmt plan own tx program port)
    (event : IsEventOf catalog past count port.shards e stmt) (running : IsRunningAt catalog tx.limits (now_of e past) e.session stmt plan own tx program) (marks : AreMarked past tx.number port.shards) (ready : IsTxIn count tx port.shards)
    (made : IsMade catalog count tx.limits.tries program) (none : port.outcome ≡ None) (opens : Option ℕ) (turn : Turn) (newer : PortView) (is_turn : IsTurn e turn) where
  asks : IsOfStmt e.request stmt
  asks = asks_of (session past e.session) e.request stmt event.asked

  -- ---- the program did its step

  module _ (told : ProgramTold) (new : Program) (after : TxState) (between : PortView) (stepped : Stepped catalog program tx port told new after between) (same : IsSameTxButClaims tx after) (isin : IsIn after count between.shards)
      (is : IsToldAs told after new opens (done_of (due_of tx program) between.outcome) (without_outcome between) turn newer) where
    act : IsOfAct e (due_of tx program) between.outcome
    act = act_kept e turn opens (due_of tx program) between.outcome is_turn (told_keeps told after new opens (done_of (due_of tx program) between.outcome) (without_outcome between) newer turn is)

    turned : ProgramTurned catalog tx.limits past e stmt plan own told new after
    turned = laws.turns between told new after stepped (record {
      asked = asks;
      act = act;
      tag = told_tag told after new opens (done_of (due_of tx program) between.outcome) (without_outcome between) newer turn e.told is is_turn.told;
    })

    step : IsStepOf catalog tx.limits past count e stmt plan own tx after port between
    step = record {
      event = event;
      asks = asks;
      planned = running.course.planned;
      works = program_works catalog tx.limits (now_of e past) e.session stmt plan program running.course.planned running.stands;
      doing = running.course.doing;
      is_own = running.course.owned;
      auto = same.auto ∙ running.course.auto;
      single = same.single ∙ running.course.is_tx.single;
      same_number = same.number;
      same_session = same.session;
      number = running.course.is_tx.number;
      owned = ready.owned;
      isin = isin;
      happens = happens_so catalog count tx port between e (due_of tx program) (laws.once after new between told stepped) none act laws.fits;
      marks = marks;
      uncommitted = turned.uncommitted;
      unwarned = turned.unwarned;
      left = turned.left;
      unclaimed = step_unlisted catalog count tx.limits.tries tx after port between program new told made laws.fits stepped ∙ running.unclaimed;
    }

    did : Answering catalog tx.limits past count e turn newer.shards
    did =
        told_turn catalog tx.limits past count e stmt plan own tx after port between step opens (done_of (due_of tx program) between.outcome) turn newer is_turn (without_outcome between) refl (λ n closed. closed_behind after n between newer closed) told new
        (λ affected found warnings stays_open auto done. done_rowless catalog tx affected found warnings stays_open auto tx.limits (now_of e past) e.session stmt plan program new port between after running.course.planned running.stands
        (subst (λ (it : ProgramTold). Stepped catalog program tx port it new after between) done stepped))
        turned.turned turned.course turned.stands is

  -- ---- there was no memory to begin it

  module _ (is : IsRefusedAs (stays tx program) tx opens nothing (replies.Err (error_code causes.OutOfMemory) causes.OutOfMemory (stays tx program)) port turn newer) where
    kept : KeepsDone opens nothing turn
    kept = refused_keeps (stays tx program) tx opens nothing (replies.Err (error_code causes.OutOfMemory) causes.OutOfMemory (stays tx program)) port newer turn is

    deed : e.deed ≡ deeds.Nothing
    deed = is_turn.deed ∙ kept.deed

    fault : e.fault ≡ None
    fault = is_turn.fault ∙ kept.fault

    still : IsStepOf catalog tx.limits past count e stmt plan own tx tx port port
    still = record {
      event = event;
      asks = asks;
      planned = running.course.planned;
      works = program_works catalog tx.limits (now_of e past) e.session stmt plan program running.course.planned running.stands;
      doing = running.course.doing;
      is_own = running.course.owned;
      auto = running.course.auto;
      single = running.course.is_tx.single;
      same_number = refl;
      same_session = refl;
      number = running.course.is_tx.number;
      owned = ready.owned;
      isin = ready.sessions;
      happens = Still refl deed fault;
      marks = marks;
      uncommitted = none_committed catalog tx.limits past e stmt plan own tx (tries_of program) (wrote program) running.course deed;
      unwarned = none_warned catalog tx.limits past e stmt plan own tx (tries_of program) (wrote program) running.course deed;
      left = λ sound. tx_idle tx.limits e past e.session own tx running.course.is_tx deed;
      unclaimed = running.unclaimed;
    }

    refuses : Turned catalog tx.limits past e stmt plan own (tells.Reply (replies.Err (error_code causes.OutOfMemory) causes.OutOfMemory (stays tx program)))
    refuses =
        turned_idle catalog tx.limits past e stmt plan own tx (tries_of program) (wrote program) running.course (tells.Reply (replies.Err (error_code causes.OutOfMemory) causes.OutOfMemory (stays tx program))) deed (is_turn.visits ∙ kept.visits)
        (tells_refused catalog tx.limits past e stmt plan own tx (tries_of program) (wrote program) running.course (wrote program) causes.OutOfMemory (tells.Reply (replies.Err (error_code causes.OutOfMemory) causes.OutOfMemory (stays tx program)))
        (sound_idle catalog tx.limits past e stmt plan own tx (tries_of program) (wrote program) running.course deed fault) Memory refl)

    starved : Answering catalog tx.limits past count e turn newer.shards
    starved = refused_turn catalog tx.limits past count e stmt plan own tx tx port port still opens nothing turn newer is_turn port refl (λ n closed. closed) (stays tx program) (error_code causes.OutOfMemory) causes.OutOfMemory is refuses

  pub ran_answering : Ran catalog count tx program opens port turn newer → Answering catalog tx.limits past count e turn newer.shards
  ran_answering (Starved is) = starved is
  ran_answering (Did told new after between stepped same isin serves is) = did told new after between stepped same isin is
