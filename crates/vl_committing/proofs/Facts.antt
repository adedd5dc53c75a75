-- What stands of a step of a commit and of its event.
use Rattle.std.proofs.Common.{◌≡◌, ◌∙◌, ◌∷◌, ℕ, true, false, [], List, Option, Some, None, sym, ap, subst, arith}
use Rattle.std.specs.Option.{option_map}
use Rattle.std.proofs.lemmas.Bool.{eq-eqb}
use Rattle.vl_values.specs.declared.reply.Reply.{Reply}
use Rattle.vl_catalog.specs.declared.catalog.Catalog.{Catalog}
use Rattle.vl_sql.specs.declared.stmt.Stmt.{Stmt}
use Rattle.vl_port.specs.declared.carried.Carried.TheVariants.{Passed}
use Rattle.vl_port.specs.declared.committed.Committed.{Committed}
use Rattle.vl_port.specs.declared.tx_state.TxState.{TxState}
use Rattle.vl_port.specs.declared.who.Who.{Who}
use Rattle.vl_port.specs.Calls.{HasCommitted, PortView}
use Rattle.vl_port.specs.Life.{loss_of}
use Rattle.vl_port.specs.Transaction.{session_of}
use Rattle.vl_plan.specs.declared.plan.Plan.{Plan}
use Rattle.vl_commit.specs.declared.commit_told.CommitTold.{CommitTold}
use Rattle.vl_commit.specs.declared.commit_told.CommitTold.TheVariants as told
use Rattle.vl_commit.specs.declared.warning.Warning.{Warning}
use Rattle.vl_commit.specs.Sessions.{HasNothingLeft, Session as ShardSession}
use Rattle.vl_commit.specs.Stepping.{CommitStepped, Committing, DealsWith, IsOver, TellsOf, due, passed}
use Rattle.vl_run.specs.declared.event.Event.{Event}
use Rattle.vl_run.specs.Allowed.{Allows, Answers, HasNothing, IsDone, IsVisit, ends_due, now_of, owns, tag_of}
use Rattle.vl_run.specs.declared.what.What.{What}
use Rattle.vl_run.specs.Gathered.{shown}
use Rattle.vl_run.specs.Progress.{session}
use Rattle.vl_run.specs.Refused.{MayDo}
use Rattle.vl_run.specs.Run.{Run, state}
use Rattle.vl_run.specs.Run.Point.{Happened}
use Rattle.vl_run.specs.Session.{IsTold, Kind, Owned, Session, kind_of}
use Rattle.vl_run.specs.Session.Kind.{Begins, Commits, RollsBack, SetsAuto, Stays, Works}
use Rattle.vl_replay.specs.Ending.{IsNoAct}
use Rattle.vl_replay.specs.Showing.{AreUp, IsOwned, Shows}
use Rattle.vl_replay.proofs.Ends.{ended_steps}
use Rattle.vl_course.specs.Answered.{IsMarkedAs}
use Rattle.vl_course.specs.Turning.{IsOfStmt}
use Rattle.vl_course_commit.specs.Committing.{fault_by}
use Rattle.vl_course_commit.specs.Dealing.{CommitTurned, HasTag, IsDealt, failure_told}
use Rattle.vl_course_commit.proofs.Nothing.{nothing_left}
use Rattle.vl_course_commit.proofs.Turns.{commit_turned}
use Rattle.vl_session.specs.declared.purpose.Purpose.{Purpose}
use Rattle.vl_session.specs.Ready.{AreLeftMarked, IsCommitIn}
use Rattle.vl_session.specs.Standing.{IsCommittingAt, IsPurposeOf}
use Rattle.vl_session.specs.Turning.{IsEventOf}
use Rattle.vl_committing.specs.Telling.{deed_of, due_named, is_done}
use Rattle.vl_committing.proofs.Dealings.{Went, is_dealt_with, went as went_by}
use Rattle.vl_committing.proofs.Dealings.Went.{Done, Idled, Lost}
use Rattle.vl_committing.proofs.Keeping.{Fewer, fewer_stepped, owned_stepped}
use Rattle.vl_committing.proofs.Parts.{asks_of, deed_no_act, of_session, ok_told}

never : true ≡ false → ⊥
never same = cc

-- the commit stood where the run says as the event was asked, and did its step, where the link passed it on and no shard
-- went down; the event tells what was done
pub record IsStepOf (catalog : Catalog) (past : Run) (count : ℕ) (e : Event) (stmt : Stmt) (plan : Plan) (own : Owned) (reply : Reply) (purpose : Purpose) (c new : Committing) (tells : CommitTold) (old mid : PortView) : Type 0 where
  pub event : IsEventOf catalog past count old.shards e stmt
  pub at : IsCommittingAt catalog c.tx.limits (now_of e past) e.session stmt plan own c reply purpose
  pub marks : AreLeftMarked past c old.shards
  pub ready : IsCommitIn count c old.shards
  pub stepped : CommitStepped c old tells new mid
  pub same : new.tx ≡ c.tx
  pub nothing : IsOver tells → HasNothingLeft c.tx count mid.shards
  pub way : mid.way ≡ Passed
  pub up : AreUp count mid.shards
  pub deed : e.deed ≡ deed_of (due_named c) (is_done (failure_told c tells new))
  pub visits : e.visits ≡ option_map (λ (it : Who × ℕ). it.1) (due_named c)
  pub fault : e.fault ≡ option_map fault_by (failure_told c tells new)

one_owner : (o : Option Owned) (one other : Owned) → o ≡ Some one → o ≡ Some other → one ≡ other
one_owner None one other is also = absurd (cc)
one_owner (Some owner) one other is also = cc

-- the purpose is that of the statement, wherever the run stands
pub purpose_stays : (catalog : Catalog) (tx : TxState) (now after : Run) (n : ℕ) (kind : Kind) (purpose : Purpose) → IsPurposeOf catalog tx.limits now n kind purpose → IsPurposeOf catalog tx.limits after n kind purpose
purpose_stays catalog tx now after n Works purpose is = is
purpose_stays catalog tx now after n Begins purpose is = is
purpose_stays catalog tx now after n Commits purpose is = is
purpose_stays catalog tx now after n RollsBack purpose is = absurd is
purpose_stays catalog tx now after n (SetsAuto true) purpose is = is
purpose_stays catalog tx now after n (SetsAuto false) purpose is = absurd is
purpose_stays catalog tx now after n Stays purpose is = absurd is

-- ---- what is left of the commit

none_more : (o : Option ShardSession) (next : Committing) (tells : CommitTold) (new : Committing) → next.warnings ≡ [] → TellsOf o next tells new → new.warnings ≡ []
none_more None next tells new none says = ap (λ (c : Committing). c.warnings) says.1
none_more (Some it) next tells new none says = ap (λ (c : Committing). c.warnings) says.1 ∙ none

pub goes_as : (o : Option ShardSession) (next : Committing) (tells : CommitTold) (new : Committing) → tells ≡ told.More → TellsOf o next tells new → new ≡ next
goes_as None next tells new more says = absurd (apart (sym says.0 ∙ more))
  where
    apart : told.Ok next.warnings ≡ told.More → ⊥
    apart same = cc
goes_as (Some it) next tells new more says = says.1

module _ (catalog : Catalog) (past : Run) (count : ℕ) (e : Event) (stmt : Stmt) (plan : Plan) (own : Owned) (reply : Reply) (purpose : Purpose) (c new : Committing) (tells : CommitTold) (old mid : PortView) (step : IsStepOf catalog past count e stmt plan own reply purpose c new tells old mid) where
  abbrev Asked : Session
  Asked = session (now_of e past) e.session

  abbrev Then : Session
  Then = session (Happened e ∷ past) e.session

  pub asks : IsOfStmt e.request stmt
  asks = asks_of (session past e.session) e.request stmt step.event.asked

  up_at : (it : ShardSession) → due c ≡ Some it → (mid.shards it.1).up ≡ true
  up_at it is = step.up it.1 (step.ready.left.opened c.at it (omega arith) is).0

  marked_at : (it : ShardSession) → due c ≡ Some it → IsMarkedAs past (session_of c.tx it.0) it.1 (loss_of (old.shards it.1) (session_of c.tx it.0))
  marked_at it is = step.marks c.at it (omega arith) is

  pub went_so : Went c new tells old mid
  went_so = went_by c new tells old mid step.way step.at.unclaimed up_at step.stepped

  pub no_act : IsNoAct e.deed
  no_act = subst IsNoAct (sym step.deed) (deed_no_act (due_named c) (is_done (failure_told c tells new)))

  pub fewer : Fewer old.shards mid.shards
  fewer = fewer_stepped c new tells mid old step.stepped

  owned_then : IsOwned c.tx.number c.tx.session count mid.shards
  owned_then = owned_stepped c.tx.number c.tx.session count old.shards mid.shards fewer step.ready.owned

  -- ---- the warnings

  none_warned : Went c new tells old mid → new.warnings ≡ []
  none_warned (Idled none says same) = none_more (due c) c tells new step.at.unwarned says
  none_warned (Done it is commits done says) = none_more (due (passed c)) (passed c) tells new step.at.unwarned says
  none_warned (Lost it reason between is commits up_between undone ended) = ap (λ (n : Committing). n.warnings) ended.same ∙ step.at.unwarned

  pub unwarned : new.warnings ≡ []
  unwarned = none_warned went_so

  none_told_of : (warnings : List Warning) → tells ≡ told.Ok warnings → Went c new tells old mid → warnings ≡ []
  none_told_of warnings is (Idled none says same) = ok_told (due c) c warnings new (subst (λ (t : CommitTold). TellsOf (due c) c t new) is says) ∙ step.at.unwarned
  none_told_of warnings is (Done it due_is commits done says) = ok_told (due (passed c)) (passed c) warnings new (subst (λ (t : CommitTold). TellsOf (due (passed c)) (passed c) t new) is says) ∙ step.at.unwarned
  none_told_of warnings is (Lost it reason between due_is commits up_between undone ended) = absurd (cc (is, ended.refused))

  pub told_none : (warnings : List Warning) → tells ≡ told.Ok warnings → warnings ≡ []
  told_none warnings is = none_told_of warnings is went_so

  -- ---- what the run allows

  pub dealt_so : (it : ShardSession) (outcome : Committed) (between : PortView) → due c ≡ Some it → HasCommitted old (session_of c.tx it.0) it.1 outcome between → DealsWith outcome c it between tells new mid
      → IsDealt past (session_of c.tx it.0) it.1 (is_done (failure_told c tells new)) outcome
  dealt_so = is_dealt_with past c new tells old mid step.way step.at.unclaimed up_at marked_at

  pub turned : HasTag catalog tells e.told → CommitTurned catalog c.tx.limits past e stmt plan own tells new
  turned tag = commit_turned catalog c.tx.limits past e stmt plan own c step.at.at old mid tells new (is_done (failure_told c tells new)) step.stepped
      (record { asked = asks; session = of_session e c (is_done (failure_told c tells new)) (due c) step.deed step.visits; fault = step.fault; tag = tag }) dealt_so

  pub answers_by : (what : What) → e.told ≡ tag_of what → IsDone catalog (shown catalog past) (now_of e past) e.session stmt Asked.owned e.deed → MayDo c.tx.limits (now_of e past) e.deed
      → IsVisit catalog (shown catalog past) (now_of e past) e.session stmt Asked.owned e.deed e.visits → e.ends ≡ ends_due e.told (kind_of stmt) e.deed Asked.owned
      → Allows catalog c.tx.limits past e e.session stmt Asked what → IsTold e.told Then
      → ((other : Owned) → Asked.owned ≡ Some other → owns Then.owned other.number ≡ false → HasNothing (state catalog (Happened e ∷ past)) other.number) → Answers catalog c.tx.limits past e what
  answers_by what tag done may visit ended allowed truly left = record {
    stmt = stmt;
    asked = step.event.asked;
    opens = step.event.opens;
    done = done;
    may = may;
    visit = visit;
    ends = ended;
    steps = ended_steps catalog past e no_act;
    told = sym tag;
    allowed = allowed;
    true_ = truly;
    left = left;
  }

  -- ---- what is left of the transaction

  pub left_open : Then.owned ≡ Some own → (other : Owned) → Asked.owned ≡ Some other → owns Then.owned other.number ≡ false → HasNothing (state catalog (Happened e ∷ past)) other.number
  left_open stays other is gone =
      let same : own ≡ other = one_owner Asked.owned own other step.at.at.owned is in
      absurd (never (sym (eq-eqb own.number other.number (ap (λ (o : Owned). o.number) same)) ∙ sym (ap (λ (o : Option Owned). owns o other.number) stays) ∙ gone))

  pub left_none : Shows catalog (Happened e ∷ past) count mid.shards → IsOver tells → (other : Owned) → Asked.owned ≡ Some other → owns Then.owned other.number ≡ false → HasNothing (state catalog (Happened e ∷ past)) other.number
  left_none shows over other is gone =
      let nothing = nothing_left catalog (Happened e ∷ past) c.tx count mid.shards shows.replays (record { serves = shows.serves; lanes = shows.lanes; bare = shows.bare; owned = owned_then }) (step.nothing over) in
      subst (λ (n : ℕ). HasNothing (state catalog (Happened e ∷ past)) n) (step.at.at.is_tx.number ∙ ap (λ (o : Owned). o.number) (one_owner Asked.owned own other step.at.at.owned is)) nothing
