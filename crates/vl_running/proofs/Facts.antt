-- A step of a statement's program, with all that is known of it; and the parts of an answer that are the same whatever is told.
use Rattle.std.proofs.Common.{◌≡◌, ◌∙◌, ◌∷◌, ℕ, Bool, true, false, [], Option, Some, None, refl, sym, ap, subst}
use Rattle.std.proofs.lemmas.Bool.{eq-eqb}
use Rattle.std.specs.Option.{is_some}
use Rattle.vl_catalog.specs.declared.catalog.Catalog.{Catalog}
use Rattle.vl_sql.specs.declared.stmt.Stmt.{Stmt}
use Rattle.vl_port.specs.declared.limits.Limits.{Limits}
use Rattle.vl_port.specs.declared.tx_state.TxState.{TxState}
use Rattle.vl_port.specs.Calls.{PortView}
use Rattle.vl_port.specs.Outcomes.{outcome_of}
use Rattle.vl_port.specs.Transaction.{IsIn}
use Rattle.vl_plan.specs.declared.plan.Plan.{Plan}
use Rattle.vl_plan.specs.Planned.{IsPlanned}
use Rattle.vl_statement.specs.declared.program_told.ProgramTold.{ProgramTold}
use Rattle.vl_run.specs.declared.deed.Deed.{Deed}
use Rattle.vl_run.specs.declared.deed.Deed.TheVariants as deeds
use Rattle.vl_run.specs.declared.ends.Ends.TheVariants as ends
use Rattle.vl_run.specs.declared.event.Event.{Event}
use Rattle.vl_run.specs.declared.fault.Fault.{Fault}
use Rattle.vl_run.specs.declared.mark.Mark.{Mark}
use Rattle.vl_run.specs.declared.tag.Tag.{Tag}
use Rattle.vl_run.specs.declared.tag.Tag.TheVariants as tags
use Rattle.vl_run.specs.declared.what.What.{What}
use Rattle.vl_run.specs.Allowed.{Allows, Answers, HasNothing, IsDone, IsUnharmed, Proceeds, ends_due, failed_one, now_of, owns, tag_of}
use Rattle.vl_run.specs.Gathered.{shown}
use Rattle.vl_run.specs.Progress.{commits, session, warned}
use Rattle.vl_run.specs.Run.{Run, next_tx, state}
use Rattle.vl_run.specs.Run.Point.{Happened}
use Rattle.vl_run.specs.Session.{IsTold, Kind, Owned, kind_of}
use Rattle.vl_run.specs.Session.Kind.{Works}
use Rattle.vl_replay.specs.Marks.{deed_of, mark_of}
use Rattle.vl_replay.specs.Showing.{IsOwned}
use Rattle.vl_course.specs.Answered.{AreMarked}
use Rattle.vl_course.specs.Course.{HasNext, IsTx}
use Rattle.vl_course.specs.Turning.{IsOfStmt, Turned}
use Rattle.vl_session.specs.Turning.{IsClear, IsEventOf}
use Rattle.vl_session.proofs.Opening.{next_opened}
use Rattle.vl_running.specs.Happening.{Happens}
use Rattle.vl_running.specs.Happening.Happens.{Back, Gone, Still}
use Rattle.vl_running.proofs.Happening.{over_steps}

-- the event of a step of the statement in progress; `after` is its transaction behind the step
pub record IsStepOf (catalog : Catalog) (limits : Limits) (past : Run) (count : ℕ) (e : Event) (stmt : Stmt) (plan : Plan) (own : Owned) (tx after : TxState) (old new : PortView) : Type 0 where
  pub event : IsEventOf catalog past count old.shards e stmt
  pub asks : IsOfStmt e.request stmt
  pub planned : IsPlanned catalog stmt plan
  pub works : kind_of stmt ≡ Works
  pub doing : (session (now_of e past) e.session).doing ≡ Some stmt
  pub is_own : (session (now_of e past) e.session).owned ≡ Some own
  pub auto : after.auto ≡ (session (now_of e past) e.session).auto
  pub single : after.single ≡ own.single
  pub same_number : after.number ≡ tx.number
  pub same_session : after.session ≡ tx.session
  pub number : tx.number ≡ own.number
  pub owned : IsOwned tx.number tx.session count old.shards
  pub isin : IsIn after count new.shards
  pub happens : Happens catalog count tx old new e
  pub marks : AreMarked past tx.number old.shards
  pub uncommitted : commits (Happened e ∷ past) e.session ≡ 0
  pub unwarned : warned catalog (Happened e ∷ past) e.session ≡ []
  pub left : e.fault ≡ None → IsTx limits (Happened e ∷ past) e.session own after
  pub unclaimed : after.post ≡ []

-- ---- what came about

pub no_fault : (f : Option Fault) → is_some f ≡ false → f ≡ None
no_fault None is = refl
no_fault (Some fault) is = absurd (cc)

one_owner : (o : Option Owned) (one other : Owned) → o ≡ Some one → o ≡ Some other → one ≡ other
one_owner None one other is also = absurd (cc)
one_owner (Some owner) one other is also = cc

module _ (catalog : Catalog) (count : ℕ) (tx : TxState) (old new : PortView) (e : Event) where
  pub sound_none : Happens catalog count tx old new e → Proceeds e → e.fault ≡ None
  sound_none (Still same deed none) proceeds = none
  sound_none (Back due answer acts back number session taking deed none) proceeds = none
  sound_none (Gone due answer acts lost number session deed failed) proceeds = subst (λ (d : Deed). IsUnharmed d e.fault) deed proceeds.sound

  -- no commit was done
  pub none_failed : Happens catalog count tx old new e → failed_one e.deed ≡ ends.Nobody
  none_failed (Still same deed none) = ap failed_one deed
  none_failed (Back due answer acts back number session taking deed none) = ap failed_one deed ∙ of_act (mark_of due.mark (outcome_of answer))
    where
      of_act : (m : Option Mark) → failed_one (deed_of due.who due.shard due.act m) ≡ ends.Nobody
      of_act None = refl
      of_act (Some mark) = refl
  none_failed (Gone due answer acts lost number session deed failed) = ap failed_one deed

-- ---- which sessions end

-- none does where the statement goes on or is done
abbrev pub IsNoErr : Tag → Type 0
IsNoErr (tags.Err code tx) = ⊥
IsNoErr tags.Nothing = Unit {0}
IsNoErr tags.More = Unit {0}
IsNoErr (tags.Held by tries) = Unit {0}
IsNoErr (tags.Ok affected found warnings tx auto) = Unit {0}
IsNoErr (tags.Rows tx auto) = Unit {0}

ok_ends : (affected found warnings : ℕ) (tx auto : Bool) (d : Deed) (o : Option Owned) → failed_one d ≡ ends.Nobody → ends_due (tags.Ok affected found warnings tx auto) Works d o ≡ ends.Nobody
ok_ends affected found warnings tx auto deeds.Nothing o none = refl
ok_ends affected found warnings tx auto (deeds.Acts who shard act mark) o none = refl
ok_ends affected found warnings tx auto (deeds.Commits who shard) o none = refl
ok_ends affected found warnings tx auto (deeds.Fails who shard) o none = none

works_ends : (t : Tag) (d : Deed) (o : Option Owned) → IsNoErr t → failed_one d ≡ ends.Nobody → ends_due t Works d o ≡ ends.Nobody
works_ends tags.Nothing d o no_err none = refl
works_ends tags.More d o no_err none = none
works_ends (tags.Held by tries) d o no_err none = refl
works_ends (tags.Ok affected found warnings tx auto) d o no_err none = ok_ends affected found warnings tx auto d o none
works_ends (tags.Rows tx auto) d o no_err none = none
works_ends (tags.Err code tx) d o no_err none = absurd no_err

-- ---- the answer

-- the event is an answer where no row clashes; what was done, opened and told of the session is so also where one does
pub record IsAnswer (catalog : Catalog) (limits : Limits) (past : Run) (e : Event) (what : What) : Type 0 where
  pub answers : IsClear catalog past e.deed → Answers catalog limits past e what
  pub done : (stmt : Stmt) × IsDone catalog (shown catalog past) (now_of e past) e.session stmt (session (now_of e past) e.session).owned e.deed
  pub opens : HasNext (next_tx past) e.opens
  pub true_ : IsTold e.told (session (Happened e ∷ past) e.session)

module _ (catalog : Catalog) (limits : Limits) (past : Run) (count : ℕ) (e : Event) (stmt : Stmt) (plan : Plan) (own : Owned) (tx after : TxState) (old new : PortView) (step : IsStepOf catalog limits past count e stmt plan own tx after old new) where
  pub none_ends : (t : Tag) → e.told ≡ t → IsNoErr t → e.ends ≡ ends.Nobody → e.ends ≡ ends_due e.told (kind_of stmt) e.deed (session (now_of e past) e.session).owned
  none_ends t told no_err gone =
      gone
      ∙ sym (ap (λ (k : Kind). ends_due e.told k e.deed (session (now_of e past) e.session).owned) step.works
      ∙ ap (λ (it : Tag). ends_due it Works e.deed (session (now_of e past) e.session).owned) told
      ∙ works_ends t e.deed (session (now_of e past) e.session).owned no_err (none_failed catalog count tx old new e step.happens))

  pub kept_ends : (code : ℕ) → e.told ≡ tags.Err code true → e.ends ≡ ends.Nobody → e.ends ≡ ends_due e.told (kind_of stmt) e.deed (session (now_of e past) e.session).owned
  kept_ends code told gone = gone ∙ sym (ap (λ (it : Tag). ends_due it (kind_of stmt) e.deed (session (now_of e past) e.session).owned) told)

  pub whole_ends : (code : ℕ) → e.told ≡ tags.Err code false → e.ends ≡ ends.Whole after.number → e.ends ≡ ends_due e.told (kind_of stmt) e.deed (session (now_of e past) e.session).owned
  whole_ends code told gone =
      gone ∙ ap (λ (n : ℕ). ends.Whole n) (step.same_number ∙ step.number)
      ∙ sym (ap (λ (it : Tag). ends_due it (kind_of stmt) e.deed (session (now_of e past) e.session).owned) told
      ∙ ap (λ (o : Option Owned). ends_due (tags.Err code false) (kind_of stmt) e.deed o) step.is_own)

  -- the transaction that stays open leaves nothing to be shown
  pub stays_left : (session (Happened e ∷ past) e.session).owned ≡ Some own → (other : Owned) → (session (now_of e past) e.session).owned ≡ Some other → owns (session (Happened e ∷ past) e.session).owned other.number ≡ false
      → HasNothing (state catalog (Happened e ∷ past)) other.number
  stays_left stays other is gone =
      let same : own.number ≡ other.number = ap (λ (o : Owned). o.number) (one_owner (session (now_of e past) e.session).owned own other step.is_own is) in
      absurd (apart (sym (eq-eqb own.number other.number same) ∙ sym (ap (λ (o : Option Owned). owns o other.number) stays) ∙ gone))
    where
      apart : true ≡ false → ⊥
      apart is = cc

  -- and one that doesn't has nothing left
  pub gone_left : HasNothing (state catalog (Happened e ∷ past)) own.number → (other : Owned) → (session (now_of e past) e.session).owned ≡ Some other → owns (session (Happened e ∷ past) e.session).owned other.number ≡ false
      → HasNothing (state catalog (Happened e ∷ past)) other.number
  gone_left nothing other is gone = subst (λ (o : Owned). HasNothing (state catalog (Happened e ∷ past)) o.number) (one_owner (session (now_of e past) e.session).owned own other step.is_own is) nothing

  pub answers_by : (tells : ProgramTold) (what : What) → Turned catalog limits past e stmt plan own tells → e.told ≡ tag_of what → e.ends ≡ ends_due e.told (kind_of stmt) e.deed (session (now_of e past) e.session).owned
      → Allows catalog limits past e e.session stmt (session (now_of e past) e.session) what → IsTold e.told (session (Happened e ∷ past) e.session)
      → ((other : Owned) → (session (now_of e past) e.session).owned ≡ Some other → owns (session (Happened e ∷ past) e.session).owned other.number ≡ false → HasNothing (state catalog (Happened e ∷ past)) other.number)
      → IsAnswer catalog limits past e what
  answers_by tells what turned told gone allowed truly left = record {
    answers = λ clear. record {
      stmt = stmt;
      asked = step.event.asked;
      opens = step.event.opens;
      done = turned.done;
      may = turned.may;
      visit = turned.visit;
      ends = gone;
      steps = over_steps catalog past count tx old new e step.event.shows step.owned step.happens clear;
      told = sym told;
      allowed = allowed;
      true_ = truly;
      left = left;
    };
    done = (stmt, turned.done);
    opens = next_opened past e stmt (session past e.session).owned e.opens step.event.opens;
    true_ = truly;
  }
