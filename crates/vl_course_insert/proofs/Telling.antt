-- What a step of an INSERT may tell, and where it leaves the statement.
use Rattle.std.proofs.Common.{◌≡◌, ◌∙◌, ◌<◌, ◌^◌, ◌||◌, ℕ, Bool, true, false, not, ◌∷◌, inl, inr, Option, Some, None, refl, sym, ap, subst}
use Rattle.std.specs.Prelude.{nat_lt}
use Rattle.vl_values.specs.declared.cause.Cause.{Cause}
use Rattle.vl_values.specs.declared.group.Group.{Group}
use Rattle.vl_catalog.specs.declared.catalog.Catalog.{Catalog}
use Rattle.vl_rules.specs.Order.{Checked}
use Rattle.vl_sql.specs.declared.stmt.Stmt.{Stmt}
use Rattle.vl_port.specs.declared.act.Act.{Act}
use Rattle.vl_port.specs.declared.limits.Limits.{Limits}
use Rattle.vl_port.specs.declared.tx_state.TxState.{TxState}
use Rattle.vl_port.specs.declared.who.Who.{Who}
use Rattle.vl_port.specs.Transaction.{session_of}
use Rattle.vl_plan.specs.declared.insert_plan.InsertPlan.{InsertPlan}
use Rattle.vl_plan.specs.declared.plan.Plan.{Plan}
use Rattle.vl_plan.specs.declared.plan.Plan.TheVariants as plans
use Rattle.vl_statement.specs.declared.program_told.ProgramTold.{ProgramTold}
use Rattle.vl_statement.specs.declared.program_told.ProgramTold.TheVariants as told
use Rattle.vl_statement.specs.Refusing.{IsRefusedFor, refused, refused_whole}
use Rattle.vl_insert.specs.declared.task.Task.{Task}
use Rattle.vl_insert.specs.Answering.{Goes, TellsNext, reply_of}
use Rattle.vl_insert.specs.Making.{IsMade}
use Rattle.vl_insert.specs.Progress.{Progress}
use Rattle.vl_run.specs.declared.deed.Deed.TheVariants as deeds
use Rattle.vl_run.specs.declared.event.Event.{Event}
use Rattle.vl_run.specs.declared.fault.Fault.{Fault}
use Rattle.vl_run.specs.declared.mark.Mark.{Mark}
use Rattle.vl_run.specs.declared.mark.Mark.TheVariants as marks
use Rattle.vl_run.specs.Allowed.{Proceeds, now_of}
use Rattle.vl_run.specs.Gathered.{shown}
use Rattle.vl_run.specs.Named.{ComesTo, IsMarked, IsNext, Purpose}
use Rattle.vl_run.specs.Progress.{changes, is_writing, session, tries}
use Rattle.vl_run.specs.Refused.{IsUncrossed, MayAct, Refuses, is_write}
use Rattle.vl_run.specs.Refused.Refuses.{Memory}
use Rattle.vl_run.specs.Run.{Run, was_killed}
use Rattle.vl_run.specs.Run.Point.{Happened}
use Rattle.vl_run.specs.Session.{Owned}
use Rattle.vl_course.specs.Course.{Course, IsTx}
use Rattle.vl_course.specs.Turning.{GoesOn, HasTag, IsOfStmt, MayTell}
use Rattle.vl_course.proofs.Behind.{tries_more}
use Rattle.vl_course.proofs.Events.{IsSound, course_behind, none_committed, none_warned, sound_idle, sound_read, sound_write, tells_refused, tells_whole, turned_act, turned_idle, turned_lost}
use Rattle.vl_course.proofs.Kills.{spared_now}
use Rattle.vl_course.proofs.Listed.{tx_idle}
use Rattle.vl_course_insert.specs.Inserting.{InsertTurned, IsInsertAt}
use Rattle.vl_course_insert.proofs.Tasks.{insert_counted, insert_unworked, insert_within, insert_worked}

-- what was written and is written now
pub or_true : (b : Bool) → true ≡ (b || true)
or_true true = refl
or_true false = refl

pub or_false : (b : Bool) → b ≡ (b || false)
or_false true = refl
or_false false = refl

-- a program that stands where the run says, before a step
pub record IsStart (catalog : Catalog) (limits : Limits) (past : Run) (e : Event) (stmt : Stmt) (plan : InsertPlan) (own : Owned) (tx : TxState) (p : Progress) : Type 0 where
  pub checked : Checked catalog
  pub course : Course catalog limits (now_of e past) e.session stmt (plans.Insert plan) own tx p.tries p.wrote
  pub at : IsInsertAt catalog limits (now_of e past) e.session plan p
  pub count : ℕ
  pub made : IsMade catalog count limits.tries p
  pub fits : limits.changes < 2 ^ 32
  pub asks : IsOfStmt e.request stmt

-- a refusal that the run allows
abbrev pub IsRefusal : Catalog → Limits → Run → Event → Stmt → Cause → Type 0
IsRefusal catalog limits past e stmt cause = Refuses catalog limits (shown catalog past) past (now_of e past) (Happened e ∷ past) e e.session stmt (session (now_of e past) e.session) cause

-- the act that the statement names next, for some purpose; it may come to nothing but an open session
pub record IsNamed (catalog : Catalog) (past : Run) (e : Event) (stmt : Stmt) (own : Owned) (who : Who) (shard : ℕ) (act : Act) : Type 0 where
  pub purpose : Purpose
  pub next : IsNext catalog (shown catalog past) (now_of e past) e.session stmt (Some own) purpose who shard act
  pub opens : IsMarked (shown catalog past) who act marks.Opens

module _ {catalog : Catalog} {limits : Limits} {past : Run} {e : Event} {stmt : Stmt} {plan : InsertPlan} {own : Owned} {tx : TxState} {p : Progress} (s : IsStart catalog limits past e stmt plan own tx p) where
  abbrev the_plan : Plan
  the_plan = plans.Insert plan

  abbrev Tells : ProgramTold → Type 0
  Tells tells = MayTell catalog limits past e stmt the_plan own tells

  pub limit_same : tx.limits.changes ≡ limits.changes
  limit_same = ap (λ (l : Limits). l.changes) s.course.is_tx.limits

  pub count_as : nat_lt (changes (now_of e past) tx.number) limits.changes ≡ nat_lt tx.changes tx.limits.changes
  count_as =
      ap (λ (k : ℕ). nat_lt (changes (now_of e past) k) limits.changes) s.course.is_tx.number ∙ ap (λ (k : ℕ). nat_lt k limits.changes) (sym s.course.is_tx.changes) ∙ ap (nat_lt tx.changes) (sym limit_same)

  -- what is told, and where the program stands if it goes on
  pub record IsLeft (written : Bool) (tells : ProgramTold) (new : Progress) : Type 0 where
    pub tells_so : Tells tells
    pub stands : GoesOn tells → IsInsertAt catalog limits (Happened e ∷ past) e.session plan new
    pub tried : GoesOn tells → HasTag tells e.told → tries (Happened e ∷ past) e.session ≡ new.tries
    pub wrote : GoesOn tells → written ≡ new.wrote

  pub over_left : (written : Bool) (tells : ProgramTold) (new : Progress) → Tells tells → (GoesOn tells → ⊥) → IsLeft written tells new
  over_left written tells new so over = record { tells_so = so; stands = λ on. absurd (over on); tried = λ on tag. absurd (over on); wrote = λ on. absurd (over on) }

  pub refused_left : (written : Bool) (cause : Cause) (tells : ProgramTold) (new : Progress) → IsSound catalog past e written → IsRefusal catalog limits past e stmt cause → tells ≡ refused tx written cause
      → IsLeft written tells new
  refused_left written cause tells new sound refuses is =
      over_left written tells new (tells_refused catalog limits past e stmt the_plan own tx p.tries p.wrote s.course written cause tells sound refuses is) (λ on. subst GoesOn is on)

  -- the cause, or want of memory for its text
  pub caused_left : (written : Bool) (cause : Cause) (tells : ProgramTold) (new : Progress) → IsSound catalog past e written → IsRefusal catalog limits past e stmt cause → IsRefusedFor tx written tells cause
      → IsLeft written tells new
  caused_left written cause tells new sound refuses (inl full) = refused_left written _ tells new sound Memory full
  caused_left written cause tells new sound refuses (inr is) = refused_left written cause tells new sound refuses is

  -- ---- the end

  pub replied : (q : Progress) (tells : ProgramTold) → IsInsertAt catalog limits (Happened e ∷ past) e.session plan q → Proceeds e → q.task ≡ None → tells ≡ reply_of tx q → Tells tells
  replied q tells at proceeds none is =
      let worked = insert_worked at none in
      subst Tells (sym is) (
        record {
          worked = worked;
          within = insert_within at stmt;
          proceeds = proceeds;
          left_open = ap not s.course.is_tx.single;
          auto = s.course.auto;
        },
        (insert_counted at worked, refl),
        refl,
      )

  -- ---- the next action

  -- an act is left
  pub on_left : (written : Bool) (q : Progress) (tells : ProgramTold) (new : Progress) (task : Task) → q.task ≡ Some task → q.tries ≡ 0 → written ≡ q.wrote → IsInsertAt catalog limits (Happened e ∷ past) e.session plan q
      → Proceeds e → tells ≡ told.More → new ≡ q
      → IsLeft written tells new
  on_left written q tells new task is fresh writes at proceeds goes same = record {
    tells_so = subst Tells (sym goes) (proceeds, insert_within at stmt, insert_unworked at task is);
    stands = λ on. subst (IsInsertAt catalog limits (Happened e ∷ past) e.session plan) (sym same) at;
    tried = λ on tag. tries_more e past (subst (λ (t : ProgramTold). HasTag t e.told) goes tag) ∙ sym (ap (λ (it : Progress). it.tries) same ∙ fresh);
    wrote = λ on. writes ∙ sym (ap (λ (it : Progress). it.wrote) same);
  }

  next_left : (written : Bool) (q : Progress) (tells : ProgramTold) (new : Progress) (next : Option Task) → q.task ≡ next → q.tries ≡ 0 → written ≡ q.wrote → IsInsertAt catalog limits (Happened e ∷ past) e.session plan q
      → Proceeds e → TellsNext tx next q tells → new ≡ q
      → IsLeft written tells new
  next_left written q tells new None is fresh writes at proceeds ends same = over_left written tells new (replied q tells at proceeds is ends) (λ on. subst GoesOn ends on)
  next_left written q tells new (Some task) is fresh writes at proceeds goes same = on_left written q tells new task is fresh writes at proceeds goes same

  pub goes_left : (written : Bool) (q : Progress) (tells : ProgramTold) (new : Progress) → q.tries ≡ 0 → written ≡ q.wrote → IsInsertAt catalog limits (Happened e ∷ past) e.session plan q → Proceeds e → Goes tx q tells new
      → IsLeft written tells new
  goes_left written q tells new fresh writes at proceeds goes = next_left written q tells new q.task refl fresh writes at proceeds goes.0 goes.1

  -- ---- the event

  pub still_sound : e.deed ≡ deeds.Nothing → e.fault ≡ None → IsSound catalog past e p.wrote
  still_sound none fault = sound_idle catalog limits past e stmt the_plan own tx p.tries p.wrote s.course none fault

  -- one without a deed
  pub idle_turned : (tells : ProgramTold) (new : Progress) (tx_new : TxState) → e.deed ≡ deeds.Nothing → e.visits ≡ None → e.fault ≡ None → tx_new ≡ tx → HasTag tells e.told → IsLeft p.wrote tells new
      → InsertTurned catalog limits past e stmt plan own tells new tx_new
  idle_turned tells new tx_new none visits fault same tag left =
      let is_tx : IsTx limits (Happened e ∷ past) e.session own tx_new = subst (IsTx limits (Happened e ∷ past) e.session own) (sym same) (tx_idle limits e past e.session own tx s.course.is_tx none) in
      let sound = still_sound none fault in
      record {
        turned = turned_idle catalog limits past e stmt the_plan own tx p.tries p.wrote s.course tells none visits left.tells_so;
        uncommitted = sound.uncommitted;
        unwarned = sound.unwarned;
        left = λ harmless. is_tx;
        course = λ on.
            subst (Course catalog limits (Happened e ∷ past) e.session stmt the_plan own tx_new new.tries) (left.wrote on)
            (course_behind catalog limits past e stmt the_plan own tx p.tries p.wrote s.course tells tx_new new.tries p.wrote s.asks on tag sound is_tx (ap (λ (t : TxState). t.auto) same) (left.tried on tag));
        stands = left.stands;
      }

  module _ (group : Group) (shard : ℕ) (act : Act) where
    pub read_sound : (mark : Mark) → e.deed ≡ deeds.Acts (session_of tx group) shard act mark → is_writing mark ≡ false → e.fault ≡ None → IsSound catalog past e p.wrote
    read_sound mark did reads fault = sound_read catalog limits past e stmt the_plan own tx p.tries p.wrote s.course (session_of tx group) shard act mark did reads fault

    pub write_sound : e.deed ≡ deeds.Acts (session_of tx group) shard act marks.Writes → e.fault ≡ None → IsSound catalog past e true
    write_sound did fault = sound_write catalog limits past e stmt the_plan own tx p.tries p.wrote s.course (session_of tx group) shard act did fault

    -- whether the act may be done at all
    pub record IsFree : Type 0 where
      pub room : is_write act ≡ true → nat_lt tx.changes tx.limits.changes ≡ true
      pub uncrossed : IsUncrossed (now_of e past) tx.number (Some group) act

    may_act : IsFree → was_killed past (session_of tx group) shard ≡ false → MayAct limits (now_of e past) (session_of tx group) shard act
    may_act free spared = record {
      spared = spared_now e past stmt s.asks (session_of tx group) shard spared;
      within = λ write. count_as ∙ free.room write;
      uncrossed = free.uncrossed;
    }

    -- one whose act was done
    pub acted_turned : (written : Bool) (tells : ProgramTold) (new : Progress) (tx_new : TxState) (mark : Mark) (purpose : Purpose)
        → IsNext catalog (shown catalog past) (now_of e past) e.session stmt (Some own) purpose (session_of tx group) shard act
        → IsMarked (shown catalog past) (session_of tx group) act mark → e.deed ≡ deeds.Acts (session_of tx group) shard act mark → e.visits ≡ Some shard → ComesTo purpose mark → IsFree
        → was_killed past (session_of tx group) shard ≡ false
        → IsSound catalog past e written → IsTx limits (Happened e ∷ past) e.session own tx_new → tx_new.auto ≡ tx.auto → HasTag tells e.told → IsLeft written tells new
        → InsertTurned catalog limits past e stmt plan own tells new tx_new
    acted_turned written tells new tx_new mark purpose next marked did visits comes free spared sound is_tx auto tag left = record {
      turned = turned_act catalog limits past e stmt the_plan own tx p.tries p.wrote s.course purpose (session_of tx group) shard act next tells mark did visits comes marked (may_act free spared) left.tells_so;
      uncommitted = sound.uncommitted;
      unwarned = sound.unwarned;
      left = λ harmless. is_tx;
      course = λ on.
          subst (Course catalog limits (Happened e ∷ past) e.session stmt the_plan own tx_new new.tries) (left.wrote on)
          (course_behind catalog limits past e stmt the_plan own tx p.tries p.wrote s.course tells tx_new new.tries written s.asks on tag sound is_tx auto (left.tried on tag));
      stands = left.stands;
    }

    -- one in which a session or a device was lost
    pub lost_turned : (tells : ProgramTold) (new : Progress) (tx_new : TxState) (cause : Cause) (fault : Fault) → IsNamed catalog past e stmt own (session_of tx group) shard act → e.deed ≡ deeds.Nothing
        → e.visits ≡ Some shard → e.fault ≡ Some fault
        → IsRefusal catalog limits past e stmt cause → tells ≡ refused_whole cause → InsertTurned catalog limits past e stmt plan own tells new tx_new
    lost_turned tells new tx_new cause fault named none visits met refuses is =
        let so = tells_whole catalog limits past e stmt the_plan own tx p.tries p.wrote s.course cause fault tells met refuses is in
        record {
          turned = turned_lost catalog limits past e stmt the_plan own tx p.tries p.wrote s.course named.purpose (session_of tx group) shard act named.next tells none visits so;
          uncommitted = none_committed catalog limits past e stmt the_plan own tx p.tries p.wrote s.course none;
          unwarned = none_warned catalog limits past e stmt the_plan own tx p.tries p.wrote s.course none;
          left = λ harmless. absurd (some_fault (sym met ∙ harmless));
          course = λ on. absurd (subst GoesOn is on);
          stands = λ on. absurd (subst GoesOn is on);
        }
      where
        some_fault : Some fault ≡ None → ⊥
        some_fault same = cc
