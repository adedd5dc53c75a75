-- What the event of a program's step leaves of its statement, and what it may tell of a refusal.
use Rattle.std.proofs.Common.{◌≡◌, ◌∙◌, ◌&&◌, ◌||◌, ℕ, Bool, true, false, not, [], ◌∷◌, Option, Some, None, refl, sym, ap, subst}
use Rattle.std.specs.Option.{is_some}
use Rattle.std.proofs.Math.Bool.{and-false}
use Rattle.vl_values.specs.declared.cause.Cause.{Cause}
use Rattle.vl_catalog.specs.declared.catalog.Catalog.{Catalog}
use Rattle.vl_sql.specs.declared.stmt.Stmt.{Stmt}
use Rattle.vl_port.specs.declared.act.Act.{Act}
use Rattle.vl_port.specs.declared.limits.Limits.{Limits}
use Rattle.vl_port.specs.declared.tx_state.TxState.{TxState}
use Rattle.vl_port.specs.declared.who.Who.{Who}
use Rattle.vl_plan.specs.declared.plan.Plan.{Plan}
use Rattle.vl_statement.specs.declared.program_told.ProgramTold.{ProgramTold}
use Rattle.vl_statement.specs.declared.program_told.ProgramTold.TheVariants as told
use Rattle.vl_statement.specs.Refusing.{refused, refused_whole}
use Rattle.vl_run.specs.declared.deed.Deed.{Deed}
use Rattle.vl_run.specs.declared.deed.Deed.TheVariants as deeds
use Rattle.vl_run.specs.declared.event.Event.{Event}
use Rattle.vl_run.specs.declared.fault.Fault.{Fault}
use Rattle.vl_run.specs.declared.mark.Mark.{Mark}
use Rattle.vl_run.specs.declared.mark.Mark.TheVariants as marks
use Rattle.vl_run.specs.Allowed.{HasCome, IsDone, IsMet, IsUnharmed, IsVisit, Proceeds, now_of}
use Rattle.vl_run.specs.Allowed.IsDone.{DidAct, DidNothing}
use Rattle.vl_run.specs.Allowed.IsVisit.{ByAct, Due as WasDue, Nowhere}
use Rattle.vl_run.specs.Gathered.{shown}
use Rattle.vl_run.specs.Named.{ComesTo, IsMarked, IsNext, Purpose}
use Rattle.vl_run.specs.Progress.{commits, has_written, is_writing, or_written, session, tries, warned, with_commit}
use Rattle.vl_run.specs.Refused.{MayAct, MayDo, Refuses}
use Rattle.vl_run.specs.Run.{Run}
use Rattle.vl_run.specs.Run.Point.{Happened}
use Rattle.vl_run.specs.Session.{Owned, Session, is_kept}
use Rattle.vl_course.specs.Course.{Course, IsTx}
use Rattle.vl_course.specs.Turning.{Due, GoesOn, HasTag, IsOfAct, IsOfStmt, MayTell, Turned}
use Rattle.vl_course.proofs.Behind.{is_act, session_held, session_more, sum_behind, warned_behind}

or_false : (b : Bool) → (b || false) ≡ b
or_false true = refl
or_false false = refl

or_true : (b : Bool) → (b || true) ≡ true
or_true true = refl
or_true false = refl

-- nothing was asked of the port
pub idle_act : (e : Event) (due : Option Due) → IsOfAct e due None → (e.deed ≡ deeds.Nothing) × (e.visits ≡ None) × (e.fault ≡ None)
idle_act e None act = act
idle_act e (Some due) act = act

-- the event did no harm; the statement has written or not, committed nothing, and nothing warns
pub record IsSound (catalog : Catalog) (past : Run) (e : Event) (wrote : Bool) : Type 0 where
  pub fault : e.fault ≡ None
  pub written : has_written (Happened e ∷ past) e.session ≡ wrote
  pub uncommitted : commits (Happened e ∷ past) e.session ≡ 0
  pub unwarned : warned catalog (Happened e ∷ past) e.session ≡ []

pub proceeds_idle : (e : Event) → e.deed ≡ deeds.Nothing → e.fault ≡ None → Proceeds e
proceeds_idle e none fault = record { sound = subst (λ (d : Deed). IsUnharmed d e.fault) (sym none) fault; come = subst HasCome (sym none) tt }

pub proceeds_act : (e : Event) (who : Who) (shard : ℕ) (act : Act) (mark : Mark) → e.deed ≡ deeds.Acts who shard act mark → IsMet mark → e.fault ≡ None → Proceeds e
proceeds_act e who shard act mark deed met fault = record { sound = subst (λ (d : Deed). IsUnharmed d e.fault) (sym deed) fault; come = subst HasCome (sym deed) met }

module _ (catalog : Catalog) (limits : Limits) (past : Run) (e : Event) (stmt : Stmt) (plan : Plan) (own : Owned) (tx : TxState) (times : ℕ) (wrote : Bool) (course : Course catalog limits (now_of e past) e.session stmt plan own tx times wrote) where
  -- ---- what the deed leaves

  pub sound_idle : e.deed ≡ deeds.Nothing → e.fault ≡ None → IsSound catalog past e wrote
  sound_idle none fault = record {
    fault = fault;
    written = sum_behind e past false or_written (λ before. refl) ∙ ap (λ (d : Deed). or_written d (has_written (now_of e past) e.session)) none ∙ course.written;
    uncommitted = sum_behind e past 0 with_commit (λ before. refl) ∙ ap (λ (d : Deed). with_commit d (commits (now_of e past) e.session)) none ∙ course.uncommitted;
    unwarned = warned_behind e past catalog (ap is_act none) ∙ course.unwarned;
  }

  -- also behind a fault
  pub none_committed : e.deed ≡ deeds.Nothing → commits (Happened e ∷ past) e.session ≡ 0
  none_committed none = sum_behind e past 0 with_commit (λ before. refl) ∙ ap (λ (d : Deed). with_commit d (commits (now_of e past) e.session)) none ∙ course.uncommitted

  pub none_warned : e.deed ≡ deeds.Nothing → warned catalog (Happened e ∷ past) e.session ≡ []
  none_warned none = warned_behind e past catalog (ap is_act none) ∙ course.unwarned

  acted : (who : Who) (shard : ℕ) (act : Act) (mark : Mark) (after : Bool) → e.deed ≡ deeds.Acts who shard act mark → e.fault ≡ None → (wrote || is_writing mark) ≡ after → IsSound catalog past e after
  acted who shard act mark after deed fault writes = record {
    fault = fault;
    written = sum_behind e past false or_written (λ before. refl) ∙ ap (λ (d : Deed). or_written d (has_written (now_of e past) e.session)) deed ∙ ap (λ b. b || is_writing mark) course.written ∙ writes;
    uncommitted = sum_behind e past 0 with_commit (λ before. refl) ∙ ap (λ (d : Deed). with_commit d (commits (now_of e past) e.session)) deed ∙ course.uncommitted;
    unwarned = warned_behind e past catalog (ap is_act deed) ∙ course.unwarned;
  }

  -- an act that wrote nothing
  pub sound_read : (who : Who) (shard : ℕ) (act : Act) (mark : Mark) → e.deed ≡ deeds.Acts who shard act mark → is_writing mark ≡ false → e.fault ≡ None → IsSound catalog past e wrote
  sound_read who shard act mark deed reads fault = acted who shard act mark wrote deed fault (ap (λ b. wrote || b) reads ∙ or_false wrote)

  pub sound_write : (who : Who) (shard : ℕ) (act : Act) → e.deed ≡ deeds.Acts who shard act marks.Writes → e.fault ≡ None → IsSound catalog past e true
  sound_write who shard act deed fault = acted who shard act marks.Writes true deed fault (or_true wrote)

  -- ---- refusals

  -- nothing but what was written before keeps the transaction from staying open
  pub tells_refused : (written : Bool) (cause : Cause) (tells : ProgramTold) → IsSound catalog past e written
      → Refuses catalog limits (shown catalog past) past (now_of e past) (Happened e ∷ past) e e.session stmt (session (now_of e past) e.session) cause → tells ≡ refused tx written cause → MayTell catalog limits past e stmt plan own tells
  tells_refused written cause tells sound refuses is =
      let kept : (not tx.single && not written) ≡ is_kept (has_written (Happened e ∷ past) e.session) (is_some e.fault) (Some own) =
      ap (λ s. not s && not written) course.is_tx.single ∙ ap (λ b. not own.single && b) (sym (and_true (not written)))
      ∙ sym (ap (λ w. not own.single && (not w && not (is_some e.fault))) sound.written ∙ ap (λ (f : Option Fault). not own.single && (not written && not (is_some f))) sound.fault) in
      subst (MayTell catalog limits past e stmt plan own) (sym is) (refl, refuses, kept)
    where
      and_true : (b : Bool) → (b && true) ≡ b
      and_true true = refl
      and_true false = refl

  -- and none stays open behind a fault
  pub tells_whole : (cause : Cause) (fault : Fault) (tells : ProgramTold) → e.fault ≡ Some fault
      → Refuses catalog limits (shown catalog past) past (now_of e past) (Happened e ∷ past) e e.session stmt (session (now_of e past) e.session) cause → tells ≡ refused_whole cause → MayTell catalog limits past e stmt plan own tells
  tells_whole cause fault tells met refuses is =
      let written = has_written (Happened e ∷ past) e.session in
      let kept : false ≡ is_kept written (is_some e.fault) (Some own) =
      sym (ap (λ (f : Option Fault). not own.single && (not written && not (is_some f))) met ∙ ap (λ b. not own.single && b) (and-false (not written)) ∙ and-false (not own.single)) in
      subst (MayTell catalog limits past e stmt plan own) (sym is) (refl, refuses, kept)

  -- ---- a statement that goes on

  pub course_behind : (tells : ProgramTold) (tx_new : TxState) (again : ℕ) (written : Bool) → IsOfStmt e.request stmt → GoesOn tells → HasTag tells e.told → IsSound catalog past e written → IsTx limits (Happened e ∷ past) e.session own tx_new → tx_new.auto ≡ tx.auto
      → tries (Happened e ∷ past) e.session ≡ again → Course catalog limits (Happened e ∷ past) e.session stmt plan own tx_new again written
  course_behind tells tx_new again written asks on tag sound is_tx auto tried =
      let same = session_goes tells on tag in
      record {
        doing = ap (λ (s : Session). s.doing) same ∙ course.doing;
        accepted = course.accepted;
        planned = course.planned;
        owned = ap (λ (s : Session). s.owned) same ∙ course.owned;
        auto = auto ∙ course.auto ∙ sym (ap (λ (s : Session). s.auto) same);
        is_tx = is_tx;
        uncommitted = sound.uncommitted;
        tried = tried;
        written = sound.written;
        unwarned = sound.unwarned;
      }
    where
      session_goes : (tells : ProgramTold) → GoesOn tells → HasTag tells e.told → session (Happened e ∷ past) e.session ≡ session (now_of e past) e.session
      session_goes told.More on tag = session_more e past stmt asks tag
      session_goes (told.Held by key count) on tag = session_held e past stmt by count asks tag
      session_goes (told.Reply reply) on tag = absurd on

  -- ---- the event

  pub turned_idle : (tells : ProgramTold) → e.deed ≡ deeds.Nothing → e.visits ≡ None → MayTell catalog limits past e stmt plan own tells → Turned catalog limits past e stmt plan own tells
  turned_idle tells none visits so = record {
    done = subst (IsDone catalog (shown catalog past) (now_of e past) e.session stmt (session (now_of e past) e.session).owned) (sym none) DidNothing;
    may = subst (MayDo limits (now_of e past)) (sym none) tt;
    visit = subst (λ (v : Option ℕ). IsVisit catalog (shown catalog past) (now_of e past) e.session stmt (session (now_of e past) e.session).owned e.deed v) (sym visits)
        (subst (λ (d : Deed). IsVisit catalog (shown catalog past) (now_of e past) e.session stmt (session (now_of e past) e.session).owned d None) (sym none) Nowhere);
    told = so;
  }

  module _ (purpose : Purpose) (who : Who) (shard : ℕ) (act : Act) (next : IsNext catalog (shown catalog past) (now_of e past) e.session stmt (Some own) purpose who shard act) where
    pub next_owned : IsNext catalog (shown catalog past) (now_of e past) e.session stmt (session (now_of e past) e.session).owned purpose who shard act
    next_owned = subst (λ (o : Option Owned). IsNext catalog (shown catalog past) (now_of e past) e.session stmt o purpose who shard act) (sym course.owned) next

    pub turned_act : (tells : ProgramTold) (mark : Mark) → e.deed ≡ deeds.Acts who shard act mark → e.visits ≡ Some shard → ComesTo purpose mark → IsMarked (shown catalog past) who act mark → MayAct limits (now_of e past) who shard act
        → MayTell catalog limits past e stmt plan own tells → Turned catalog limits past e stmt plan own tells
    turned_act tells mark deed visits comes marked may so = record {
      done = subst (IsDone catalog (shown catalog past) (now_of e past) e.session stmt (session (now_of e past) e.session).owned) (sym deed) (DidAct purpose who shard act mark next_owned comes marked);
      may = subst (MayDo limits (now_of e past)) (sym deed) may;
      visit = subst (λ (v : Option ℕ). IsVisit catalog (shown catalog past) (now_of e past) e.session stmt (session (now_of e past) e.session).owned e.deed v) (sym visits)
          (subst (λ (d : Deed). IsVisit catalog (shown catalog past) (now_of e past) e.session stmt (session (now_of e past) e.session).owned d (Some shard)) (sym deed) (ByAct who shard act mark));
      told = so;
    }

    -- an act that was due and is lost
    pub turned_lost : (tells : ProgramTold) → e.deed ≡ deeds.Nothing → e.visits ≡ Some shard → MayTell catalog limits past e stmt plan own tells → Turned catalog limits past e stmt plan own tells
    turned_lost tells none visits so = record {
      done = subst (IsDone catalog (shown catalog past) (now_of e past) e.session stmt (session (now_of e past) e.session).owned) (sym none) DidNothing;
      may = subst (MayDo limits (now_of e past)) (sym none) tt;
      visit = subst (λ (v : Option ℕ). IsVisit catalog (shown catalog past) (now_of e past) e.session stmt (session (now_of e past) e.session).owned e.deed v) (sym visits)
          (subst (λ (d : Deed). IsVisit catalog (shown catalog past) (now_of e past) e.session stmt (session (now_of e past) e.session).owned d (Some shard)) (sym none) (WasDue purpose who shard act next_owned));
      told = so;
    }
