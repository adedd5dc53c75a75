-- A step of a SELECT's program is an event that the run allows.
use Rattle.std.proofs.Common.{◌≡◌, ◌∙◌, ◌==◌, ◌≤◌, ◌<◌, ◌+◌, ◌++◌, if◌then◌else◌, ℕ, Bool, true, false, not, List, [], ◌∷◌, length, inl, inr, Option, Some, None, Contains, refl, sym, ap, subst, arith}
use Rattle.std.specs.Prelude.{IsTrue, ◌↔◌, nat_lt}
use Rattle.std.specs.List.{list_any}
use Rattle.std.specs.Option.{option_map}
use Rattle.std.proofs.lemmas.Bool.{ltb-false, ltb-true, true≢false}
use Rattle.vl_values.specs.declared.cause.Cause.{Cause}
use Rattle.vl_values.specs.declared.cause.Cause.TheVariants as causes
use Rattle.vl_values.specs.declared.group.Group.{Group}
use Rattle.vl_values.specs.declared.group.Group.TheVariants.{Pre, Main, Post}
use Rattle.vl_values.specs.declared.key.Key.{Key}
use Rattle.vl_values.specs.declared.limit.Limit.{Limit as Quantity}
use Rattle.vl_values.specs.declared.lost_why.LostWhy.{LostWhy}
use Rattle.vl_values.specs.declared.lost_why.LostWhy.TheVariants as why
use Rattle.vl_values.specs.declared.pred.Pred.{Pred}
use Rattle.vl_catalog.specs.declared.catalog.Catalog.{Catalog}
use Rattle.vl_sql.specs.declared.stmt.Stmt.{Stmt}
use Rattle.vl_port.specs.declared.act.Act.{Act}
use Rattle.vl_port.specs.declared.act.Act.TheVariants.{Find}
use Rattle.vl_port.specs.declared.answer.Answer.{Answer}
use Rattle.vl_port.specs.declared.answer.Answer.TheVariants.{Done, Unchanged, Rows as Given, Found, Held, Lost, Device, Limit, Memory as NoMemory}
use Rattle.vl_port.specs.declared.limits.Limits.{Limits}
use Rattle.vl_port.specs.declared.outcome.Outcome.{Outcome}
use Rattle.vl_port.specs.declared.tx_state.TxState.{TxState}
use Rattle.vl_port.specs.declared.who.Who.{Who}
use Rattle.vl_port.specs.Asking.{IsListed, Lists as ListsOf, reader_in}
use Rattle.vl_port.specs.Calls.{HasActed, PortView}
use Rattle.vl_port.specs.Outcomes.{outcome_of}
use Rattle.vl_port.specs.Taking.{takes_keys}
use Rattle.vl_port.specs.Transaction.{listed, session_of}
use Rattle.vl_port.specs.View.{Values}
use Rattle.vl_plan.specs.declared.plan.Plan.TheVariants as plans
use Rattle.vl_plan.specs.declared.projection.Projection.{Projection}
use Rattle.vl_plan.specs.declared.projection.Projection.TheVariants as projections
use Rattle.vl_plan.specs.declared.select_plan.SelectPlan.{SelectPlan}
use Rattle.vl_plan.specs.declared.sort.Sort.{Sort}
use Rattle.vl_statement.specs.declared.program_told.ProgramTold.{ProgramTold}
use Rattle.vl_statement.specs.declared.tally.Tally.{Tally}
use Rattle.vl_statement.specs.Refusing.{OrNoMemory, device_failed, lock_wait, read_lost, refused, refused_whole, session_lost}
use Rattle.vl_statement.specs.Waiting.{WaitsOn}
use Rattle.vl_select.specs.Answering.{Answered, Answers, Ends, Goes, GoesTo, Takes, TakesOf, loss}
use Rattle.vl_select.specs.Columns.{columns_of}
use Rattle.vl_select.specs.Making.{IsMade}
use Rattle.vl_select.specs.Progress.{Action, Progress, due, kept, passed, with_entries, with_rows, with_try}
use Rattle.vl_select.specs.Results.{IsResultOf}
use Rattle.vl_select.specs.Sorting.{AreInOrder}
use Rattle.vl_select.specs.Stepping.{Idle, Locked, Looked, NoRoom, Stepped}
use Rattle.vl_select.proofs.Dues.{due_is, shard_left}
use Rattle.vl_run.specs.declared.deed.Deed.TheVariants as deeds
use Rattle.vl_run.specs.declared.event.Event.{Event}
use Rattle.vl_run.specs.declared.fault.Fault.{Fault}
use Rattle.vl_run.specs.declared.fault.Fault.TheVariants as faults
use Rattle.vl_run.specs.declared.mark.Mark.{Mark}
use Rattle.vl_run.specs.declared.mark.Mark.TheVariants as marks
use Rattle.vl_run.specs.Allowed.{IsMet, IsResult, Proceeds, now_of}
use Rattle.vl_run.specs.Allowed.IsResult.{Selected}
use Rattle.vl_run.specs.Gathered.{ReadsBy, Rows, shown}
use Rattle.vl_run.specs.Named.{ComesTo, IsMarked, IsNext, Purpose}
use Rattle.vl_run.specs.Progress.{is_writing, session, tries}
use Rattle.vl_run.specs.Refused.{IsHeld, IsUncrossed, MayAct, MayBeLost, Refuses, nothing_read}
use Rattle.vl_run.specs.Refused.Refuses.{Failed, Lost as WasLost, LostRead, Memory, Spent, TooMany, Waits}
use Rattle.vl_run.specs.Run.{Run, was_killed}
use Rattle.vl_run.specs.Run.Point.{Happened}
use Rattle.vl_run.specs.Session.{Owned}
use Rattle.vl_course.specs.Answered.{IsAnswered}
use Rattle.vl_course.specs.Course.{Course, IsTx}
use Rattle.vl_course.specs.Selecting.{IsSelectAt, SelectTurned, due_as, due_of, mark_of, reader_of}
use Rattle.vl_course.specs.Turning.{Due, GoesOn, HasTag, IsOfAct, IsOfStmt, IsStep, MayTell}
use Rattle.vl_course.proofs.Behind.{tries_held, tries_more}
use Rattle.vl_course.proofs.Events.{IsSound, course_behind, idle_act, next_owned, none_committed, none_warned, proceeds_act, proceeds_idle, sound_idle, sound_read, tells_refused, tells_whole, turned_act, turned_idle, turned_lost}
use Rattle.vl_course.proofs.Kills.{loss_now, spared_now}
use Rattle.vl_course.proofs.Listed.{IsKept, IsListedAs, among_as, kept_listed, kept_same, reader_listed, session_listed, tx_idle, tx_read}
use Rattle.vl_course.proofs.Moves.{passed_by, rows_more, says_idle, says_opened, select_looked, select_read, select_stays, select_tried}
use Rattle.vl_course.proofs.Named.{IsNamed, is_named}
use Rattle.vl_course.proofs.Planned.{count_unsorted, is_counting, planned_counts}
use Rattle.vl_course.proofs.Reading.{has_worked, is_within, not_worked, passed_over, tallied_rows}

-- ---- what is told of the rows

-- a count keeps no rows, and has none to put in order
result_of : (what : Projection) (sorts : List Sort) (limit : Option ℕ) (found : ℕ) (rows : Rows) (result : List Values) → (what ≡ projections.Count → sorts ≡ []) → IsResultOf what sorts limit found (kept what rows) result → IsResultOf what sorts limit found rows result
result_of projections.All sorts limit found rows result unsorted is = is
result_of projections.Count sorts limit found rows result unsorted is = (rows, subst (λ (s : List Sort). AreInOrder s rows rows) (sym (unsorted refl)) refl, is.2)
result_of (projections.Columns columns) sorts limit found rows result unsorted is = is

-- ---- a read's deed

-- what a read may do is no write
not_crossed : (now : Run) (tx : ℕ) (group : Option Group) (pred : Pred) (locking : Bool) → IsUncrossed now tx group (Find pred locking)
not_crossed now tx None pred locking = tt
not_crossed now tx (Some Pre) pred locking = tt
not_crossed now tx (Some Main) pred locking = tt
not_crossed now tx (Some Post) pred locking = tt

may_find : (limits : Limits) (now : Run) (who : Who) (shard : ℕ) (act : Act) (pred : Pred) (locking : Bool) → act ≡ Find pred locking → was_killed now who shard ≡ false → MayAct limits now who shard act
may_find limits now who shard act pred locking finds spared =
    subst (MayAct limits now who shard) (sym finds) (record { spared = spared; within = λ write. absurd (cc); uncrossed = not_crossed now who.tx who.group pred locking })

module _ (catalog : Catalog) (limits : Limits) (past : Run) (e : Event) (stmt : Stmt) (plan : SelectPlan) (own : Owned) (tx : TxState) (p : Progress) (count : ℕ)
    (course : Course catalog limits (now_of e past) e.session stmt (plans.Select plan) own tx p.tries false) (at : IsSelectAt catalog limits (now_of e past) e.session plan p) (made : IsMade catalog count limits.tries p)
    (asks : IsOfStmt e.request stmt) where
  abbrev Tells : ProgramTold → Type 0
  Tells tells = MayTell catalog limits past e stmt (plans.Select plan) own tells

  abbrev IsRefusal : Cause → Type 0
  IsRefusal cause = Refuses catalog limits (shown catalog past) past (now_of e past) (Happened e ∷ past) e e.session stmt (session (now_of e past) e.session) cause

  abbrev Sound : Type 0
  Sound = IsSound catalog past e false

  tells_not : (cause : Cause) (tells : ProgramTold) → Sound → IsRefusal cause → tells ≡ refused tx false cause → Tells tells
  tells_not cause tells sound refuses is = tells_refused catalog limits past e stmt (plans.Select plan) own tx p.tries false course false cause tells sound refuses is

  still_sound : e.deed ≡ deeds.Nothing → e.fault ≡ None → Sound
  still_sound none fault = sound_idle catalog limits past e stmt (plans.Select plan) own tx p.tries false course none fault

  -- ---- the end of the reads

  -- the program where the reads of the event are behind it
  record IsNow (q : Progress) : Type 0 where
    there : IsSelectAt catalog limits (Happened e ∷ past) e.session plan q
    looked : q.looked ≤ length q.entries
    read : q.read ≤ length q.shards

  answered : (q : Progress) (tells : ProgramTold) → IsNow q → Sound → Proceeds e → due q ≡ None → Answers catalog tx q tells → Tells tells
  answered q tells now sound proceeds none answers =
      let rows = now.there.gathered.rows in
      let found : q.tally.rows ≡ length rows = ap (λ t. t.rows) now.there.gathered.tallied ∙ tallied_rows q.what rows in
      let kept_rows : IsResultOf q.what q.sorts q.limit (length rows) (kept q.what rows) answers.0 =
      subst (λ k. IsResultOf q.what q.sorts q.limit k (kept q.what rows) answers.0) found (subst (λ (rs : Rows). IsResultOf q.what q.sorts q.limit q.tally.rows rs answers.0) now.there.gathered.kept answers.1) in
      let planned_rows : IsResultOf plan.what plan.sorts plan.limit (length rows) (kept plan.what rows) answers.0 =
      subst (λ (w : Projection). IsResultOf w plan.sorts plan.limit (length rows) (kept w rows) answers.0) now.there.what
      (subst (λ (s : List Sort). IsResultOf q.what s plan.limit (length rows) (kept q.what rows) answers.0) now.there.sorts
      (subst (λ (l : Option ℕ). IsResultOf q.what q.sorts l (length rows) (kept q.what rows) answers.0) now.there.limit kept_rows)) in
      let result : IsResult catalog (Happened e ∷ past) e.session stmt (session (now_of e past) e.session) (plans.Select plan) (columns_of catalog plan.pred.table plan.what) answers.0 =
      Selected plan rows answers.0 now.there.gathered.gathered
      (result_of plan.what plan.sorts plan.limit (length rows) rows answers.0 (count_unsorted catalog stmt plan course.planned course.accepted) planned_rows) in
      let columns : columns_of catalog plan.pred.table plan.what ≡ columns_of catalog q.table q.what =
      sym (ap (λ (t : ℕ). columns_of catalog t q.what) now.there.table ∙ ap (columns_of catalog plan.pred.table) now.there.what) in
      subst Tells (sym answers.2) (
        record {
          worked = has_worked catalog limits (Happened e ∷ past) e.session plan q now.there now.looked now.read none;
          within = is_within catalog limits (Happened e ∷ past) e.session plan q now.there stmt course.planned;
          proceeds = proceeds;
          left_open = ap not course.is_tx.single;
          auto = course.auto;
        },
        subst (λ cs. IsResult catalog (Happened e ∷ past) e.session stmt (session (now_of e past) e.session) (plans.Select plan) cs answers.0) columns result,
      )

  ended : (q : Progress) (tells : ProgramTold) → IsNow q → Sound → Proceeds e → due q ≡ None → Ends catalog tx q tells → Tells tells
  ended q tells now sound proceeds none (inl refused) = tells_not causes.OutOfMemory tells sound Memory refused
  ended q tells now sound proceeds none (inr answers) = answered q tells now sound proceeds none answers

  over_then : (q : Progress) (tells : ProgramTold) → Ends catalog tx q tells → GoesOn tells → ⊥
  over_then q tells (inl refused) goes = subst GoesOn refused goes
  over_then q tells (inr answers) goes = subst GoesOn answers.2 goes

  -- ---- the next read

  -- what is told, and where the program stands if it goes on
  record IsLeft (tells : ProgramTold) (new : Progress) : Type 0 where
    tells_so : Tells tells
    stands : GoesOn tells → IsSelectAt catalog limits (Happened e ∷ past) e.session plan new
    tried : GoesOn tells → HasTag tells e.told → tries (Happened e ∷ past) e.session ≡ new.tries

  over_left : (tells : ProgramTold) (new : Progress) → Tells tells → (GoesOn tells → ⊥) → IsLeft tells new
  over_left tells new so over = record { tells_so = so; stands = λ on. absurd (over on); tried = λ on tag. absurd (over on) }

  refused_left : (cause : Cause) (tells : ProgramTold) (new : Progress) → Sound → IsRefusal cause → tells ≡ refused tx false cause → IsLeft tells new
  refused_left cause tells new sound refuses is = over_left tells new (tells_not cause tells sound refuses is) (λ on. subst GoesOn is on)

  goes_to : (q : Progress) (tells : ProgramTold) (new : Progress) (next : Option Action) → due q ≡ next → q.tries ≡ 0 → IsNow q → Sound → Proceeds e → GoesTo catalog tx next q tells new → IsLeft tells new
  goes_to q tells new None is fresh now sound proceeds ends = over_left tells new (ended q tells now sound proceeds is ends) (over_then q tells ends)
  goes_to q tells new (Some action) is fresh now sound proceeds goes = record {
    tells_so = subst Tells (sym goes.0)
        (proceeds, is_within catalog limits (Happened e ∷ past) e.session plan q now.there stmt course.planned, not_worked catalog limits (Happened e ∷ past) e.session plan q now.there action is);
    stands = λ on. subst (IsSelectAt catalog limits (Happened e ∷ past) e.session plan) (sym goes.1) now.there;
    tried = λ on tag. tries_more e past (subst (λ (t : ProgramTold). HasTag t e.told) goes.0 tag) ∙ sym (ap (λ (q : Progress). q.tries) goes.1 ∙ fresh);
  }

  goes_left : (q : Progress) (tells : ProgramTold) (new : Progress) → q.tries ≡ 0 → IsNow q → Sound → Proceeds e → OrNoMemory tx false tells (Goes catalog tx q tells new) → IsLeft tells new
  goes_left q tells new fresh now sound proceeds (inl refused) = refused_left causes.OutOfMemory tells new sound Memory refused
  goes_left q tells new fresh now sound proceeds (inr goes) = goes_to q tells new (due q) refl fresh now sound proceeds goes

  -- ---- an event without a deed

  idle_turned : (tells : ProgramTold) (new : Progress) (tx_new : TxState) → e.deed ≡ deeds.Nothing → e.visits ≡ None → e.fault ≡ None → tx_new ≡ tx → HasTag tells e.told → IsLeft tells new → SelectTurned catalog limits past e stmt plan own tells new tx_new
  idle_turned tells new tx_new none visits fault same tag left =
      let is_tx : IsTx limits (Happened e ∷ past) e.session own tx_new = subst (IsTx limits (Happened e ∷ past) e.session own) (sym same) (tx_idle limits e past e.session own tx course.is_tx none) in
      let sound = still_sound none fault in
      record {
        turned = turned_idle catalog limits past e stmt (plans.Select plan) own tx p.tries false course tells none visits left.tells_so;
        uncommitted = sound.uncommitted;
        unwarned = sound.unwarned;
        left = λ harmless. is_tx;
        course = λ on. course_behind catalog limits past e stmt (plans.Select plan) own tx p.tries false course tells tx_new new.tries false asks on tag sound is_tx (ap (λ (t : TxState). t.auto) same) (left.tried on tag);
        stands = left.stands;
      }

  -- ---- the answer to the read that was due

  module _ (action : Action) (is_due : due p ≡ Some action) where
    -- it is the act that the run names next
    next_named : IsNamed catalog (shown catalog past) (now_of e past) e.session stmt own tx p action
    next_named = is_named catalog limits (shown catalog past) (now_of e past) e.session count limits.tries stmt plan own tx p course.planned course.is_tx at made action is_due

    due_owned : IsNext catalog (shown catalog past) (now_of e past) e.session stmt (session (now_of e past) e.session).owned next_named.purpose (reader_of tx action) action.shard action.act
    due_owned = next_owned catalog limits past e stmt (plans.Select plan) own tx p.tries false course next_named.purpose (reader_of tx action) action.shard action.act next_named.next

    read_sound : (mark : Mark) → e.deed ≡ deeds.Acts (reader_of tx action) action.shard action.act mark → is_writing mark ≡ false → e.fault ≡ None → Sound
    read_sound mark did reads fault = sound_read catalog limits past e stmt (plans.Select plan) own tx p.tries false course (reader_of tx action) action.shard action.act mark did reads fault

    read_proceeds : (mark : Mark) → e.deed ≡ deeds.Acts (reader_of tx action) action.shard action.act mark → IsMet mark → e.fault ≡ None → Proceeds e
    read_proceeds mark did met fault = proceeds_act e (reader_of tx action) action.shard action.act mark did met fault

    abbrev Did : Mark → Type 0
    Did mark = e.deed ≡ deeds.Acts (reader_of tx action) action.shard action.act mark

    abbrev Gives : Rows → Type 0
    Gives rows = ReadsBy catalog (shown catalog past) (reader_of tx action) action.shard action.act rows

    -- entries
    entries_left : (rows : Rows) (tells : ProgramTold) (new : Progress) → nat_lt p.looked (length p.entries) ≡ true → Did (mark_of p) → e.fault ≡ None → Gives rows → OrNoMemory tx false tells (Goes catalog tx (with_entries catalog rows p) tells new) → IsLeft tells new
    entries_left rows tells new left did fault gives goes =
        let deed : Did marks.Looks = did ∙ ap (λ b. deeds.Acts (reader_of tx action) action.shard action.act (if b then marks.Looks else marks.Reads)) left in
        let below : p.looked < length p.entries = ltb-true p.looked (length p.entries) left in
        let none : p.read ≡ 0 = made.after below in
        goes_left (with_entries catalog rows p) tells new refl
        (record {
          there = select_looked catalog e past limits plan p at (reader_of tx action) action.shard action.act rows deed gives;
          looked = omega (arith, below);
          read = omega (arith, none);
        })
        (read_sound marks.Looks deed refl fault) (read_proceeds marks.Looks deed tt fault) goes

    -- rows, which pass a limit or don't
    uncounted : (what : Projection) (limit : Quantity × ℕ) (tally : Tally) (rows : Rows) → passed what limits tally rows ≡ Some limit → is_counting what ≡ false
    uncounted projections.All limit tally rows over = refl
    uncounted projections.Count limit tally rows over = absurd (cc)
    uncounted (projections.Columns columns) limit tally rows over = refl

    too_many : (rows : Rows) (limit : Quantity × ℕ) → passed p.what limits p.tally rows ≡ Some limit → Did marks.Reads → e.fault ≡ None → Gives rows → IsRefusal (causes.Limit limit.0 limit.1)
    too_many rows limit over deed fault gives =
        let counts : is_counting p.what ≡ false = uncounted p.what limit p.tally rows over in
        let all = at.gathered.rows ++ rows in
        TooMany all limit.0 limit.1 (planned_counts catalog stmt plan course.planned ∙ sym (ap is_counting at.what) ∙ counts) fault
        (rows_more catalog e past limits plan p at (reader_of tx action) action.shard action.act rows deed gives)
        (sym (passed_over p.what limits nothing_read all counts) ∙ passed_by catalog e past limits plan p at (reader_of tx action) action.shard action.act rows ∙ over)

    rows_by : (rows : Rows) (tells : ProgramTold) (new : Progress) (limit : Option (Quantity × ℕ)) → passed p.what limits p.tally rows ≡ limit → nat_lt p.looked (length p.entries) ≡ false → Did marks.Reads → e.fault ≡ None → Gives rows
        → Takes catalog tx limit p rows tells new → IsLeft tells new
    rows_by rows tells new None within none deed fault gives goes =
        goes_left (with_rows rows p) tells new refl
        (record {
          there = select_read catalog e past limits plan p at (reader_of tx action) action.shard action.act rows deed gives within;
          looked = made.looked;
          read = omega (arith, shard_left p action (due_is p action is_due) (λ below. omega (arith, below, ltb-false p.looked (length p.entries) none)));
        })
        (read_sound marks.Reads deed refl fault) (read_proceeds marks.Reads deed tt fault) goes
    rows_by rows tells new (Some limit) over none deed fault gives is =
        refused_left (causes.Limit limit.0 limit.1) tells new (read_sound marks.Reads deed refl fault) (too_many rows limit over deed fault gives) is

    rows_left : (rows : Rows) (tells : ProgramTold) (new : Progress) (left : Bool) → nat_lt p.looked (length p.entries) ≡ left → Did (mark_of p) → e.fault ≡ None → Gives rows → TakesOf catalog tx left p rows tells new → IsLeft tells new
    rows_left rows tells new true left did fault gives goes = entries_left rows tells new left did fault gives goes
    rows_left rows tells new false left did fault gives takes =
        rows_by rows tells new (passed p.what tx.limits p.tally rows) (sym (ap (λ (l : Limits). passed p.what l p.tally rows) course.is_tx.limits)) left
        (did ∙ ap (λ b. deeds.Acts (reader_of tx action) action.shard action.act (if b then marks.Looks else marks.Reads)) left) fault gives takes

    -- a key of another
    waits : (by : ℕ) (key : Key) → nat_lt (p.tries + 1) tx.limits.tries ≡ false → Did marks.Opens → e.fault ≡ None → IsHeld catalog (shown catalog past) (reader_of tx action).tx action.shard action.act by key → IsRefusal (lock_wait catalog tx.limits.tries by key)
    waits by key last deed fault held =
        let same : tx.limits.tries ≡ limits.tries = ap (λ (l : Limits). l.tries) course.is_tx.limits in
        let end : tries (now_of e past) e.session + 1 ≡ limits.tries = omega (arith, course.tried, made.tries, same, ltb-false (p.tries + 1) tx.limits.tries last) in
        subst (λ k. IsRefusal (lock_wait catalog k by key)) (sym same) (Waits (reader_of tx action).tx (reader_of tx action) action.shard action.act by key deed refl fault held end)

    held_by : (by : ℕ) (key : Key) (tells : ProgramTold) (new : Progress) (left : Bool) → nat_lt (p.tries + 1) tx.limits.tries ≡ left → Did marks.Opens → e.fault ≡ None → IsHeld catalog (shown catalog past) (reader_of tx action).tx action.shard action.act by key
        → WaitsOn catalog tx left false p.tries by key tells (with_try p) new → IsLeft tells new
    held_by by key tells new true left deed fault held goes =
        let same : tx.limits.tries ≡ limits.tries = ap (λ (l : Limits). l.tries) course.is_tx.limits in
        record {
          tells_so = subst Tells (sym goes.0)
              (record {
                who = reader_of tx action;
                shard = action.shard;
                act = action.act;
                met = deed;
                held = held;
                counted = ap (λ k. k + 1) (sym course.tried);
                below = omega (arith, same, ltb-true (p.tries + 1) tx.limits.tries left);
                sound = fault;
              });
          stands = λ on.
              subst (IsSelectAt catalog limits (Happened e ∷ past) e.session plan) (sym goes.1)
              (select_tried catalog limits (now_of e past) (Happened e ∷ past) e.session plan p (says_opened catalog e past (reader_of tx action) action.shard action.act deed) at);
          tried = λ on tag. tries_held e past by (p.tries + 1) (subst (λ (t : ProgramTold). HasTag t e.told) goes.0 tag) ∙ sym (ap (λ (q : Progress). q.tries) goes.1);
        }
    held_by by key tells new false last deed fault held (inl refused) =
        refused_left causes.OutOfMemory tells new (read_sound marks.Opens deed refl fault) Memory refused
    held_by by key tells new false last deed fault held (inr refused) =
        refused_left (lock_wait catalog tx.limits.tries by key) tells new (read_sound marks.Opens deed refl fault) (waits by key last deed fault held) refused

    -- a session or a device that is lost
    lost_by : (session : Bool) (reason : LostWhy) (tells : ProgramTold) (new : Progress) → (session ≡ true → (reader_of tx action).group ≡ Some action.group) → (session ≡ false → (reader_of tx action).group ≡ None)
        → e.visits ≡ Some action.shard → e.fault ≡ Some (faults.Lost reason) → MayBeLost (now_of e past) (reader_of tx action) action.shard reason → ((reader_of tx action).group ≡ None → reason ≡ why.Link) → tells ≡ refused_whole (loss catalog action session reason) → Tells tells
    lost_by true reason tells new grouped plain visits fault may link is =
        tells_whole catalog limits past e stmt (plans.Select plan) own tx p.tries false course (session_lost catalog action.group action.shard reason) (faults.Lost reason) tells fault
        (WasLost next_named.purpose (reader_of tx action) action.group action.shard action.act reason
        due_owned (grouped refl) visits fault may)
        is
    lost_by false reason tells new grouped plain visits fault may link is =
        tells_whole catalog limits past e stmt (plans.Select plan) own tx p.tries false course (read_lost catalog action.shard) (faults.Lost reason) tells fault
        (LostRead next_named.purpose (reader_of tx action) action.shard action.act
        due_owned (plain refl) visits
        (fault ∙ ap (λ (r : LostWhy). Some (faults.Lost r)) (link (plain refl))))
        is

    failed : (tells : ProgramTold) → e.visits ≡ Some action.shard → e.fault ≡ Some faults.Device → tells ≡ refused_whole (device_failed catalog action.shard) → Tells tells
    failed tells visits fault is =
        tells_whole catalog limits past e stmt (plans.Select plan) own tx p.tries false course (device_failed catalog action.shard) faults.Device tells fault
        (Failed next_named.purpose (reader_of tx action) action.shard action.act
        due_owned visits fault)
        is

    -- ---- the event

    -- the read's session is listed
    record Lists (tx_new : TxState) : Type 0 where
      listed : IsListedAs own.number (reader_of tx action) action.shard tx tx_new
      kept : IsKept tx tx_new

    read_turned : (tells : ProgramTold) (new : Progress) (tx_new : TxState) (mark : Mark) → Did mark → is_writing mark ≡ false → e.visits ≡ Some action.shard → e.fault ≡ None → ComesTo next_named.purpose mark
        → was_killed past (reader_of tx action) action.shard ≡ false → Lists tx_new → HasTag tells e.told → IsLeft tells new → SelectTurned catalog limits past e stmt plan own tells new tx_new
    read_turned tells new tx_new mark did reads visits fault comes spared lists tag left =
        let is_tx : IsTx limits (Happened e ∷ past) e.session own tx_new =
        tx_read limits e past e.session own tx course.is_tx tx_new (reader_of tx action) action.shard action.act next_named.pred next_named.locking mark did next_named.finds reads lists.listed lists.kept in
        let sound = read_sound mark did reads fault in
        record {
          turned = turned_act catalog limits past e stmt (plans.Select plan) own tx p.tries false course next_named.purpose (reader_of tx action) action.shard action.act next_named.next tells mark did visits comes
              (subst (λ (a : Act). IsMarked (shown catalog past) (reader_of tx action) a mark) (sym next_named.finds) tt)
              (may_find limits (now_of e past) (reader_of tx action) action.shard action.act next_named.pred next_named.locking next_named.finds (spared_now e past stmt asks (reader_of tx action) action.shard spared)) left.tells_so;
          uncommitted = sound.uncommitted;
          unwarned = sound.unwarned;
          left = λ harmless. is_tx;
          course = λ on. course_behind catalog limits past e stmt (plans.Select plan) own tx p.tries false course tells tx_new new.tries false asks on tag sound is_tx lists.kept.auto (left.tried on tag);
          stands = left.stands;
        }

    lost_turned : (tells : ProgramTold) (new : Progress) (tx_new : TxState) (fault : Fault) → e.deed ≡ deeds.Nothing → e.visits ≡ Some action.shard → e.fault ≡ Some fault → (GoesOn tells → ⊥) → Tells tells → SelectTurned catalog limits past e stmt plan own tells new tx_new
    lost_turned tells new tx_new fault none visits met over so = record {
      turned = turned_lost catalog limits past e stmt (plans.Select plan) own tx p.tries false course next_named.purpose (reader_of tx action) action.shard action.act next_named.next tells none visits so;
      uncommitted = none_committed catalog limits past e stmt (plans.Select plan) own tx p.tries false course none;
      unwarned = none_warned catalog limits past e stmt (plans.Select plan) own tx p.tries false course none;
      left = λ harmless. absurd (some_fault (sym met ∙ harmless));
      course = λ on. absurd (over on);
      stands = λ on. absurd (over on);
    }
      where
        some_fault : Some fault ≡ None → ⊥
        some_fault same = cc

    abbrev ListsBy : Answer → TxState → Type 0
    ListsBy (Given rows) tx_new = Lists tx_new
    ListsBy (Held by key) tx_new = Lists tx_new
    ListsBy (Limit what times) tx_new = Lists tx_new
    ListsBy NoMemory tx_new = tx_new ≡ tx
    ListsBy Done tx_new = Unit {0}
    ListsBy Unchanged tx_new = Unit {0}
    ListsBy (Found key row) tx_new = Unit {0}
    ListsBy (Lost reason) tx_new = Unit {0}
    ListsBy Device tx_new = Unit {0}

    marks_read : (left : Bool) → is_writing (if left then marks.Looks else marks.Reads) ≡ false
    marks_read true = refl
    marks_read false = refl

    opens_for : (purpose : Purpose) → ComesTo purpose marks.Opens
    opens_for purpose = tt

    module _ (answers : Bool) (tells : ProgramTold) (new : Progress) (tx_new : TxState) (grouped : answers ≡ true → (reader_of tx action).group ≡ Some action.group) (plain : answers ≡ false → (reader_of tx action).group ≡ None) (tag : HasTag tells e.told) where
      abbrev IsFrom : Answer → Type 0
      IsFrom answer = IsAnswered catalog past (reader_of tx action) action.shard action.act answer

      abbrev IsEvent : Answer → Type 0
      IsEvent answer = IsOfAct e (Some (due_as tx (mark_of p) action)) (Some (outcome_of answer))

      by_answer : (answer : Answer) → IsFrom answer → IsEvent answer → ListsBy answer tx_new → Answered catalog tx p action answers answer tells new → SelectTurned catalog limits past e stmt plan own tells new tx_new
      by_answer (Given rows) port act lists after =
          read_turned tells new tx_new (mark_of p) act.0 (marks_read (nat_lt p.looked (length p.entries))) act.1 act.2 next_named.comes (port.spared refl) lists tag
          (rows_left rows tells new (nat_lt p.looked (length p.entries)) refl act.0 act.2 (port.rows rows refl) after)
      by_answer (Held by key) port act lists after =
          read_turned tells new tx_new marks.Opens act.0 refl act.1 act.2 (opens_for next_named.purpose) (port.spared refl) lists tag
          (held_by by key tells new (nat_lt (p.tries + 1) tx.limits.tries) refl act.0 act.2 (port.held by key refl) after)
      by_answer (Limit what times) port act lists after =
          read_turned tells new tx_new marks.Opens act.0 refl act.1 act.2 (opens_for next_named.purpose) (port.spared refl) lists tag
          (refused_left (causes.Limit what times) tells new (read_sound marks.Opens act.0 refl act.2)
          (Spent (reader_of tx action) action.shard action.act what times act.0 act.2 (λ k. port.spent what times k refl)) after)
      by_answer (Lost reason) port act lists after =
          lost_turned tells new tx_new (faults.Lost reason) act.0 act.1 act.2 (λ on. subst GoesOn after on)
          (lost_by answers reason tells new grouped plain act.1 act.2 (loss_now e past stmt asks (reader_of tx action) action.shard reason (port.lost reason refl)) (port.lost_read reason refl) after)
      by_answer Device port act lists after = lost_turned tells new tx_new faults.Device act.0 act.1 act.2 (λ on. subst GoesOn after on) (failed tells act.1 act.2 after)
      by_answer NoMemory port act lists after =
          idle_turned tells new tx_new act.0 act.1 act.2 lists tag (refused_left causes.OutOfMemory tells new (still_sound act.0 act.2) Memory after)
      by_answer Done port act lists after = absurd after
      by_answer Unchanged port act lists after = absurd after
      by_answer (Found key row) port act lists after = absurd after

  -- ---- the step

  idle_at : IsSelectAt catalog limits (Happened e ∷ past) e.session plan p → IsNow p
  idle_at there = record { there = there; looked = made.looked; read = made.read }

  group_in : (group : Group) (there : Bool) → there ≡ true → (reader_in tx group there).group ≡ Some group
  group_in group true is = refl
  group_in group false is = absurd (cc)

  group_out : (group : Group) (there : Bool) → there ≡ false → (reader_in tx group there).group ≡ None
  group_out group true is = absurd (cc)
  group_out group false is = refl

  module _ (port port_new : PortView) (tells : ProgramTold) (new : Progress) (tx_new : TxState) (quiet : port.outcome ≡ None) (act : IsOfAct e (due_of tx p) port_new.outcome) (tag : HasTag tells e.told)
      (from : (due : Due) (answer : Answer) → due_of tx p ≡ Some due → HasActed port due.who due.shard due.act answer port_new → IsAnswered catalog past due.who due.shard due.act answer) where
    -- nothing was asked of the port
    none_asked : port_new ≡ port → (e.deed ≡ deeds.Nothing) × (e.visits ≡ None) × (e.fault ≡ None)
    none_asked same = idle_act e (due_of tx p) (subst (IsOfAct e (due_of tx p)) (ap (λ (v : PortView). v.outcome) same ∙ quiet) act)

    module _ (action : Action) (is : due p ≡ Some action) (answer : Answer) where
      due_is_it : due_of tx p ≡ Some (due_as tx (mark_of p) action)
      due_is_it = ap (option_map (due_as tx (mark_of p))) is

      asked_act : port_new.outcome ≡ Some (outcome_of answer) → IsOfAct e (Some (due_as tx (mark_of p) action)) (Some (outcome_of answer))
      asked_act came = subst (λ (o : Option Outcome). IsOfAct e (Some (due_as tx (mark_of p) action)) o) came (subst (λ (d : Option Due). IsOfAct e d port_new.outcome) due_is_it act)

      asked_from : (who : Who) → reader_of tx action ≡ who → HasActed port who action.shard action.act answer port_new → IsAnswered catalog past (reader_of tx action) action.shard action.act answer
      asked_from who by acted = from (due_as tx (mark_of p) action) answer due_is_it (subst (λ (w : Who). HasActed port w action.shard action.act answer port_new) (sym by) acted)

    session_reads : (action : Action) → takes_keys action.act ≡ true → reader_of tx action ≡ session_of tx action.group
    session_reads action takes = ap (λ b. if b then session_of tx action.group else reader_in tx action.group (list_any (λ other. other == action.shard) (listed tx action.group))) takes

    plain_reads : (action : Action) (there : Bool) → takes_keys action.act ≡ false → IsTrue there ↔ Contains (listed tx action.group) action.shard → reader_of tx action ≡ reader_in tx action.group there
    plain_reads action there plain tells =
        ap (λ b. if b then session_of tx action.group else reader_in tx action.group (list_any (λ other. other == action.shard) (listed tx action.group))) plain
        ∙ ap (reader_in tx action.group) (sym (among_as (listed tx action.group) action.shard there tells))

    by_session : (action : Action) (is : due p ≡ Some action) → reader_of tx action ≡ session_of tx action.group → IsListed tx action.group action.shard tx_new → Lists action is tx_new
    by_session action is by lists = record {
      listed = subst (λ (w : Who). IsListedAs own.number w action.shard tx tx_new) (sym by) (session_listed tx tx_new action.group action.shard own.number course.is_tx.number lists);
      kept = kept_listed tx tx_new action.group action.shard lists;
    }

    listed_by : (action : Action) (is : due p ≡ Some action) (answer : Answer) → reader_of tx action ≡ session_of tx action.group → ListsOf tx action.group action.shard answer tx_new → ListsBy action is answer tx_new
    listed_by action is (Given rows) by lists = by_session action is by lists
    listed_by action is (Held other key) by lists = by_session action is by lists
    listed_by action is (Limit what times) by lists = by_session action is by lists
    listed_by action is NoMemory by lists = lists
    listed_by action is Done by lists = tt
    listed_by action is Unchanged by lists = tt
    listed_by action is (Found key row) by lists = tt
    listed_by action is (Lost reason) by lists = tt
    listed_by action is Device by lists = tt

    by_reader : (action : Action) (is : due p ≡ Some action) (there : Bool) → reader_of tx action ≡ reader_in tx action.group there → IsTrue there ↔ Contains (listed tx action.group) action.shard → tx_new ≡ tx → Lists action is tx_new
    by_reader action is there by tells same =
        subst (Lists action is) (sym same)
        (record {
          listed = subst (λ (w : Who). IsListedAs own.number w action.shard tx tx) (sym by) (reader_listed tx action.group action.shard own.number there course.is_tx.number tells);
          kept = kept_same tx tx refl;
        })

    looked_by : (action : Action) (is : due p ≡ Some action) (answer : Answer) (there : Bool) → reader_of tx action ≡ reader_in tx action.group there → IsTrue there ↔ Contains (listed tx action.group) action.shard → tx_new ≡ tx → ListsBy action is answer tx_new
    looked_by action is (Given rows) there by tells same = by_reader action is there by tells same
    looked_by action is (Held other key) there by tells same = by_reader action is there by tells same
    looked_by action is (Limit what times) there by tells same = by_reader action is there by tells same
    looked_by action is NoMemory there by tells same = same
    looked_by action is Done there by tells same = tt
    looked_by action is Unchanged there by tells same = tt
    looked_by action is (Found key row) there by tells same = tt
    looked_by action is (Lost reason) there by tells same = tt
    looked_by action is Device there by tells same = tt

    by_step : Stepped catalog p tx port tells new tx_new port_new → SelectTurned catalog limits past e stmt plan own tells new tx_new
    by_step (Idle none ends same shown) =
        let still = none_asked shown in
        let now = idle_at (select_stays catalog limits (now_of e past) (Happened e ∷ past) e.session plan p (says_idle catalog e past still.0) at) in
        idle_turned tells new tx_new still.0 still.1 still.2 same tag
        (over_left tells new (ended p tells now (still_sound still.0 still.2) (proceeds_idle e still.0 still.2) none ends) (over_then p tells ends))
    by_step (NoRoom action is takes replied unasked) =
        let still = none_asked unasked.shown in
        idle_turned tells new tx_new still.0 still.1 still.2 unasked.same tag (refused_left causes.OutOfMemory tells new (still_sound still.0 still.2) Memory replied)
    by_step (Locked action answer is takes asked answered) =
        let by = session_reads action takes in
        by_answer action is true tells new tx_new (λ there. ap (λ (w : Who). w.group) by) (λ none. absurd (true≢false none)) tag answer (asked_from action is answer (session_of tx action.group) by asked.acts) (asked_act action is answer asked.acts.came)
        (listed_by action is answer by asked.lists) answered
    by_step (Looked action there answer is plain tells_so acts same answered) =
        let by = plain_reads action there plain tells_so in
        by_answer action is there tells new tx_new (λ yes. ap (λ (w : Who). w.group) by ∙ group_in action.group there yes) (λ none. ap (λ (w : Who). w.group) by ∙ group_out action.group there none) tag answer
        (asked_from action is answer (reader_in tx action.group there) by acts) (asked_act action is answer acts.came) (looked_by action is answer there by tells_so same) answered

-- ---- the law

pub select_turned : (catalog : Catalog) (limits : Limits) (past : Run) (e : Event) (stmt : Stmt) (plan : SelectPlan) (own : Owned) (tx : TxState) (p : Progress) (count : ℕ)
    → Course catalog limits (now_of e past) e.session stmt (plans.Select plan) own tx p.tries false → IsSelectAt catalog limits (now_of e past) e.session plan p → IsMade catalog count limits.tries p → (port port_new : PortView) (tells : ProgramTold) (new : Progress) (tx_new : TxState)
    → port.outcome ≡ None → Stepped catalog p tx port tells new tx_new port_new → IsStep e stmt (due_of tx p) port_new.outcome tells
    → ((due : Due) (answer : Answer) → due_of tx p ≡ Some due → HasActed port due.who due.shard due.act answer port_new → IsAnswered catalog past due.who due.shard due.act answer)
    → SelectTurned catalog limits past e stmt plan own tells new tx_new
select_turned catalog limits past e stmt plan own tx p count course at made port port_new tells new tx_new quiet stepped step from =
    by_step catalog limits past e stmt plan own tx p count course at made step.asked port port_new tells new tx_new quiet step.act step.tag from stepped
