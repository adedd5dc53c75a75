-- A step of the program of an UPDATE or a DELETE is an event that the run allows.
use Rattle.std.proofs.Common.{◌≡◌, ◌∙◌, ◌≤◌, ◌<◌, ◌+◌, ◌^◌, ◌++◌, ℕ, Bool, true, false, not, [], ◌∷◌, length, inl, inr, Option, Some, None, refl, sym, ap, subst, arith}
use Rattle.std.specs.Prelude.{nat_lt, slice_get}
use Rattle.std.specs.Option.{option_map}
use Rattle.std.proofs.lemmas.Bool.{ltb-false, ltb-true, true≢false}
use Rattle.std.proofs.lemmas.List.{length-append, length-take}
use Rattle.vl_values.specs.declared.cause.Cause.{Cause}
use Rattle.vl_values.specs.declared.cause.Cause.TheVariants as causes
use Rattle.vl_values.specs.declared.group.Group.{Group}
use Rattle.vl_values.specs.declared.group.Group.TheVariants.{Main}
use Rattle.vl_values.specs.declared.key.Key.{Key}
use Rattle.vl_values.specs.declared.limit.Limit.{Limit as Quantity}
use Rattle.vl_values.specs.declared.limit.Limit.TheVariants as quantities
use Rattle.vl_values.specs.declared.pred.Pred.{Pred}
use Rattle.vl_catalog.specs.declared.catalog.Catalog.{Catalog}
use Rattle.vl_sql.specs.declared.stmt.Stmt.{Stmt}
use Rattle.vl_port.specs.declared.act.Act.{Act}
use Rattle.vl_port.specs.declared.act.Act.TheVariants.{Insert, Put, Remove, RemoveIf, Find}
use Rattle.vl_port.specs.declared.answer.Answer.{Answer}
use Rattle.vl_port.specs.declared.answer.Answer.TheVariants.{Done, Unchanged, Rows as Given, Found, Held, Lost, Device, Limit, Memory as NoMemory}
use Rattle.vl_port.specs.declared.limits.Limits.{Limits}
use Rattle.vl_port.specs.declared.outcome.Outcome.{Outcome}
use Rattle.vl_port.specs.declared.tx_state.TxState.{TxState}
use Rattle.vl_port.specs.declared.who.Who.{Who}
use Rattle.vl_port.specs.Asking.{IsListed, Lists as ListsOf}
use Rattle.vl_port.specs.Calls.{HasActed, PortView}
use Rattle.vl_port.specs.Limiting.{has_all_changes, is_full}
use Rattle.vl_port.specs.Outcomes.{outcome_of}
use Rattle.vl_port.specs.Transaction.{session_of}
use Rattle.vl_port.specs.View.{Values}
use Rattle.vl_model.specs.declared.route.Route.{Route}
use Rattle.vl_statement.specs.declared.program_told.ProgramTold.{ProgramTold}
use Rattle.vl_statement.specs.declared.tally.Tally.{Tally}
use Rattle.vl_statement.specs.Refusing.{device_failed, limit_of_changes, lock_wait, refused, refused_whole, session_lost}
use Rattle.vl_statement.specs.Tallies.{first_over}
use Rattle.vl_statement.specs.Waiting.{WaitsOn}
use Rattle.vl_change.specs.declared.action.Action.{Action}
use Rattle.vl_change.specs.declared.row_change.RowChange.{RowChange}
use Rattle.vl_change.specs.declared.row_change.RowChange.TheVariants as changes
use Rattle.vl_change.specs.Answering.{Answered, Goes, Takes, TellsNext, reply_of}
use Rattle.vl_change.specs.Changes.{writes_of}
use Rattle.vl_change.specs.Making.{IsMade}
use Rattle.vl_change.specs.Progress.{Progress, due, found, found_by, with_rows, with_try, with_write}
use Rattle.vl_change.specs.Stepping.{Did, Full, Idle, NoRoom, Stepped}
use Rattle.vl_run.specs.declared.deed.Deed.TheVariants as deeds
use Rattle.vl_run.specs.declared.event.Event.{Event}
use Rattle.vl_run.specs.declared.fault.Fault.{Fault}
use Rattle.vl_run.specs.declared.fault.Fault.TheVariants as faults
use Rattle.vl_run.specs.declared.mark.Mark.{Mark}
use Rattle.vl_run.specs.declared.mark.Mark.TheVariants as marks
use Rattle.vl_run.specs.Allowed.{IsCounted, Proceeds, now_of}
use Rattle.vl_run.specs.Gathered.{Gathered, Reads, ReadsBy, Rows, shown}
use Rattle.vl_run.specs.Machine.{Machine}
use Rattle.vl_run.specs.Named.{Changing, ComesTo, IsMarked, IsNext, Purpose, Reading, change_act}
use Rattle.vl_run.specs.Progress.{changes as changes_made, claims_in_pre, is_writing, removes_in_post, session, tries, wrote}
use Rattle.vl_run.specs.Refused.{IsHeld, IsUncrossed, MayAct, Refuses, is_write, nothing_read}
use Rattle.vl_run.specs.Refused.Refuses.{Failed, Full as IsFull, Lost as WasLost, Memory, Spent, TooMany, Waits}
use Rattle.vl_run.specs.Run.{Run, was_killed}
use Rattle.vl_run.specs.Run.Point.{Happened}
use Rattle.vl_run.specs.Session.{Owned}
use Rattle.vl_course.specs.Answered.{IsAnswered}
use Rattle.vl_course.specs.Changing.{ChangeTurned, IsChangeAt, changes_of, due_as, due_of, plan_of}
use Rattle.vl_course.specs.Course.{Course, IsTx}
use Rattle.vl_course.specs.Turning.{Due, GoesOn, HasTag, IsOfAct, IsOfStmt, IsStep, MayTell}
use Rattle.vl_course.proofs.Behind.{tries_held, tries_more}
use Rattle.vl_course.proofs.ChangeMoves.{change_read, change_stays, change_tried, change_wrote, found_more, over_by}
use Rattle.vl_course.proofs.Changed.{IsChangeNext, NextRead, NextWrite, change_named, change_unworked, change_within, change_worked, writes_many}
use Rattle.vl_course.proofs.Events.{IsSound, course_behind, idle_act, next_owned, none_committed, none_warned, proceeds_act, proceeds_idle, sound_idle, sound_read, sound_write, tells_refused, tells_whole, turned_act, turned_idle, turned_lost}
use Rattle.vl_course.proofs.Kills.{loss_now, spared_now}
use Rattle.vl_course.proofs.Listed.{IsKept, IsListedAs, kept_listed, session_listed, tx_acted, tx_idle, tx_wrote}
use Rattle.vl_course.proofs.Moves.{says_idle, says_opened}
use Rattle.vl_course.proofs.Planned.{change_counts}
use Rattle.vl_course.proofs.Reading.{counted_rows}

-- ---- acts

-- a change writes, and is no INSERT
changes_write : (it : Key × Option Values) → is_write (change_act it) ≡ true
changes_write (key, None) = refl
changes_write (key, Some row) = refl

change_marked : (u : Machine) (who : Who) (it : Key × Option Values) (mark : Mark) → IsMarked u who (change_act it) mark
change_marked u who (key, None) mark = tt
change_marked u who (key, Some row) mark = tt

no_claim : (it : Key × Option Values) → claims_in_pre marks.Writes (change_act it) ≡ []
no_claim (key, None) = refl
no_claim (key, Some row) = refl

no_removal : (it : Key × Option Values) → removes_in_post marks.Writes (change_act it) ≡ []
no_removal (key, None) = refl
no_removal (key, Some row) = refl

no_rows : (catalog : Catalog) (u : Machine) (who : Who) (shard : ℕ) (it : Key × Option Values) (rows : Rows) → ReadsBy catalog u who shard (change_act it) rows → ⊥
no_rows catalog u who shard (key, None) rows read = read
no_rows catalog u who shard (key, Some row) rows read = read

-- the limit of changes is looked at before a write
full_as : (tx : TxState) (act : Act) → is_write act ≡ true → is_full tx act ≡ has_all_changes tx
full_as tx (Insert key row) write = refl
full_as tx (Put key row) write = refl
full_as tx (Remove key) write = refl
full_as tx (RemoveIf key column value) write = refl
full_as tx (Find pred locking) write = absurd (cc)

not_true : (b : Bool) → not b ≡ true → b ≡ false
not_true true is = absurd (cc)
not_true false is = refl

not_false : (b : Bool) → not b ≡ false → b ≡ true
not_false true is = refl
not_false false is = absurd (cc)

-- ---- counts

-- how many rows are told as changed and as found
counted_as : (catalog : Catalog) (after : Run) (n : ℕ) (change : RowChange) (pred : Pred) (route : Route) (affected count : ℕ) (rows : Rows) → affected ≡ length (wrote after n) → Gathered catalog after n rows → count ≡ found_by change (length rows) affected
    → IsCounted catalog after n (plan_of change pred route) affected count
counted_as catalog after n (changes.Set settings) pred route affected count rows wrote given is = (wrote, (rows, given, is))
counted_as catalog after n changes.Remove pred route affected count rows wrote given is = (wrote, is)

module _ (catalog : Catalog) (limits : Limits) (past : Run) (e : Event) (stmt : Stmt) (change : RowChange) (pred : Pred) (route : Route) (own : Owned) (tx : TxState) (p : Progress) (count : ℕ)
    (course : Course catalog limits (now_of e past) e.session stmt (plan_of change pred route) own tx p.tries p.wrote) (at : IsChangeAt catalog limits (now_of e past) e.session change pred route p) (made : IsMade catalog count limits.tries p)
    (fits : limits.changes < 2 ^ 32) (asks : IsOfStmt e.request stmt) where
  abbrev Tells : ProgramTold → Type 0
  Tells tells = MayTell catalog limits past e stmt (plan_of change pred route) own tells

  abbrev IsRefusal : Cause → Type 0
  IsRefusal cause = Refuses catalog limits (shown catalog past) past (now_of e past) (Happened e ∷ past) e e.session stmt (session (now_of e past) e.session) cause

  abbrev Sound : Bool → Type 0
  Sound written = IsSound catalog past e written

  limit_same : tx.limits.changes ≡ limits.changes
  limit_same = ap (λ (l : Limits). l.changes) course.is_tx.limits

  -- what is told, and where the program stands if it goes on
  record IsLeft (written : Bool) (tells : ProgramTold) (new : Progress) : Type 0 where
    tells_so : Tells tells
    stands : GoesOn tells → IsChangeAt catalog limits (Happened e ∷ past) e.session change pred route new
    tried : GoesOn tells → HasTag tells e.told → tries (Happened e ∷ past) e.session ≡ new.tries
    wrote : GoesOn tells → written ≡ new.wrote

  over_left : (written : Bool) (tells : ProgramTold) (new : Progress) → Tells tells → (GoesOn tells → ⊥) → IsLeft written tells new
  over_left written tells new so over = record { tells_so = so; stands = λ on. absurd (over on); tried = λ on tag. absurd (over on); wrote = λ on. absurd (over on) }

  refused_left : (written : Bool) (cause : Cause) (tells : ProgramTold) (new : Progress) → Sound written → IsRefusal cause → tells ≡ refused tx written cause → IsLeft written tells new
  refused_left written cause tells new sound refuses is =
      over_left written tells new (tells_refused catalog limits past e stmt (plan_of change pred route) own tx p.tries p.wrote course written cause tells sound refuses is) (λ on. subst GoesOn is on)

  -- ---- the end

  -- the program where the act of the event is behind it
  record IsNow (q : Progress) : Type 0 where
    there : IsChangeAt catalog limits (Happened e ∷ past) e.session change pred route q
    many : q.done ≤ length q.writes
    read : q.search.read ≤ length q.search.shards

  replied : (q : Progress) (tells : ProgramTold) → IsNow q → Proceeds e → due q ≡ None → tells ≡ reply_of tx q → Tells tells
  replied q tells now proceeds none is =
      let at = now.there in
      let its = changes_of change at.rows in
      let affected : q.done ≡ length (wrote (Happened e ∷ past) e.session) = sym (ap length at.done ∙ length-take q.done its ∙ omega (arith, now.many, writes_many catalog limits (Happened e ∷ past) e.session change pred route q at)) in
      let rows : q.search.tally.rows ≡ length at.rows = ap (λ (t : Tally). t.rows) at.tallied ∙ omega (arith, counted_rows nothing_read at.rows) in
      subst Tells (sym is) (
        record {
          worked = change_worked catalog limits (Happened e ∷ past) e.session change pred route q at now.read none;
          within = change_within catalog limits (Happened e ∷ past) e.session change pred route q at stmt;
          proceeds = proceeds;
          left_open = ap not course.is_tx.single;
          auto = course.auto;
        },
        counted_as catalog (Happened e ∷ past) e.session change pred route q.done (found q) at.rows affected at.gathered
            (ap (λ (c : RowChange). found_by c q.search.tally.rows q.done) at.changes ∙ ap (λ (k : ℕ). found_by change k q.done) rows),
        refl,
      )

  -- ---- the next action

  next_left : (written : Bool) (q : Progress) (tells : ProgramTold) (new : Progress) (next : Option Action) → due q ≡ next → q.tries ≡ 0 → written ≡ q.wrote → IsNow q → Proceeds e → TellsNext tx next q tells → new ≡ q → IsLeft written tells new
  next_left written q tells new None is fresh writes now proceeds ends same = over_left written tells new (replied q tells now proceeds is ends) (λ on. subst GoesOn ends on)
  next_left written q tells new (Some action) is fresh writes now proceeds goes same = record {
    tells_so = subst Tells (sym goes)
        (proceeds, change_within catalog limits (Happened e ∷ past) e.session change pred route q now.there stmt, change_unworked catalog limits (Happened e ∷ past) e.session change pred route q now.there action is);
    stands = λ on. subst (IsChangeAt catalog limits (Happened e ∷ past) e.session change pred route) (sym same) now.there;
    tried = λ on tag. tries_more e past (subst (λ (t : ProgramTold). HasTag t e.told) goes tag) ∙ sym (ap (λ (it : Progress). it.tries) same ∙ fresh);
    wrote = λ on. writes ∙ sym (ap (λ (it : Progress). it.wrote) same);
  }

  goes_left : (written : Bool) (q : Progress) (tells : ProgramTold) (new : Progress) → q.tries ≡ 0 → written ≡ q.wrote → IsNow q → Proceeds e → Goes tx q tells new → IsLeft written tells new
  goes_left written q tells new fresh writes now proceeds goes = next_left written q tells new (due q) refl fresh writes now proceeds goes.0 goes.1

  -- ---- an event without a deed

  idle_turned : (tells : ProgramTold) (new : Progress) (tx_new : TxState) → e.deed ≡ deeds.Nothing → e.visits ≡ None → e.fault ≡ None → tx_new ≡ tx → HasTag tells e.told → IsLeft p.wrote tells new → ChangeTurned catalog limits past e stmt change pred route own tells new tx_new
  idle_turned tells new tx_new none visits fault same tag left =
      let is_tx : IsTx limits (Happened e ∷ past) e.session own tx_new = subst (IsTx limits (Happened e ∷ past) e.session own) (sym same) (tx_idle limits e past e.session own tx course.is_tx none) in
      let sound = sound_idle catalog limits past e stmt (plan_of change pred route) own tx p.tries p.wrote course none fault in
      record {
        turned = turned_idle catalog limits past e stmt (plan_of change pred route) own tx p.tries p.wrote course tells none visits left.tells_so;
        uncommitted = sound.uncommitted;
        unwarned = sound.unwarned;
        left = λ harmless. is_tx;
        course = λ on.
            subst (Course catalog limits (Happened e ∷ past) e.session stmt (plan_of change pred route) own tx_new new.tries) (left.wrote on)
            (course_behind catalog limits past e stmt (plan_of change pred route) own tx p.tries p.wrote course tells tx_new new.tries p.wrote asks on tag sound is_tx (ap (λ (t : TxState). t.auto) same) (left.tried on tag));
        stands = left.stands;
      }

  -- ---- the action that was due

  module _ (action : Action) (is_due : due p ≡ Some action) where
    next_named : IsChangeNext catalog (shown catalog past) (now_of e past) e.session stmt own tx pred p (changes_of change at.rows) action
    next_named = change_named catalog limits (shown catalog past) (now_of e past) e.session count limits.tries stmt change pred route own tx p course.planned course.is_tx at made action is_due

    -- whatever it is for
    record IsNamed : Type 0 where
      purpose : Purpose
      next : IsNext catalog (shown catalog past) (now_of e past) e.session stmt (Some own) purpose (session_of tx action.group) action.shard action.act
      main : action.group ≡ Main
      marked : (mark : Mark) → IsMarked (shown catalog past) (session_of tx action.group) action.act mark

    named_by : IsChangeNext catalog (shown catalog past) (now_of e past) e.session stmt own tx pred p (changes_of change at.rows) action → IsNamed
    named_by (NextRead next main finds within) = record {
      purpose = Reading;
      next = next;
      main = main;
      marked = λ mark. subst (λ (a : Act). IsMarked (shown catalog past) (session_of tx action.group) a mark) (sym finds) tt;
    }
    named_by (NextWrite it next main writes here within all) = record {
      purpose = Changing;
      next = next;
      main = main;
      marked = λ mark. subst (λ (a : Act). IsMarked (shown catalog past) (session_of tx action.group) a mark) (sym writes) (change_marked (shown catalog past) (session_of tx action.group) it mark);
    }

    abbrev DidAs : Mark → Type 0
    DidAs mark = e.deed ≡ deeds.Acts (session_of tx action.group) action.shard action.act mark

    uncrossed : (group : Group) → group ≡ Main → IsUncrossed (now_of e past) tx.number (Some group) action.act
    uncrossed group main = subst (λ (g : Group). IsUncrossed (now_of e past) tx.number (Some g) action.act) (sym main) tt

    room_by : is_full tx action.act ≡ false → is_write action.act ≡ true → nat_lt tx.changes tx.limits.changes ≡ true
    room_by open_ write = not_false (nat_lt tx.changes tx.limits.changes) (sym (full_as tx action.act write) ∙ open_)

    count_as : nat_lt (changes_made (now_of e past) tx.number) limits.changes ≡ nat_lt tx.changes tx.limits.changes
    count_as =
        ap (λ (k : ℕ). nat_lt (changes_made (now_of e past) k) limits.changes) course.is_tx.number ∙ ap (λ (k : ℕ). nat_lt k limits.changes) (sym course.is_tx.changes) ∙ ap (nat_lt tx.changes) (sym limit_same)

    may_act : action.group ≡ Main → is_full tx action.act ≡ false → was_killed past (session_of tx action.group) action.shard ≡ false → MayAct limits (now_of e past) (session_of tx action.group) action.shard action.act
    may_act main room spared = record {
      spared = spared_now e past stmt asks (session_of tx action.group) action.shard spared;
      within = λ write. count_as ∙ room_by room write;
      uncrossed = uncrossed action.group main;
    }

    -- its session is listed
    record Lists (tx_new : TxState) : Type 0 where
      listed : IsListedAs own.number (session_of tx action.group) action.shard tx tx_new
      kept : IsKept tx tx_new

    lists_by : (tx_new : TxState) → IsListed tx action.group action.shard tx_new → Lists tx_new
    lists_by tx_new lists = record { listed = session_listed tx tx_new action.group action.shard own.number course.is_tx.number lists; kept = kept_listed tx tx_new action.group action.shard lists }

    -- an act that was done
    acted_turned : (written : Bool) (tells : ProgramTold) (new : Progress) (tx_new : TxState) (mark : Mark) (purpose : Purpose) → IsNext catalog (shown catalog past) (now_of e past) e.session stmt (Some own) purpose (session_of tx action.group) action.shard action.act → action.group ≡ Main
        → IsMarked (shown catalog past) (session_of tx action.group) action.act mark → DidAs mark → e.visits ≡ Some action.shard → ComesTo purpose mark → is_full tx action.act ≡ false
        → was_killed past (session_of tx action.group) action.shard ≡ false → Sound written → IsTx limits (Happened e ∷ past) e.session own tx_new → tx_new.auto ≡ tx.auto → HasTag tells e.told → IsLeft written tells new
        → ChangeTurned catalog limits past e stmt change pred route own tells new tx_new
    acted_turned written tells new tx_new mark purpose next main marked did visits comes room spared sound is_tx auto tag left = record {
      turned = turned_act catalog limits past e stmt (plan_of change pred route) own tx p.tries p.wrote course purpose (session_of tx action.group) action.shard action.act next tells mark did visits comes marked
          (may_act main room spared) left.tells_so;
      uncommitted = sound.uncommitted;
      unwarned = sound.unwarned;
      left = λ harmless. is_tx;
      course = λ on.
          subst (Course catalog limits (Happened e ∷ past) e.session stmt (plan_of change pred route) own tx_new new.tries) (left.wrote on)
          (course_behind catalog limits past e stmt (plan_of change pred route) own tx p.tries p.wrote course tells tx_new new.tries written asks on tag sound is_tx auto (left.tried on tag));
      stands = left.stands;
    }

    -- a session or a device that is lost
    lost_turned : (tells : ProgramTold) (new : Progress) (tx_new : TxState) (cause : Cause) (fault : Fault) (named : IsNamed) → e.deed ≡ deeds.Nothing → e.visits ≡ Some action.shard → e.fault ≡ Some fault → IsRefusal cause → tells ≡ refused_whole cause
        → ChangeTurned catalog limits past e stmt change pred route own tells new tx_new
    lost_turned tells new tx_new cause fault named none visits met refuses is =
        let so = tells_whole catalog limits past e stmt (plan_of change pred route) own tx p.tries p.wrote course cause fault tells met refuses is in
        record {
          turned = turned_lost catalog limits past e stmt (plan_of change pred route) own tx p.tries p.wrote course named.purpose (session_of tx action.group) action.shard action.act named.next tells none visits so;
          uncommitted = none_committed catalog limits past e stmt (plan_of change pred route) own tx p.tries p.wrote course none;
          unwarned = none_warned catalog limits past e stmt (plan_of change pred route) own tx p.tries p.wrote course none;
          left = λ harmless. absurd (some_fault (sym met ∙ harmless));
          course = λ on. absurd (subst GoesOn is on);
          stands = λ on. absurd (subst GoesOn is on);
        }
      where
        some_fault : Some fault ≡ None → ⊥
        some_fault same = cc

    -- ---- by its answer

    read_sound : (mark : Mark) → DidAs mark → is_writing mark ≡ false → e.fault ≡ None → Sound p.wrote
    read_sound mark did reads fault = sound_read catalog limits past e stmt (plan_of change pred route) own tx p.tries p.wrote course (session_of tx action.group) action.shard action.act mark did reads fault

    -- a row was written
    wrote_left : (tells : ProgramTold) (new : Progress) (it : Key × Option Values) → action.group ≡ Main → action.act ≡ change_act it → slice_get (changes_of change at.rows) p.done ≡ Some it → p.done < length p.writes → p.search.read ≡ length p.search.shards → DidAs marks.Writes → e.fault ≡ None
        → Goes tx (with_write p) tells new → IsLeft true tells new
    wrote_left tells new it main writes here within all did fault goes =
        goes_left true (with_write p) tells new refl refl
        (record {
          there = change_wrote catalog limits e past change pred route p at (session_of tx action.group) action.shard action.act it did (ap (λ (g : Group). Some g) main) writes here;
          many = omega (arith, within);
          read = omega (arith, all);
        })
        (proceeds_act e (session_of tx action.group) action.shard action.act marks.Writes did tt fault) goes

    -- rows were read, which pass a limit or don't
    too_many : (rows : Rows) (limit : Quantity × ℕ) → first_over limits p.search.tally rows ≡ Some limit → action.act ≡ Find pred true → DidAs marks.Reads → e.fault ≡ None → Reads catalog (shown catalog past) (session_of tx action.group) action.shard pred rows
        → IsRefusal (causes.Limit limit.0 limit.1)
    too_many rows limit over finds did fault read =
        TooMany (at.rows ++ rows) limit.0 limit.1 (change_counts catalog stmt change pred route course.planned) fault
        (found_more catalog limits e past change pred route p at (session_of tx action.group) action.shard action.act rows did finds read)
        (over_by catalog limits e past change pred route p at (session_of tx action.group) action.shard action.act rows ∙ over)

    read_left : (rows : Rows) (tells : ProgramTold) (new : Progress) (limit : Option (Quantity × ℕ)) → first_over limits p.search.tally rows ≡ limit → action.act ≡ Find pred true → p.search.read < length p.search.shards → DidAs marks.Reads → e.fault ≡ None
        → Reads catalog (shown catalog past) (session_of tx action.group) action.shard pred rows → Takes tx limit p action.shard rows tells new → IsLeft p.wrote tells new
    read_left rows tells new None within finds left did fault read (inl refused) = refused_left p.wrote causes.OutOfMemory tells new (read_sound marks.Reads did refl fault) Memory refused
    read_left rows tells new None within finds left did fault read (inr goes) =
        goes_left p.wrote (with_rows action.shard rows p) tells new refl refl
        (record {
          there = change_read catalog limits e past change pred route p at (session_of tx action.group) action.shard action.act rows did finds read made.done within;
          many = omega (arith, made.done, length-append p.writes (writes_of p.search.change action.shard rows));
          read = omega (arith, left);
        })
        (proceeds_act e (session_of tx action.group) action.shard action.act marks.Reads did tt fault) goes
    read_left rows tells new (Some limit) over finds left did fault read is =
        refused_left p.wrote (causes.Limit limit.0 limit.1) tells new (read_sound marks.Reads did refl fault) (too_many rows limit over finds did fault read) is

    -- a key of another
    waits : (by : ℕ) (key : Key) → nat_lt (p.tries + 1) tx.limits.tries ≡ false → DidAs marks.Opens → e.fault ≡ None → IsHeld catalog (shown catalog past) tx.number action.shard action.act by key → IsRefusal (lock_wait catalog tx.limits.tries by key)
    waits by key last did fault held =
        let same : tx.limits.tries ≡ limits.tries = ap (λ (l : Limits). l.tries) course.is_tx.limits in
        let end : tries (now_of e past) e.session + 1 ≡ limits.tries = omega (arith, course.tried, made.tries, same, ltb-false (p.tries + 1) tx.limits.tries last) in
        subst (λ k. IsRefusal (lock_wait catalog k by key)) (sym same) (Waits tx.number (session_of tx action.group) action.shard action.act by key did refl fault held end)

    held_left : (by : ℕ) (key : Key) (tells : ProgramTold) (new : Progress) (left : Bool) → nat_lt (p.tries + 1) tx.limits.tries ≡ left → DidAs marks.Opens → e.fault ≡ None → IsHeld catalog (shown catalog past) tx.number action.shard action.act by key
        → WaitsOn catalog tx left p.wrote p.tries by key tells (with_try p) new → IsLeft p.wrote tells new
    held_left by key tells new true left did fault held goes =
        let same : tx.limits.tries ≡ limits.tries = ap (λ (l : Limits). l.tries) course.is_tx.limits in
        record {
          tells_so = subst Tells (sym goes.0)
              (record {
                who = session_of tx action.group;
                shard = action.shard;
                act = action.act;
                met = did;
                held = held;
                counted = ap (λ k. k + 1) (sym course.tried);
                below = omega (arith, same, ltb-true (p.tries + 1) tx.limits.tries left);
                sound = fault;
              });
          stands = λ on.
              subst (IsChangeAt catalog limits (Happened e ∷ past) e.session change pred route) (sym goes.1)
              (change_tried catalog limits (now_of e past) (Happened e ∷ past) e.session change pred route p (says_opened catalog e past (session_of tx action.group) action.shard action.act did) at);
          tried = λ on tag. tries_held e past by (p.tries + 1) (subst (λ (t : ProgramTold). HasTag t e.told) goes.0 tag) ∙ sym (ap (λ (q : Progress). q.tries) goes.1);
          wrote = λ on. sym (ap (λ (q : Progress). q.wrote) goes.1);
        }
    held_left by key tells new false last did fault held (inl refused) = refused_left p.wrote causes.OutOfMemory tells new (read_sound marks.Opens did refl fault) Memory refused
    held_left by key tells new false last did fault held (inr refused) = refused_left p.wrote (lock_wait catalog tx.limits.tries by key) tells new (read_sound marks.Opens did refl fault) (waits by key last did fault held) refused

    opened_tx : (tx_new : TxState) → DidAs marks.Opens → Lists tx_new → IsTx limits (Happened e ∷ past) e.session own tx_new
    opened_tx tx_new did lists = tx_acted limits e past e.session own tx course.is_tx tx_new (session_of tx action.group) action.shard action.act marks.Opens did refl refl refl lists.listed lists.kept

    module _ (tells : ProgramTold) (new : Progress) (tx_new : TxState) (room : is_full tx action.act ≡ false) (tag : HasTag tells e.told) where
      abbrev IsFrom : Answer → Type 0
      IsFrom answer = IsAnswered catalog past (session_of tx action.group) action.shard action.act answer

      abbrev IsEvent : Answer → Type 0
      IsEvent answer = IsOfAct e (Some (due_as tx action)) (Some (outcome_of answer))

      by_write : IsChangeNext catalog (shown catalog past) (now_of e past) e.session stmt own tx pred p (changes_of change at.rows) action → IsFrom Done → IsEvent Done → ListsOf tx action.group action.shard Done tx_new → Goes tx (with_write p) tells new
          → ChangeTurned catalog limits past e stmt change pred route own tells new tx_new
      by_write (NextRead next main finds left) port act lists goes = absurd (true≢false (sym (port.wrote refl) ∙ ap is_write finds))
      by_write (NextWrite it next main writes here within all) port act lists goes =
          let listed = lists_by lists.0 lists.1 in
          acted_turned true tells new tx_new marks.Writes Changing next main (subst (λ (a : Act). IsMarked (shown catalog past) (session_of tx action.group) a marks.Writes) (sym writes) (change_marked (shown catalog past) (session_of tx action.group) it marks.Writes)) act.0 act.1 tt room (port.spared refl)
          (sound_write catalog limits past e stmt (plan_of change pred route) own tx p.tries p.wrote course (session_of tx action.group) action.shard action.act act.0 act.2)
          (tx_wrote limits e past e.session own tx course.is_tx lists.0 tx_new (session_of tx action.group) action.shard action.act act.0 (ap (claims_in_pre marks.Writes) writes ∙ no_claim it) (ap (removes_in_post marks.Writes) writes ∙ no_removal it)
          course.is_tx.number listed.listed listed.kept lists.2 (room_by room (ap is_write writes ∙ changes_write it)) fits)
          (ap (λ (t : TxState). t.auto) lists.2 ∙ listed.kept.auto) tag (wrote_left tells new it main writes here within all act.0 act.2 goes)

      by_rows : (rows : Rows) → IsChangeNext catalog (shown catalog past) (now_of e past) e.session stmt own tx pred p (changes_of change at.rows) action → IsFrom (Given rows) → IsEvent (Given rows) → IsListed tx action.group action.shard tx_new
          → Takes tx (first_over tx.limits p.search.tally rows) p action.shard rows tells new → ChangeTurned catalog limits past e stmt change pred route own tells new tx_new
      by_rows rows (NextRead next main finds left) port act lists takes =
          let listed = lists_by tx_new lists in
          acted_turned p.wrote tells new tx_new marks.Reads Reading next main (subst (λ (a : Act). IsMarked (shown catalog past) (session_of tx action.group) a marks.Reads) (sym finds) tt) act.0 act.1 tt room (port.spared refl) (read_sound marks.Reads act.0 refl act.2)
          (tx_acted limits e past e.session own tx course.is_tx tx_new (session_of tx action.group) action.shard action.act marks.Reads act.0 refl refl refl listed.listed listed.kept) listed.kept.auto tag
          (read_left rows tells new (first_over tx.limits p.search.tally rows) (sym (ap (λ (l : Limits). first_over l p.search.tally rows) course.is_tx.limits)) finds left act.0 act.2
          (subst (λ (a : Act). ReadsBy catalog (shown catalog past) (session_of tx action.group) action.shard a rows) finds (port.rows rows refl)) takes)
      by_rows rows (NextWrite it next main writes here within all) port act lists takes =
          absurd (no_rows catalog (shown catalog past) (session_of tx action.group) action.shard it rows (subst (λ (a : Act). ReadsBy catalog (shown catalog past) (session_of tx action.group) action.shard a rows) writes (port.rows rows refl)))

      by_answer : (answer : Answer) → IsFrom answer → IsEvent answer → ListsOf tx action.group action.shard answer tx_new → Answered catalog tx p action answer tells new → ChangeTurned catalog limits past e stmt change pred route own tells new tx_new
      by_answer Done port act lists after = by_write next_named port act lists after
      by_answer (Given rows) port act lists after = by_rows rows next_named port act lists after
      by_answer (Held by key) port act lists after =
          let listed = lists_by tx_new lists in
          let named = named_by next_named in
          acted_turned p.wrote tells new tx_new marks.Opens named.purpose named.next named.main (named.marked marks.Opens) act.0 act.1 tt room (port.spared refl) (read_sound marks.Opens act.0 refl act.2) (opened_tx tx_new act.0 listed) listed.kept.auto tag
          (held_left by key tells new (nat_lt (p.tries + 1) tx.limits.tries) refl act.0 act.2 (port.held by key refl) after)
      by_answer (Limit what times) port act lists after =
          let listed = lists_by tx_new lists in
          let named = named_by next_named in
          acted_turned p.wrote tells new tx_new marks.Opens named.purpose named.next named.main (named.marked marks.Opens) act.0 act.1 tt room (port.spared refl) (read_sound marks.Opens act.0 refl act.2) (opened_tx tx_new act.0 listed) listed.kept.auto tag
          (refused_left p.wrote (causes.Limit what times) tells new (read_sound marks.Opens act.0 refl act.2) (Spent (session_of tx action.group) action.shard action.act what times act.0 act.2 (λ k. port.spent what times k refl)) after)
      by_answer (Lost reason) port act lists after =
          let named = named_by next_named in
          lost_turned tells new tx_new (session_lost catalog action.group action.shard reason) (faults.Lost reason) named act.0 act.1 act.2
          (WasLost named.purpose (session_of tx action.group) action.group action.shard action.act reason
          (next_owned catalog limits past e stmt (plan_of change pred route) own tx p.tries p.wrote course named.purpose (session_of tx action.group) action.shard action.act named.next) refl act.1 act.2
          (loss_now e past stmt asks (session_of tx action.group) action.shard reason (port.lost reason refl)))
          after
      by_answer Device port act lists after =
          let named = named_by next_named in
          lost_turned tells new tx_new (device_failed catalog action.shard) faults.Device named act.0 act.1 act.2
          (Failed named.purpose (session_of tx action.group) action.shard action.act
          (next_owned catalog limits past e stmt (plan_of change pred route) own tx p.tries p.wrote course named.purpose (session_of tx action.group) action.shard action.act named.next) act.1 act.2)
          after
      by_answer NoMemory port act lists after =
          idle_turned tells new tx_new act.0 act.1 act.2 lists tag
          (refused_left p.wrote causes.OutOfMemory tells new (sound_idle catalog limits past e stmt (plan_of change pred route) own tx p.tries p.wrote course act.0 act.2) Memory after)
      by_answer Unchanged port act lists after = absurd after
      by_answer (Found key row) port act lists after = absurd after

    -- the write that was due would have been one change more than there may be
    full_by : IsChangeNext catalog (shown catalog past) (now_of e past) e.session stmt own tx pred p (changes_of change at.rows) action → is_full tx action.act ≡ true → e.deed ≡ deeds.Nothing → e.fault ≡ None → IsRefusal (limit_of_changes tx)
    full_by (NextRead next main finds left) full none fault = absurd (true≢false (sym full ∙ ap (is_full tx) finds))
    full_by (NextWrite it next main writes here within all) full none fault =
        let write : is_write action.act ≡ true = ap is_write writes ∙ changes_write it in
        let spent : nat_lt (changes_made (now_of e past) tx.number) limits.changes ≡ false = count_as ∙ not_true (nat_lt tx.changes tx.limits.changes) (sym (full_as tx action.act write) ∙ full) in
        subst (λ (k : ℕ). IsRefusal (causes.Limit quantities.Changes k)) (sym limit_same)
        (IsFull Changing (session_of tx action.group) action.shard action.act
        (next_owned catalog limits past e stmt (plan_of change pred route) own tx p.tries p.wrote course Changing (session_of tx action.group) action.shard action.act next) write none fault spent)

  -- ---- the step

  module _ (port port_new : PortView) (tells : ProgramTold) (new : Progress) (tx_new : TxState) (quiet : port.outcome ≡ None) (act : IsOfAct e (due_of tx p) port_new.outcome) (tag : HasTag tells e.told)
      (from : (due : Due) (answer : Answer) → due_of tx p ≡ Some due → HasActed port due.who due.shard due.act answer port_new → IsAnswered catalog past due.who due.shard due.act answer) where
    -- nothing was asked of the port
    none_asked : port_new ≡ port → (e.deed ≡ deeds.Nothing) × (e.visits ≡ None) × (e.fault ≡ None)
    none_asked same = idle_act e (due_of tx p) (subst (IsOfAct e (due_of tx p)) (ap (λ (v : PortView). v.outcome) same ∙ quiet) act)

    still_sound : e.deed ≡ deeds.Nothing → e.fault ≡ None → Sound p.wrote
    still_sound none fault = sound_idle catalog limits past e stmt (plan_of change pred route) own tx p.tries p.wrote course none fault

    asked_act : (action : Action) (answer : Answer) → due p ≡ Some action → port_new.outcome ≡ Some (outcome_of answer) → IsOfAct e (Some (due_as tx action)) (Some (outcome_of answer))
    asked_act action answer is came =
        subst (λ (o : Option Outcome). IsOfAct e (Some (due_as tx action)) o) came (subst (λ (d : Option Due). IsOfAct e d port_new.outcome) (ap (option_map (due_as tx)) is) act)

    by_step : Stepped catalog p tx port tells new tx_new port_new → ChangeTurned catalog limits past e stmt change pred route own tells new tx_new
    by_step (Idle none replies same same_tx shown) =
        let still = none_asked shown in
        let there = change_stays catalog limits (now_of e past) (Happened e ∷ past) e.session change pred route p (says_idle catalog e past still.0) at in
        idle_turned tells new tx_new still.0 still.1 still.2 same_tx tag
        (over_left p.wrote tells new (replied p tells (record { there = there; many = made.done; read = made.search.read }) (proceeds_idle e still.0 still.2) none replies) (λ on. subst GoesOn replies on))
    by_step (Full action is full replies same_tx shown) =
        let still = none_asked shown in
        idle_turned tells new tx_new still.0 still.1 still.2 same_tx tag
        (refused_left p.wrote (limit_of_changes tx) tells new (still_sound still.0 still.2) (full_by action is (next_named action is) full still.0 still.2) replies)
    by_step (NoRoom action is room replies unasked) =
        let still = none_asked unasked.shown in
        idle_turned tells new tx_new still.0 still.1 still.2 unasked.same tag (refused_left p.wrote causes.OutOfMemory tells new (still_sound still.0 still.2) Memory replies)
    by_step (Did action answer is room asked answered) =
        by_answer action is tells new tx_new room tag answer (from (due_as tx action) answer (ap (option_map (due_as tx)) is) asked.acts) (asked_act action answer is asked.acts.came) asked.lists answered

-- ---- the law

pub change_turned : (catalog : Catalog) (limits : Limits) (past : Run) (e : Event) (stmt : Stmt) (change : RowChange) (pred : Pred) (route : Route) (own : Owned) (tx : TxState) (p : Progress) (count : ℕ)
    → Course catalog limits (now_of e past) e.session stmt (plan_of change pred route) own tx p.tries p.wrote → IsChangeAt catalog limits (now_of e past) e.session change pred route p → IsMade catalog count limits.tries p → limits.changes < 2 ^ 32
    → (port port_new : PortView) (tells : ProgramTold) (new : Progress) (tx_new : TxState) → port.outcome ≡ None → Stepped catalog p tx port tells new tx_new port_new → IsStep e stmt (due_of tx p) port_new.outcome tells
    → ((due : Due) (answer : Answer) → due_of tx p ≡ Some due → HasActed port due.who due.shard due.act answer port_new → IsAnswered catalog past due.who due.shard due.act answer)
    → ChangeTurned catalog limits past e stmt change pred route own tells new tx_new
change_turned catalog limits past e stmt change pred route own tx p count course at made fits port port_new tells new tx_new quiet stepped step from =
    by_step catalog limits past e stmt change pred route own tx p count course at made fits step.asked port port_new tells new tx_new quiet step.act step.tag from stepped
