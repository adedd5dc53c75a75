-- A step of an INSERT's row is an event that the run allows.
use Rattle.std.proofs.Common.{◌≡◌, ◌∙◌, nat_lt, ℕ, true, false, Some, None, refl, sym, ap, subst}
use Rattle.vl_values.specs.declared.cause.Cause.TheVariants as causes
use Rattle.vl_values.specs.declared.group.Group.TheVariants.{Main}
use Rattle.vl_values.specs.declared.key.Key.{Key}
use Rattle.vl_values.specs.declared.limit.Limit.TheVariants as quantities
use Rattle.vl_catalog.specs.declared.catalog.Catalog.{Catalog}
use Rattle.vl_rules.proofs.Passed.{not_false, not_true}
use Rattle.vl_sql.specs.declared.stmt.Stmt.{Stmt}
use Rattle.vl_port.specs.declared.act.Act.{Act}
use Rattle.vl_port.specs.declared.act.Act.TheVariants.{Insert}
use Rattle.vl_port.specs.declared.answer.Answer.{Answer}
use Rattle.vl_port.specs.declared.answer.Answer.TheVariants.{Done, Unchanged, Rows as Given, Found, Held, Lost, Device, Limit, Memory as NoMemory}
use Rattle.vl_port.specs.declared.limits.Limits.{Limits}
use Rattle.vl_port.specs.declared.tx_state.TxState.{TxState}
use Rattle.vl_port.specs.declared.who.Who.{Who}
use Rattle.vl_port.specs.Asking.{IsListed, Lists}
use Rattle.vl_port.specs.Limiting.{is_full}
use Rattle.vl_port.specs.Outcomes.{outcome_of}
use Rattle.vl_port.specs.Transaction.{session_of}
use Rattle.vl_port.specs.View.{Values}
use Rattle.vl_plan.specs.declared.insert_plan.InsertPlan.{InsertPlan}
use Rattle.vl_plan.specs.declared.plan.Plan.TheVariants as plans
use Rattle.vl_statement.specs.declared.program_told.ProgramTold.{ProgramTold}
use Rattle.vl_statement.specs.Refusing.{IsRefusedFor, duplicate_row, limit_of_changes}
use Rattle.vl_insert.specs.declared.insertion.Insertion.{Insertion}
use Rattle.vl_insert.specs.declared.task.Task.TheVariants as tasks
use Rattle.vl_insert.specs.Answering.{Goes, RowAnswered, refused_now}
use Rattle.vl_insert.specs.Making.{IsInsertion}
use Rattle.vl_insert.specs.Progress.{Progress, with_task}
use Rattle.vl_run.specs.declared.deed.Deed.TheVariants as deeds
use Rattle.vl_run.specs.declared.event.Event.{Event}
use Rattle.vl_run.specs.declared.mark.Mark.{Mark}
use Rattle.vl_run.specs.declared.mark.Mark.TheVariants as marks
use Rattle.vl_run.specs.Allowed.{now_of}
use Rattle.vl_run.specs.Gathered.{shown}
use Rattle.vl_run.specs.Machine.{view}
use Rattle.vl_run.specs.Named.{Inserting, IsMarked, IsNext, key_in}
use Rattle.vl_run.specs.Named.IsDue.{Inserts}
use Rattle.vl_run.specs.Progress.{changes}
use Rattle.vl_run.specs.Refused.{is_write}
use Rattle.vl_run.specs.Refused.Refuses.{Full, HasRow}
use Rattle.vl_run.specs.Run.{Run}
use Rattle.vl_run.specs.Session.{Owned}
use Rattle.vl_course.specs.Answered.{IsAnswered}
use Rattle.vl_course.specs.Turning.{HasTag, IsOfAct}
use Rattle.vl_course.proofs.Events.{next_owned, proceeds_act}
use Rattle.vl_course.proofs.Listed.{kept_listed}
use Rattle.vl_course.proofs.Named.{session_as}
use Rattle.vl_course_insert.specs.Inserting.{InsertTurned, IsFoundAs}
use Rattle.vl_course_insert.proofs.Advances.{row_written}
use Rattle.vl_course_insert.proofs.Dues.{is_next, row_due}
use Rattle.vl_course_insert.proofs.Here.{IsRowHere, row_here}
use Rattle.vl_course_insert.proofs.Refusals.{RefusedAs, due_for, refusal_turned}
use Rattle.vl_course_insert.proofs.Taken.{tx_found, tx_row}
use Rattle.vl_course_insert.proofs.Telling.{IsFree, IsNamed, IsRefusal, IsStart, acted_turned, caused_left, count_as, goes_left, idle_turned, limit_same, or_true, read_sound, refused_left, still_sound, write_sound}

module _ {catalog : Catalog} {limits : Limits} {past : Run} {e : Event} {stmt : Stmt} {plan : InsertPlan} {own : Owned} {tx : TxState} {p : Progress} (s : IsStart catalog limits past e stmt plan own tx p)
    (insertion : Insertion)
    (is : p.task ≡ Some (tasks.Row insertion)) where
  here : IsRowHere catalog (now_of e past) e.session plan p insertion
  here = row_here s.at is

  made : IsInsertion catalog s.count insertion
  made = s.made.task (tasks.Row insertion) is

  abbrev row : Values
  row = here.row

  abbrev key : Key
  key = key_in catalog plan.table row

  abbrev who : Who
  who = session_of tx Main

  abbrev shard : ℕ
  shard = insertion.shard

  inserts : insertion.act ≡ Insert key row
  inserts = ap (λ (it : Insertion). it.act) here.is

  -- ---- the act that is due

  next : IsNext catalog (shown catalog past) (now_of e past) e.session stmt (Some own) Inserting who shard insertion.act
  next =
      is_next own s.course.planned
      (Inserts plan who shard insertion.act (row_due s.course.owned s.course.is_tx s.checked (shown catalog past) here made))

  named : IsNamed catalog past e stmt own who shard insertion.act
  named = record {
    purpose = Inserting;
    next = next;
    opens = subst (λ (a : Act). IsMarked (shown catalog past) who a marks.Opens) (sym inserts) tt;
  }

  free : is_full tx insertion.act ≡ false → IsFree s Main shard insertion.act
  free room = record { room = λ write. not_false (nat_lt tx.changes tx.limits.changes) (sym (ap (is_full tx) inserts) ∙ room); uncrossed = tt }

  did_insert : (mark : Mark) → e.deed ≡ deeds.Acts who shard insertion.act mark → e.deed ≡ deeds.Acts who shard (Insert key row) mark
  did_insert mark did = did ∙ ap (λ (a : Act). deeds.Acts who shard a mark) inserts

  module _ (tells : ProgramTold) (new : Progress) (tx_new : TxState) (tag : HasTag tells e.told) where
    abbrev Turns : Type 0
    Turns = InsertTurned catalog limits past e stmt plan own tells new tx_new

    -- the row would be one change more than there may be
    pub full_turned : e.deed ≡ deeds.Nothing → e.visits ≡ None → e.fault ≡ None → tx_new ≡ tx → is_full tx insertion.act ≡ true → tells ≡ refused_now tx p (limit_of_changes tx) → Turns
    full_turned none visits fault same full refused =
        let spent : nat_lt (changes (now_of e past) tx.number) limits.changes ≡ false = count_as s ∙ not_true (nat_lt tx.changes tx.limits.changes) (sym (ap (is_full tx) inserts) ∙ full) in
        idle_turned s tells new tx_new none visits fault same tag
        (refused_left s p.wrote (limit_of_changes tx) tells new (still_sound s none fault)
        (subst (λ (k : ℕ). IsRefusal catalog limits past e stmt (causes.Limit quantities.Changes k)) (sym (limit_same s))
        (Full Inserting who shard insertion.act
        (next_owned catalog limits past e stmt (plans.Insert plan) own tx p.tries p.wrote s.course Inserting who shard insertion.act next)
        (ap is_write inserts) none fault spent))
        refused)

    module _ (room : is_full tx insertion.act ≡ false) where
      abbrev IsFrom : Answer → Type 0
      IsFrom answer = IsAnswered catalog past who shard insertion.act answer

      abbrev IsEvent : Answer → Type 0
      IsEvent answer = IsOfAct e (Some (due_for tx Main shard insertion.act)) (Some (outcome_of answer))

      -- the row was written
      written : IsFrom Done → IsFoundAs catalog past who insertion.act Done → IsEvent Done → Lists tx Main shard Done tx_new → Goes tx (with_task true p) tells new → Turns
      written port found act lists goes =
          let deed = did_insert marks.Writes act.0 in
          let listed = kept_listed tx lists.0 Main shard lists.1 in
          let there = row_written e past s.at here who shard refl deed (with_task true p) (record { task = refl; later = refl; rows = refl }) in
          acted_turned s Main shard insertion.act true tells new tx_new marks.Writes Inserting next (subst (λ (a : Act). IsMarked (shown catalog past) who a marks.Writes) (sym inserts) (found.inserted key row inserts refl))
          act.0 act.1 tt (free room) (port.spared refl)
          (write_sound s Main shard insertion.act act.0 act.2) (tx_row limits e past e.session own tx s.course.is_tx Main shard key row lists.0 tx_new lists.1 lists.2 ((free room).room (ap is_write inserts)) s.fits deed refl)
          (ap (λ (t : TxState). t.auto) lists.2 ∙ listed.auto) tag
          (goes_left s true (with_task true p) tells new refl (or_true p.wrote) there (proceeds_act e who shard (Insert key row) marks.Writes deed tt act.2) goes)

      -- one with its key stands already
      stands_there : (k : Key) (other : Values) → IsFrom (Found k other) → IsFoundAs catalog past who insertion.act (Found k other) → IsEvent (Found k other) → IsListed tx Main shard tx_new
          → IsRefusedFor tx p.wrote tells (duplicate_row catalog shard k) → Turns
      stands_there k other port found act lists refused =
          let deed = did_insert marks.Takes act.0 in
          let seen = found.found key k row other inserts refl in
          let by = session_as limits (now_of e past) e.session own tx s.course.is_tx Main in
          let refuses : IsRefusal catalog limits past e stmt (duplicate_row catalog shard k) = subst (λ (it : Key). IsRefusal catalog limits past e stmt (duplicate_row catalog shard it)) (sym seen.0)
          (HasRow own.number who shard key row deed act.2 by (other, ap (λ (w : Who). view (shown catalog past) w key) (sym by) ∙ seen.1)) in
          acted_turned s Main shard insertion.act p.wrote tells new tx_new marks.Takes Inserting next (subst (λ (a : Act). IsMarked (shown catalog past) who a marks.Takes) (sym inserts) (other, seen.1))
          act.0 act.1 tt (free room) (port.spared refl)
          (read_sound s Main shard insertion.act marks.Takes act.0 refl act.2) (tx_found limits e past e.session own tx s.course.is_tx Main shard key row tx_new lists deed refl) (kept_listed tx tx_new Main shard lists).auto tag
          (caused_left s p.wrote (duplicate_row catalog shard k) tells new (read_sound s Main shard insertion.act marks.Takes act.0 refl act.2) refuses refused)

      refused_by : (answer : Answer) → IsFrom answer → IsEvent answer → Lists tx Main shard answer tx_new → tx_new.claimed ≡ tx.claimed → RefusedAs catalog tx p Main shard answer tells new → Turns
      refused_by answer port act lists kept after =
          refusal_turned s Main shard insertion.act named (free room) tells new tx_new tag answer port act (record { mid = tx_new; lists = lists; claims = tx_new.claimed; same = refl; kept = kept }) after

      pub row_turned : (answer : Answer) → IsFrom answer → IsFoundAs catalog past who insertion.act answer → IsEvent answer → Lists tx Main shard answer tx_new → RowAnswered catalog tx p shard answer tells new → Turns
      row_turned Done port found act lists after = written port found act lists after
      row_turned (Found k other) port found act lists after = stands_there k other port found act lists after
      row_turned (Held by k) port found act lists after = refused_by (Held by k) port act lists (kept_listed tx tx_new Main shard lists).claimed after
      row_turned (Limit what count) port found act lists after = refused_by (Limit what count) port act lists (kept_listed tx tx_new Main shard lists).claimed after
      row_turned (Lost why) port found act lists after = refused_by (Lost why) port act lists (kept_listed tx tx_new Main shard lists).claimed after
      row_turned Device port found act lists after = refused_by Device port act lists (kept_listed tx tx_new Main shard lists).claimed after
      row_turned NoMemory port found act lists after = refused_by NoMemory port act lists (ap (λ (t : TxState). t.claimed) lists) after
      row_turned Unchanged port found act lists after = absurd after
      row_turned (Given rows) port found act lists after = absurd after
