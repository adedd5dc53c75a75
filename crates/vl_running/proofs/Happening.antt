-- What the shards show behind a step, and which steps the one table makes, where the transaction stays open and where all of it
-- ends.
use Rattle.std.proofs.Common.{◌≡◌, ◌∙◌, ◌∷◌, ℕ, true, false, length, None, refl, sym, ap, subst}
use Rattle.std.specs.Option.{is_some}
use Rattle.vl_catalog.specs.declared.catalog.Catalog.{Catalog}
use Rattle.vl_sql.specs.declared.stmt.Stmt.{Stmt}
use Rattle.vl_port.specs.declared.answer.Answer.{Answer}
use Rattle.vl_port.specs.declared.answer.Answer.TheVariants.{Done, Unchanged, Rows, Found, Held, Lost, Device, Limit, Memory}
use Rattle.vl_port.specs.declared.tx_state.TxState.{TxState}
use Rattle.vl_port.specs.Calls.{PortView}
use Rattle.vl_port.specs.Life.{loss_of}
use Rattle.vl_port.specs.Outcomes.{outcome_of}
use Rattle.vl_port.specs.Serving.{Shards}
use Rattle.vl_commit.specs.Closing.{AreClosed}
use Rattle.vl_commit.specs.Sessions.{AreLeft, sessions}
use Rattle.vl_run.specs.declared.deed.Deed.{Deed}
use Rattle.vl_run.specs.declared.deed.Deed.TheVariants as deeds
use Rattle.vl_run.specs.declared.ends.Ends.TheVariants as ends
use Rattle.vl_run.specs.declared.event.Event.{Event}
use Rattle.vl_run.specs.Deeds.{deed_steps, steps_of}
use Rattle.vl_run.specs.Machine.{CanStepAll}
use Rattle.vl_run.specs.Run.{Run, cells, is_broken, state}
use Rattle.vl_run.specs.Run.Point.{Happened}
use Rattle.vl_replay.specs.Ending.{IsIdle, IsNoAct}
use Rattle.vl_replay.specs.Marks.{HasComeBack, MayHaveWritten, deed_of, mark_of}
use Rattle.vl_replay.specs.Showing.{IsOwned, Shows}
use Rattle.vl_replay.proofs.Ends.{ended_steps}
use Rattle.vl_replay.proofs.Refusals.{lost_shows, owned_acted}
use Rattle.vl_replay.proofs.Standing.{acted_shows, rolled_back_shows}
use Rattle.vl_replay.proofs.Stepping.{acted_steps}
use Rattle.vl_course.specs.Answered.{AreMarked}
use Rattle.vl_course.specs.Turning.{Due, IsOfStmt}
use Rattle.vl_session.specs.Turning.{IsClear}
use Rattle.vl_running.specs.Happening.{Happens}
use Rattle.vl_running.specs.Happening.Happens.{Back, Gone, Still}
use Rattle.vl_running.proofs.Marked.{loss_stays, marks_stay}
use Rattle.vl_running.proofs.Wholes.{can_end, ends_alone, still_shows, whole_shows, without_ends}

-- a row that was written clashes with none
written_as : (catalog : Catalog) (past : Run) (due : Due) (answer : Answer) (deed : Deed) → deed ≡ deed_of due.who due.shard due.act (mark_of due.mark (outcome_of answer)) → IsClear catalog past deed
    → HasComeBack answer → MayHaveWritten catalog past due.who due.act answer
written_as catalog past due Done deed is clear back = subst (IsClear catalog past) is clear
written_as catalog past due Unchanged deed is clear back = tt
written_as catalog past due (Rows rows) deed is clear back = tt
written_as catalog past due (Found key row) deed is clear back = tt
written_as catalog past due (Held by key) deed is clear back = tt
written_as catalog past due (Lost reason) deed is clear back = tt
written_as catalog past due Device deed is clear back = tt
written_as catalog past due (Limit what count) deed is clear back = tt
written_as catalog past due Memory deed is clear back = tt

module _ (catalog : Catalog) (past : Run) (count : ℕ) (tx : TxState) (old new : PortView) (e : Event) (shows : Shows catalog past count old.shards) (owned : IsOwned tx.number tx.session count old.shards) where
  idle : e.deed ≡ deeds.Nothing → IsIdle e.deed
  idle is = subst IsIdle (sym is) tt

  no_act : e.deed ≡ deeds.Nothing → IsNoAct e.deed
  no_act is = subst IsNoAct (sym is) tt

  failed_never : e.fault ≡ None → is_some e.fault ≡ true → ⊥
  failed_never none failed = absurd (true_none (sym failed ∙ ap is_some none))
    where
      true_none : true ≡ false → ⊥
      true_none same = cc

  -- ---- the transaction stays

  pub open_shows : Happens catalog count tx old new e → e.fault ≡ None → e.ends ≡ ends.Nobody → Shows catalog (Happened e ∷ past) count new.shards
  open_shows (Still same deed none) sound gone = subst (Shows catalog (Happened e ∷ past) count) (sym same) (still_shows catalog past e deed gone count old.shards shows)
  open_shows (Back due answer acts back number session taking deed none) sound gone =
      acted_shows catalog past count old new due.who due.shard due.act answer due.mark e shows acts back (record { takes = taking; deed = deed; ends = gone })
  open_shows (Gone due answer acts lost number session deed failed) sound gone = absurd (failed_never sound failed)

  pub open_marks : (stmt : Stmt) → IsOfStmt e.request stmt → Happens catalog count tx old new e → e.fault ≡ None → AreMarked past tx.number old.shards → AreMarked (Happened e ∷ past) tx.number new.shards
  open_marks stmt is (Still same deed none) sound marks = marks_stay e past stmt tx.number old.shards new.shards is (λ t w. ap (λ (seen : Shards). loss_of (seen t) w) same) marks
  open_marks stmt is (Back due answer acts back number session taking deed none) sound marks =
      marks_stay e past stmt tx.number old.shards new.shards is (loss_stays old new due.who due.shard due.act answer acts.acted (shows.up due.shard acts.within) back) marks
  open_marks stmt is (Gone due answer acts lost number session deed failed) sound marks = absurd (failed_never sound failed)

  -- ---- all of it ends

  module _ (after : TxState) (newer : PortView) (same_number : after.number ≡ tx.number) (same_session : after.session ≡ tx.session) (left : AreLeft after 0 count new.shards) (closed : AreClosed after 0 (length (sessions after)) new newer) (gone : e.ends ≡ ends.Whole after.number) where
    owned_after : (seen : Shards) → IsOwned tx.number tx.session count seen → IsOwned after.number after.session count seen
    owned_after seen own = subst (λ (s : ℕ). IsOwned after.number s count seen) (sym same_session) (subst (λ (n : ℕ). IsOwned n tx.session count seen) (sym same_number) own)

    pub over_shows : Happens catalog count tx old new e → Shows catalog (Happened e ∷ past) count newer.shards
    over_shows (Still same deed none) =
        rolled_back_shows catalog past after count new newer e (subst (Shows catalog past count) (sym same) shows) (owned_after new.shards (subst (λ (seen : Shards). IsOwned tx.number tx.session count seen) (sym same) owned)) left closed (idle deed) gone
    over_shows (Back due answer acts back number session taking deed none) =
        let first : Shows catalog (Happened (without_ends e) ∷ past) count new.shards = acted_shows catalog past count old new due.who due.shard due.act answer due.mark (without_ends e) shows acts back (record { takes = taking; deed = deed; ends = refl }) in
        let own : IsOwned tx.number tx.session count new.shards = owned_acted tx.number tx.session count old new due.who due.shard due.act answer acts.acted (λ n. session) owned in
        whole_shows catalog past e after.number gone count newer.shards
        (rolled_back_shows catalog (Happened (without_ends e) ∷ past) after count new newer (ends_alone e after.number) first (owned_after new.shards own) left closed tt refl)
    over_shows (Gone due answer acts lost number session deed failed) =
        lost_shows catalog past after count old new newer due.who due.shard due.act answer e shows (owned_after old.shards owned) acts lost (number ∙ sym same_number) left closed (idle deed) gone

  pub over_steps : Happens catalog count tx old new e → IsClear catalog past e.deed → CanStepAll catalog (is_broken past) (state catalog past) (steps_of catalog (cells catalog past) e)
  over_steps (Still same deed none) clear = ended_steps catalog past e (no_act deed)
  over_steps (Back due answer acts back number session taking deed none) clear =
      can_end catalog (is_broken past) (deed_steps catalog (cells catalog past) e.deed) (state catalog past) ends.Nobody e.ends
      (acted_steps catalog past count old new due.who due.shard due.act shows answer due.mark (without_ends e) acts back (record { takes = taking; deed = deed; ends = refl })
      (written_as catalog past due answer e.deed deed clear back))
  over_steps (Gone due answer acts lost number session deed failed) clear = ended_steps catalog past e (no_act deed)
