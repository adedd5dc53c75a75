-- The act that was due came about as the event of the step keeps it.
use Rattle.std.proofs.Common.{◌≡◌, ◌∙◌, ◌⊎◌, inl, inr, ℕ, Option, Some, None, refl, ap, subst}
use Rattle.std.specs.Option.{is_some}
use Rattle.vl_catalog.specs.declared.catalog.Catalog.{Catalog}
use Rattle.vl_port.specs.declared.answer.Answer.{Answer}
use Rattle.vl_port.specs.declared.answer.Answer.TheVariants.{Done, Unchanged, Rows, Found, Held, Lost, Device, Limit, Memory}
use Rattle.vl_port.specs.declared.outcome.Outcome.{Outcome}
use Rattle.vl_port.specs.declared.outcome.Outcome.TheVariants as outcomes
use Rattle.vl_port.specs.declared.tx_state.TxState.{TxState}
use Rattle.vl_port.specs.Calls.{HasActed, PortView}
use Rattle.vl_port.specs.Outcomes.{outcome_of}
use Rattle.vl_run.specs.declared.event.Event.{Event}
use Rattle.vl_run.specs.declared.fault.Fault.{Fault}
use Rattle.vl_replay.specs.Calls.{ActsOn}
use Rattle.vl_replay.specs.Marks.{deed_of, mark_of}
use Rattle.vl_course.specs.Turning.{Due, IsOfAct, deed_of as told_deed, fault_of}
use Rattle.vl_course.proofs.Events.{idle_act}
use Rattle.vl_course_program.specs.Fitting.{IsDueFit}
use Rattle.vl_course_program.specs.Programs.{HasDone}
use Rattle.vl_running.specs.Happening.{Happens}
use Rattle.vl_running.specs.Happening.Happens.{Back, Gone, Still}

same_deed : (due : Due) (o : Outcome) → told_deed due (Some o) ≡ deed_of due.who due.shard due.act (mark_of due.mark o)
same_deed due outcomes.Refused = refl
same_deed due outcomes.Opened = refl
same_deed due outcomes.Took = refl
same_deed due outcomes.Wrote = refl
same_deed due (outcomes.Lost why) = refl
same_deed due outcomes.Device = refl

module _ (catalog : Catalog) (count : ℕ) (tx : TxState) (old new : PortView) (e : Event) where
  acts_on : (due : Due) (answer : Answer) → IsDueFit catalog count tx due → HasActed old due.who due.shard due.act answer new → ActsOn catalog count old due.who due.shard due.act answer new
  acts_on due answer fit acts = record { acted = acts; within = fit.within; fits = fit.fits; lane = fit.lane }

  came : (due : Due) (answer : Answer) → IsDueFit catalog count tx due → HasActed old due.who due.shard due.act answer new → e.deed ≡ told_deed due (Some (outcome_of answer)) → e.fault ≡ fault_of (Some (outcome_of answer)) → Happens catalog count tx old new e
  came due Done fit acts deed fault = Back due Done (acts_on due Done fit acts) tt fit.number fit.session fit.mark (deed ∙ same_deed due outcomes.Wrote) fault
  came due Unchanged fit acts deed fault = Back due Unchanged (acts_on due Unchanged fit acts) tt fit.number fit.session fit.mark (deed ∙ same_deed due outcomes.Took) fault
  came due (Rows rows) fit acts deed fault = Back due (Rows rows) (acts_on due (Rows rows) fit acts) tt fit.number fit.session fit.mark (deed ∙ same_deed due outcomes.Took) fault
  came due (Found key row) fit acts deed fault = Back due (Found key row) (acts_on due (Found key row) fit acts) tt fit.number fit.session fit.mark (deed ∙ same_deed due outcomes.Took) fault
  came due (Held by key) fit acts deed fault = Back due (Held by key) (acts_on due (Held by key) fit acts) tt fit.number fit.session fit.mark (deed ∙ same_deed due outcomes.Opened) fault
  came due (Limit what most) fit acts deed fault = Back due (Limit what most) (acts_on due (Limit what most) fit acts) tt fit.number fit.session fit.mark (deed ∙ same_deed due outcomes.Opened) fault
  came due Memory fit acts deed fault = Back due Memory (acts_on due Memory fit acts) tt fit.number fit.session fit.mark (deed ∙ same_deed due outcomes.Refused) fault
  came due (Lost why) fit acts deed fault = Gone due (Lost why) (acts_on due (Lost why) fit acts) (λ back. back) fit.number fit.session deed (ap (λ (f : Option Fault). is_some f) fault)
  came due Device fit acts deed fault = Gone due Device (acts_on due Device fit acts) (λ back. back) fit.number fit.session deed (ap (λ (f : Option Fault). is_some f) fault)

  pub happens_so : (due : Option Due) → (new ≡ old) ⊎ HasDone old due new → old.outcome ≡ None → IsOfAct e due new.outcome → ((it : Due) → due ≡ Some it → IsDueFit catalog count tx it) → Happens catalog count tx old new e
  happens_so due (inl same) none act fits =
      let idle = idle_act e due (subst (λ (o : Option Outcome). IsOfAct e due o) (ap (λ (p : PortView). p.outcome) same ∙ none) act) in
      Still (ap (λ (p : PortView). p.shards) same) idle.0 idle.2
  happens_so due (inr done) none act fits =
      let it : IsOfAct e (Some done.act) (Some (outcome_of done.answer)) =
      subst (λ (o : Option Outcome). IsOfAct e (Some done.act) o) done.acted.came (subst (λ (d : Option Due). IsOfAct e d new.outcome) done.was act) in
      came done.act done.answer (fits done.act done.was) done.acted it.0 it.2
