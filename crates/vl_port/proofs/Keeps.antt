-- Each call leaves a shard as it keeps itself.
use Rattle.std.proofs.Common.{◌≡◌, ◌≤◌, ◌+◌, ℕ, Bool, true, false, cond, not, ◌&&◌, ◌⊎◌, inl, inr, refl, sym, ◌∙◌, ap, subst, arith, Option, Some, None}
use Rattle.std.proofs.lemmas.Bool.{and_from, cases_Bool}
use Rattle.vl_values.specs.declared.key.Key.{Key}
use Rattle.vl_values.specs.declared.lost_why.LostWhy.{LostWhy}
use Rattle.vl_port.specs.declared.act.Act.{Act}
use Rattle.vl_port.specs.declared.answer.Answer.{Answer}
use Rattle.vl_port.specs.declared.answer.Answer.TheVariants.{Done, Unchanged, Rows, Found, Held, Lost, Device, Limit, Memory}
use Rattle.vl_port.specs.declared.carried.Carried.{Carried}
use Rattle.vl_port.specs.declared.carried.Carried.TheVariants.{Passed, LostBefore, LostAfter}
use Rattle.vl_port.specs.declared.change.Change.{Change}
use Rattle.vl_port.specs.declared.committed.Committed.{Committed}
use Rattle.vl_port.specs.declared.committed.Committed.TheVariants as outcome
use Rattle.vl_port.specs.declared.fate.Fate.{Fate}
use Rattle.vl_port.specs.declared.fate.Fate.TheVariants as fates
use Rattle.vl_port.specs.declared.opened.Opened.{Opened}
use Rattle.vl_port.specs.declared.who.Who.{Who}
use Rattle.vl_port.specs.View.{View, Values, is_who, has_group, version_for}
use Rattle.vl_port.specs.Holding.{needs, is_held_by_other, IsFree}
use Rattle.vl_port.specs.Acting.{taken, written, row_left, settled, Acted}
use Rattle.vl_port.specs.Carrying.{ActsThere, Carries, Closes, CommitCarries, CommitUses, Commits, Does, IsCutOff, Uses}
use Rattle.vl_port.specs.Keeping.{IsKept}
use Rattle.vl_port.specs.Life.{Reaches, closed, cut, downed, downed_in, dropped, is_alive, is_live, lives_in, lost_as, loss_of, marked, opened, opened_at, raised, without}
use Rattle.vl_port.specs.Taking.{takes_keys}
use Rattle.vl_port.proofs.Lives.{chosen, live_in, marked_dies, marked_young, none_down, none_some, open_lives, opened_young, own_live, past_dies, some_one}
use Rattle.vl_port.proofs.Naming.{is_who-true, apart_back, needs_takes, no_both}

-- an act that takes locks is of a session with a group
abbrev pub IsGrouped : Who → Act → Type 0
IsGrouped who act = takes_keys act ≡ true → has_group who.group ≡ true

-- ---- a shard session opens

pub kept_opened : (view : View) (who : Who) → IsKept view → view.up ≡ true → IsKept (opened who view)
kept_opened view who kept up = record {
  held = kept.held;
  live = λ key w h. and_from _ _ up (open_lives (has_group who.group && is_who who w) view.incarnation (view.sessions w) (live_in view w (kept.live key w h)));
  young = λ w session h. opened_young (has_group who.group && is_who who w) view.incarnation (view.sessions w) session (kept.young w) h;
  awake = λ w h. up;
  sure = kept.sure;
}

-- ---- keys are taken

not_false : (b : Bool) → not b ≡ false → b ≡ true
not_false true h = refl
not_false false h = absurd (cc)

rest : (a b : Bool) → a ≡ true → (a && b) ≡ false → b ≡ false
rest true b h k = k
rest false b h k = absurd (cc)

-- a free act that needs a key that is held is by the holder
by_holder : (view : View) (who other : Who) (act : Act) (key : Key) → IsFree view who act → needs view act key ≡ true → view.holder key ≡ Some other → other ≡ who
by_holder view who other act key free needed held =
    is_who-true other who (not_false (is_who other who) (rest (needs view act key) (is_held_by_other who (Some other)) needed (subst (λ (h : Option Who). (needs view act key && is_held_by_other who h) ≡ false) held (free key))))

module _ (view : View) (who : Who) (act : Act) (kept : IsKept view) (up : view.up ≡ true) (unlost : loss_of view who ≡ None) (grouped : IsGrouped who act) (free : IsFree view who act) where
  taken_held : (key : Key) (change : Change) → view.pending key ≡ Some change → (taken who act view).holder key ≡ Some change.who
  taken_held key change h =
      elim (chosen (needs view act key) (Some who) (view.holder key)) [
        | inl own ↦ own.1 ∙ ap Some (sym (by_holder view who change.who act key free own.0 (kept.held key change h)))
        | inr other ↦ other.1 ∙ kept.held key change h
      ]

  taken_live : (key : Key) (w : Who) → (taken who act view).holder key ≡ Some w → is_live (opened who view) w ≡ true
  taken_live key w h =
      elim (chosen (needs view act key) (Some who) (view.holder key)) [
        | inl own ↦ subst (λ (x : Who). is_live (opened who view) x ≡ true) (some_one who w (sym own.1 ∙ h)) (own_live view who up unlost (grouped (needs_takes view act key own.0)))
        | inr other ↦ (kept_opened view who kept up).live key w (sym other.1 ∙ h)
      ]

  pub kept_taken : IsKept (taken who act view)
  kept_taken = record {
    held = λ key change h. taken_held key change h;
    live = λ key w h. taken_live key w h;
    young = (kept_opened view who kept up).young;
    awake = λ w h. up;
    sure = kept.sure;
  }

  written_held : (key : Key) (change : Change) → (written who act view).pending key ≡ Some change → (taken who act view).holder key ≡ Some change.who
  written_held key change h =
      elim (cases_Bool (needs view act key)) [
        | inl own ↦ ap (λ (b : Bool). cond b (Some who) (view.holder key)) own ∙ ap Some (ap (λ (c : Change). c.who) (some_one _ change (sym (ap (λ (b : Bool). cond b (Some (record { who = who; row = row_left act })) (view.pending key)) own) ∙ h)))
        | inr other ↦ taken_held key change (sym (ap (λ (b : Bool). cond b (Some (record { who = who; row = row_left act })) (view.pending key)) other) ∙ h)
      ]

  pub kept_written : IsKept (written who act view)
  kept_written = record {
    held = λ key change h. written_held key change h;
    live = λ key w h. taken_live key w h;
    young = (kept_opened view who kept up).young;
    awake = λ w h. up;
    sure = kept.sure;
  }

-- ---- a shard session ends, or is lost

pub dropped_some : (who : Who) (o : Option Change) (change : Change) → dropped who o ≡ Some change → (o ≡ Some change) × (is_who change.who who ≡ false)
dropped_some who None change h = absurd (cc)
dropped_some who (Some c) change h =
    elim (chosen (is_who c.who who) None (Some c)) [
      | inl own ↦ absurd (none_some change (sym own.1 ∙ h))
      | inr other ↦ let e = some_one c change (sym other.1 ∙ h) in (ap Some e, subst (λ (x : Change). is_who x.who who ≡ false) e other.0)
    ]

pub without_some : (who : Who) (o : Option Who) (w : Who) → without who o ≡ Some w → (o ≡ Some w) × (is_who w who ≡ false)
without_some who None w h = absurd (cc)
without_some who (Some x) w h =
    elim (chosen (is_who x who) None (Some x)) [
      | inl own ↦ absurd (none_some w (sym own.1 ∙ h))
      | inr other ↦ let e = some_one x w (sym other.1 ∙ h) in (ap Some e, subst (λ (y : Who). is_who y who ≡ false) e other.0)
    ]

pub without_other : (who other : Who) → is_who other who ≡ false → without who (Some other) ≡ Some other
without_other who other apart = ap (λ (b : Bool). cond b None (Some other)) apart

-- the session's hold falls away, and its place in the list is another one, in which it doesn't live
abbrev pub rid_of : Who → (Who → Option Opened) → View → View
rid_of who sessions view = record view { pending = λ k. dropped who (view.pending k); holder = λ k. without who (view.holder k); sessions = sessions }

rid_held : (view : View) (who : Who) (key : Key) (change : Change) → IsKept view → dropped who (view.pending key) ≡ Some change → without who (view.holder key) ≡ Some change.who
rid_held view who key change kept h =
    let t = dropped_some who (view.pending key) change h in
    ap (without who) (kept.held key change t.0) ∙ without_other who change.who t.1

pub kept_rid : (view : View) (who : Who) (sessions : Who → Option Opened) → IsKept view → ((w : Who) → is_who who w ≡ false → sessions w ≡ view.sessions w)
    → ((w : Who) → is_who who w ≡ true → lives_in view.incarnation (sessions w) ≡ false) → ((w : Who) (session : Opened) → sessions w ≡ Some session → session.incarnation ≤ view.incarnation) → IsKept (rid_of who sessions view)
kept_rid view who sessions kept others dead young = record {
  held = λ key change h. rid_held view who key change kept h;
  live = λ key w h.
      let t = without_some who (view.holder key) w h in
      subst (λ (o : Option Opened). (view.up && lives_in view.incarnation o) ≡ true) (sym (others w (apart_back w who t.1))) (kept.live key w t.0);
  young = young;
  awake = λ w h.
      elim (cases_Bool (is_who who w)) [
        | inl own ↦ absurd (no_both (lives_in view.incarnation (sessions w)) h (dead w own))
        | inr apart ↦ kept.awake w (subst (λ (o : Option Opened). lives_in view.incarnation o ≡ true) (others w apart) h)
      ];
  sure = kept.sure;
}

-- it ends

ended_young : (b : Bool) (current : ℕ) (o : Option Opened) (session : Opened) → ((s : Opened) → o ≡ Some s → s.incarnation ≤ current) → cond b None o ≡ Some session → session.incarnation ≤ current
ended_young true current o session young h = absurd (none_some session h)
ended_young false current o session young h = young session h

pub kept_closed : (view : View) (who : Who) → IsKept view → IsKept (closed who view)
kept_closed view who kept =
    kept_rid view who (closed who view).sessions kept (λ w apart. ap (λ (b : Bool). cond b None (view.sessions w)) apart)
    (λ w own. ap (λ (b : Bool). lives_in view.incarnation (cond b None (view.sessions w))) own) (λ w session h. ended_young (is_who who w) view.incarnation (view.sessions w) session (kept.young w) h)

kept_committed : (view : View) (committed : Key → Option Values) → IsKept view → IsKept (record view { committed = committed })
kept_committed view committed kept = record { held = kept.held; live = kept.live; young = kept.young; awake = kept.awake; sure = kept.sure }

pub kept_settled : (view : View) (who : Who) → IsKept view → IsKept (settled who view)
kept_settled view who kept = kept_closed (record view { committed = λ k. version_for who (view.pending k) (view.committed k) }) who (kept_committed view _ kept)

-- it is lost, and may be opened for that

abbrev lost_on : Bool → Fate → Who → View → (Who → Option Opened) → View
lost_on grouped fate who view sessions = record view {
  pending = λ k. cond grouped (dropped who (view.pending k)) (view.pending k);
  holder = λ k. cond grouped (without who (view.holder k)) (view.holder k);
  sessions = λ w. cond (grouped && is_who who w) (marked fate (sessions w)) (sessions w);
}

lost_young : (b : Bool) (fate : Fate) (current : ℕ) (o : Option Opened) (session : Opened) → ((s : Opened) → o ≡ Some s → s.incarnation ≤ current) → cond b (marked fate o) o ≡ Some session → session.incarnation ≤ current
lost_young true fate current o session young h = marked_young fate current o session young h
lost_young false fate current o session young h = young session h

kept_lost_on : (grouped : Bool) (fate : Fate) (who : Who) (view : View) (sessions : Who → Option Opened) → is_alive fate ≡ false → IsKept view → ((w : Who) → (grouped && is_who who w) ≡ false → sessions w ≡ view.sessions w)
    → ((w : Who) (session : Opened) → sessions w ≡ Some session → session.incarnation ≤ view.incarnation) → IsKept (lost_on grouped fate who view sessions)
kept_lost_on true fate who view sessions dead kept others young =
    kept_rid view who (λ w. cond (is_who who w) (marked fate (sessions w)) (sessions w)) kept
    (λ w apart. ap (λ (b : Bool). cond b (marked fate (sessions w)) (sessions w)) apart ∙ others w apart)
    (λ w own. ap (λ (b : Bool). lives_in view.incarnation (cond b (marked fate (sessions w)) (sessions w))) own ∙ marked_dies fate view.incarnation (sessions w) dead)
    (λ w session h. lost_young (is_who who w) fate view.incarnation (sessions w) session (young w) h)
kept_lost_on false fate who view sessions dead kept others young = record {
  held = kept.held;
  live = λ key w h. subst (λ (o : Option Opened). (view.up && lives_in view.incarnation o) ≡ true) (sym (others w refl)) (kept.live key w h);
  young = young;
  awake = λ w h. kept.awake w (subst (λ (o : Option Opened). lives_in view.incarnation o ≡ true) (others w refl) h);
  sure = kept.sure;
}

pub kept_lost : (fate : Fate) (view : View) (who : Who) → is_alive fate ≡ false → IsKept view → IsKept (lost_as fate who view)
kept_lost fate view who dead kept = kept_lost_on (has_group who.group) fate who view view.sessions dead kept (λ w apart. refl) kept.young

pub kept_cut : (view : View) (who : Who) → IsKept view → IsKept (cut who view)
kept_cut view who kept =
    kept_lost_on (has_group who.group) fates.Cut who view (opened who view).sessions refl kept
    (λ w apart. ap (λ (b : Bool). cond b (opened_at view.incarnation (view.sessions w)) (view.sessions w)) apart)
    (λ w session h. opened_young (has_group who.group && is_who who w) view.incarnation (view.sessions w) session (kept.young w) h)

-- ---- a shard goes down and comes up

one_more : (had current : ℕ) → had ≤ current → had ≤ current + 1
one_more had current h = omega (arith, h)

pub kept_downed_in : (view : View) (who : Who) → IsKept view → IsKept (downed_in who view)
kept_downed_in view who kept = record {
  held = λ key change h. absurd (none_some change h);
  live = λ key w h. absurd (none_some w h);
  young = λ w session h. one_more session.incarnation view.incarnation (kept.young w session h);
  awake = λ w h. absurd (past_dies view.incarnation (view.sessions w) (kept.young w) h);
  sure = λ up. absurd (cc);
}

pub kept_downed : (view : View) → IsKept view → IsKept (downed view)
kept_downed view kept = record {
  held = λ key change h. absurd (none_some change h);
  live = λ key w h. absurd (none_some w h);
  young = λ w session h. one_more session.incarnation view.incarnation (kept.young w session h);
  awake = λ w h. absurd (past_dies view.incarnation (view.sessions w) (kept.young w) h);
  sure = λ up. absurd (cc);
}

pub kept_raised : (view : View) (shown : Bool) → view.up ≡ false → IsKept view → IsKept (raised shown view)
kept_raised view shown down kept = record {
  held = kept.held;
  live = λ key w h. absurd (none_down view w down (kept.live key w h));
  young = kept.young;
  awake = λ w h. refl;
  sure = λ up key. refl;
}

pub kept_reached : (old there : View) → Reaches old there → IsKept old → IsKept there
kept_reached old there (inl same) kept = subst IsKept (sym same.1) kept
kept_reached old there (inr raises) kept = subst IsKept (sym raises.1.1) (kept_raised old raises.1.0 raises.0 kept)

pub reached_up : (old there : View) → Reaches old there → there.up ≡ true
reached_up old there (inl same) = ap (λ (v : View). v.up) same.1 ∙ same.0
reached_up old there (inr raises) = ap (λ (v : View). v.up) raises.1.1

-- no session is lost or found again by that
pub reached_loss : (old there : View) (who : Who) → Reaches old there → loss_of there who ≡ loss_of old who
reached_loss old there who (inl same) = ap (λ (v : View). loss_of v who) same.1
reached_loss old there who (inr raises) = ap (λ (v : View). loss_of v who) raises.1.1

-- ---- an act

pub kept_acted : (old new : View) (who : Who) (act : Act) (answer : Answer) → IsKept old → old.up ≡ true → loss_of old who ≡ None → IsGrouped who act → Acted old who act answer new → IsKept new
kept_acted old new who act Done kept up unlost grouped h = subst IsKept (sym h.2) (kept_written old who act kept up unlost grouped h.0)
kept_acted old new who act Unchanged kept up unlost grouped h = subst IsKept (sym h.2) (kept_taken old who act kept up unlost grouped h.0)
kept_acted old new who act (Rows rows) kept up unlost grouped h = subst IsKept (sym h.2) (kept_taken old who act kept up unlost grouped h.0)
kept_acted old new who act (Found key row) kept up unlost grouped h = subst IsKept (sym h.2) (kept_taken old who act kept up unlost grouped h.0)
kept_acted old new who act (Held by key) kept up unlost grouped h = subst IsKept (sym h.1) (kept_opened old who kept up)
kept_acted old new who act (Lost why) kept up unlost grouped h = absurd h
kept_acted old new who act Device kept up unlost grouped h = absurd h
kept_acted old new who act (Limit what count) kept up unlost grouped h = subst IsKept (sym h.2) (kept_opened old who kept up)
kept_acted old new who act Memory kept up unlost grouped h = subst IsKept (sym h) kept

module _ (old new : View) (who : Who) (act : Act) (kept : IsKept old) (grouped : IsGrouped who act) where
  kept_there : (answer : Answer) → loss_of old who ≡ None → ActsThere old who act answer new → IsKept new
  kept_there answer unlost h =
      kept_acted h.0 new who act answer (kept_reached old h.0 h.1 kept) (reached_up old h.0 h.1) (reached_loss old h.0 who h.1 ∙ unlost) grouped h.2

  kept_memory : (new ≡ old) ⊎ Reaches old new → IsKept new
  kept_memory (inl same) = subst IsKept (sym same) kept
  kept_memory (inr reaches) = kept_reached old new reaches kept

  kept_does : (answer : Answer) → loss_of old who ≡ None → Does old who act answer new → IsKept new
  kept_does Done unlost h = kept_there Done unlost h
  kept_does Unchanged unlost h = kept_there Unchanged unlost h
  kept_does (Rows rows) unlost h = kept_there (Rows rows) unlost h
  kept_does (Found key row) unlost h = kept_there (Found key row) unlost h
  kept_does (Held by key) unlost h = kept_there (Held by key) unlost h
  kept_does (Limit what count) unlost h = kept_there (Limit what count) unlost h
  kept_does (Lost why) unlost h = absurd h
  kept_does Device unlost h = subst IsKept (sym h.1) (kept_cut old who kept)
  kept_does Memory unlost h = kept_memory h

  kept_used : (loss : Option LostWhy) (answer : Answer) → loss_of old who ≡ loss → Uses loss old who act answer new → IsKept new
  kept_used None answer is h = kept_does answer is h
  kept_used (Some loss) answer is h = subst IsKept (sym h.1) kept

  pub kept_uses : (answer : Answer) → Uses (loss_of old who) old who act answer new → IsKept new
  kept_uses answer h = kept_used (loss_of old who) answer refl h

pub kept_carried : (way : Carried) (old new : View) (who : Who) (act : Act) (answer : Answer) → IsKept old → IsGrouped who act → Carries way old who act answer new → IsKept new
kept_carried Passed old new who act answer kept grouped h = kept_uses old new who act kept grouped answer h
kept_carried LostBefore old new who act answer kept grouped (inl full) = subst IsKept (sym full.1) kept
kept_carried LostBefore old new who act answer kept grouped (inr off) = subst IsKept (sym off.1) (kept_cut old who kept)
kept_carried LostAfter old new who act answer kept grouped (inl full) = kept_uses old new who act kept grouped Memory full.1
kept_carried LostAfter old new who act answer kept grouped (inr lost) = subst IsKept (sym lost.4.1) (kept_cut lost.1 who (kept_uses old lost.1 who act kept grouped lost.0 lost.3))

-- ---- a commit and a close

kept_commits : (old new : View) (who : Who) (told : Committed) → IsKept old → Commits old who told new → IsKept new
kept_commits old new who outcome.Done kept h = subst IsKept (sym h) (kept_settled old who kept)
kept_commits old new who (outcome.Lost why) kept h = absurd h
kept_commits old new who outcome.Device kept h = subst IsKept (sym h.1) (kept_closed (downed_in who old) who (kept_downed_in old who kept))

kept_commit_uses : (loss : Option LostWhy) (old new : View) (who : Who) (told : Committed) → IsKept old → CommitUses loss old who told new → IsKept new
kept_commit_uses None old new who told kept h = kept_commits old new who told kept h
kept_commit_uses (Some loss) old new who told kept h = subst IsKept (sym h.1) (kept_closed old who kept)

pub kept_commit : (way : Carried) (old new : View) (who : Who) (told : Committed) → IsKept old → CommitCarries way old who told new → IsKept new
kept_commit Passed old new who told kept h = kept_commit_uses (loss_of old who) old new who told kept h
kept_commit LostBefore old new who told kept h = subst IsKept (sym h.1) (kept_closed old who kept)
kept_commit LostAfter old new who told kept h = kept_commit_uses (loss_of old who) old new who h.1.0 kept h.1.1

pub kept_ended : (old new : View) (who : Who) → IsKept old → Closes old who new → IsKept new
kept_ended old new who kept h = subst IsKept (sym h) (kept_closed old who kept)
