-- A loss by the link is told only where the link's count rose in this call, of a session that the link hasn't cut
-- before; and what is answered otherwise cuts none.
use Rattle.std.proofs.Common.{◌≡◌, ◌==◌, ◌⊎◌, ℕ, Bool, true, false, ◌&&◌, cond, Option, None, Some, inl, inr, refl, sym, ap, ◌∙◌, subst, eqb-true}
use Rattle.std.proofs.lemmas.Bool.{eq-eqb}
use Rattle.std.proofs.lemmas.Option.{same_Some}
use Rattle.vl_base.specs.Faults.{Rose}
use Rattle.vl_values.specs.declared.group.Group.{Group}
use Rattle.vl_values.specs.declared.lost_why.LostWhy.{LostWhy}
use Rattle.vl_values.specs.declared.lost_why.LostWhy.TheVariants as why
use Rattle.vl_port.specs.declared.act.Act.{Act}
use Rattle.vl_port.specs.declared.answer.Answer.{Answer}
use Rattle.vl_port.specs.declared.answer.Answer.TheVariants.{Done, Unchanged, Rows, Found, Held, Lost, Device, Limit, Memory}
use Rattle.vl_port.specs.declared.asked.Asked.{Asked}
use Rattle.vl_port.specs.declared.asked.Asked.TheVariants.{Unlisted, Answered}
use Rattle.vl_port.specs.declared.carried.Carried.{Carried}
use Rattle.vl_port.specs.declared.carried.Carried.TheVariants.{Passed, LostBefore, LostAfter}
use Rattle.vl_port.specs.declared.fate.Fate.{Fate}
use Rattle.vl_port.specs.declared.fate.Fate.TheVariants as fates
use Rattle.vl_port.specs.declared.opened.Opened.{Opened}
use Rattle.vl_port.specs.declared.tx_state.TxState.{TxState}
use Rattle.vl_port.specs.declared.who.Who.{Who}
use Rattle.vl_port.specs.Acting.{Acted}
use Rattle.vl_port.specs.Asking.{HasAsked, IsUncut}
use Rattle.vl_port.specs.Calls.{HasActed, PortView}
use Rattle.vl_port.specs.Carrying.{ActsThere, Carries, Does, Uses}
use Rattle.vl_port.specs.Counting.{Faults, IsCounted}
use Rattle.vl_port.specs.Life.{Reaches, loss_in, loss_of, opened, opened_at, why_lost}
use Rattle.vl_port.specs.Transaction.{session_of}
use Rattle.vl_port.specs.View.{View, has_group, is_who}
use Rattle.vl_port.proofs.Strangers.{reached_sessions}

-- ---- who is cut

restarted : (b : Bool) (had current : ℕ) → cond b None (Some (why.Restarted had current)) ≡ Some why.Link → ⊥
restarted true had current e = cc e
restarted false had current e = cc e

cut_alone : (fate : Fate) (had current : ℕ) → why_lost fate had current ≡ Some why.Link → fate ≡ fates.Cut
cut_alone fates.Live had current e = absurd (restarted (had == current) had current e)
cut_alone fates.Dropped had current e = absurd (cc e)
cut_alone fates.Cut had current e = refl

abbrev IsUncutAt : Option Opened → Type 0
IsUncutAt o = (session : Opened) → o ≡ Some session → session.fate ≡ fates.Cut → ⊥

of_session : (current : ℕ) (o : Option Opened) → IsUncutAt o → loss_in current o ≡ Some why.Link → ⊥
of_session current None uncut e = cc e
of_session current (Some session) uncut e = uncut session refl (cut_alone session.fate session.incarnation current e)

-- ---- the cause

abbrev lost_in : Answer → Option LostWhy
lost_in Done = None
lost_in Unchanged = None
lost_in (Rows rows) = None
lost_in (Found key row) = None
lost_in (Held by key) = None
lost_in (Lost why) = Some why
lost_in Device = None
lost_in (Limit what count) = None
lost_in Memory = None

module _ (old new : View) (who : Who) (act : Act) where
  not_used : (loss : Option LostWhy) → (loss ≡ Some why.Link → ⊥) → Uses loss old who act (Lost why.Link) new → ⊥
  not_used None uncut h = h
  not_used (Some loss) uncut h = uncut (sym (ap lost_in h.0))

  by_way : (way : Carried) (faults after : Faults) (shard : ℕ) → (loss_of old who ≡ Some why.Link → ⊥) → Carries way old who act (Lost why.Link) new → IsCounted faults shard way (Lost why.Link) after → Rose faults.link after.link
  by_way Passed faults after shard uncut h counted = absurd (not_used (loss_of old who) uncut h)
  by_way LostBefore faults after shard uncut h counted = counted.link
  by_way LostAfter faults after shard uncut h counted = counted.link

pub lost_by_link : (old new : PortView) (who : Who) (shard : ℕ) (act : Act) → IsUncut (old.shards shard) who → HasActed old who shard act (Lost why.Link) new → Rose old.faults.link new.faults.link
lost_by_link old new who shard act uncut h =
    by_way (old.shards shard) (new.shards shard) who act new.way old.faults new.faults shard (of_session (old.shards shard).incarnation ((old.shards shard).sessions who) uncut) h.acted h.counted

abbrev answer_in : Asked → Option Answer
answer_in Unlisted = None
answer_in (Answered answer) = Some answer

pub asked_cause : (old new : PortView) (tx tx_new : TxState) (group : Group) (shard : ℕ) (act : Act) (asked : Asked) → HasAsked old tx group shard act asked tx_new new → IsUncut (old.shards shard) (session_of tx group)
    → asked ≡ Answered (Lost why.Link) → Rose old.faults.link new.faults.link
asked_cause old new tx tx_new group shard act Unlisted h uncut is = absurd (cc is)
asked_cause old new tx tx_new group shard act (Answered answer) h uncut is =
    lost_by_link old new (session_of tx group) shard act uncut
    (subst (λ (a : Answer). HasActed old (session_of tx group) shard act a new) (same_Some answer (Lost why.Link) (ap answer_in is)) h.acts)

-- ---- what is answered otherwise cuts no session

uncut_as : (a b : Option Opened) → b ≡ a → IsUncutAt a → IsUncutAt b
uncut_as a b same uncut = subst IsUncutAt (sym same) uncut

abbrev fate_in : Option Opened → Option Fate
fate_in None = None
fate_in (Some session) = Some session.fate

live_uncut : Some fates.Live ≡ Some fates.Cut → ⊥
live_uncut e = cc e

uncut_opening : (current : ℕ) (o : Option Opened) → IsUncutAt o → IsUncutAt (opened_at current o)
uncut_opening current None uncut session is cut = live_uncut (ap fate_in is ∙ ap (λ (f : Fate). Some f) cut)
uncut_opening current (Some session) uncut opens is cut = uncut opens is cut

uncut_if : (b : Bool) (current : ℕ) (o : Option Opened) → IsUncutAt o → IsUncutAt (cond b (opened_at current o) o)
uncut_if true current o uncut = uncut_opening current o uncut
uncut_if false current o uncut = uncut

module _ (old new : View) (who other : Who) (act : Act) where
  -- as an act leaves it that did open its session, or didn't
  uncut_opened : (there : View) → new.sessions other ≡ (opened who there).sessions other → there.sessions other ≡ old.sessions other → IsUncut old other → IsUncut new other
  uncut_opened there is reached uncut =
      uncut_as ((opened who there).sessions other) (new.sessions other) is
      (uncut_if (has_group who.group && is_who who other) there.incarnation (there.sessions other) (uncut_as (old.sessions other) (there.sessions other) reached uncut))

  uncut_acted : (there : View) (answer : Answer) → there.sessions other ≡ old.sessions other → Acted there who act answer new → IsUncut old other → IsUncut new other
  uncut_acted there Done reached h uncut = uncut_opened there (ap (λ (v : View). v.sessions other) h.2) reached uncut
  uncut_acted there Unchanged reached h uncut = uncut_opened there (ap (λ (v : View). v.sessions other) h.2) reached uncut
  uncut_acted there (Rows rows) reached h uncut = uncut_opened there (ap (λ (v : View). v.sessions other) h.2) reached uncut
  uncut_acted there (Found key row) reached h uncut = uncut_opened there (ap (λ (v : View). v.sessions other) h.2) reached uncut
  uncut_acted there (Held by key) reached h uncut = uncut_opened there (ap (λ (v : View). v.sessions other) h.1) reached uncut
  uncut_acted there (Lost why) reached h uncut = absurd h
  uncut_acted there Device reached h uncut = absurd h
  uncut_acted there (Limit what count) reached h uncut = uncut_opened there (ap (λ (v : View). v.sessions other) h.2) reached uncut
  uncut_acted there Memory reached h uncut = uncut_as (there.sessions other) (new.sessions other) (ap (λ (v : View). v.sessions other) h) (uncut_as (old.sessions other) (there.sessions other) reached uncut)

  uncut_there : (answer : Answer) → ActsThere old who act answer new → IsUncut old other → IsUncut new other
  uncut_there answer h uncut = uncut_acted h.0 answer (reached_sessions old h.0 other h.1) h.2 uncut

  uncut_memory : (new ≡ old) ⊎ Reaches old new → IsUncut old other → IsUncut new other
  uncut_memory (inl same) uncut = uncut_as (old.sessions other) (new.sessions other) (ap (λ (v : View). v.sessions other) same) uncut
  uncut_memory (inr reaches) uncut = uncut_as (old.sessions other) (new.sessions other) (reached_sessions old new other reaches) uncut

  uncut_does : (answer : Answer) → (answer ≡ Device → ⊥) → Does old who act answer new → IsUncut old other → IsUncut new other
  uncut_does Done well h uncut = uncut_there Done h uncut
  uncut_does Unchanged well h uncut = uncut_there Unchanged h uncut
  uncut_does (Rows rows) well h uncut = uncut_there (Rows rows) h uncut
  uncut_does (Found key row) well h uncut = uncut_there (Found key row) h uncut
  uncut_does (Held by key) well h uncut = uncut_there (Held by key) h uncut
  uncut_does (Limit what count) well h uncut = uncut_there (Limit what count) h uncut
  uncut_does (Lost why) well h uncut = absurd h
  uncut_does Device well h uncut = absurd (well refl)
  uncut_does Memory well h uncut = uncut_memory h uncut

  uncut_used : (loss : Option LostWhy) (answer : Answer) → (answer ≡ Device → ⊥) → Uses loss old who act answer new → IsUncut old other → IsUncut new other
  uncut_used None answer well h uncut = uncut_does answer well h uncut
  uncut_used (Some loss) answer well h uncut = uncut_as (old.sessions other) (new.sessions other) (ap (λ (v : View). v.sessions other) h.1) uncut

  uncut_by : (way : Carried) (answer : Answer) → (answer ≡ Device → ⊥) → (answer ≡ Lost why.Link → ⊥) → Carries way old who act answer new → IsUncut old other → IsUncut new other
  uncut_by Passed answer well heard h uncut = uncut_used (loss_of old who) answer well h uncut
  uncut_by LostBefore answer well heard (inl full) uncut = uncut_as (old.sessions other) (new.sessions other) (ap (λ (v : View). v.sessions other) full.1) uncut
  uncut_by LostBefore answer well heard (inr off) uncut = absurd (heard off.0)
  uncut_by LostAfter answer well heard (inl full) uncut = uncut_used (loss_of old who) Memory memory_well full.1 uncut
    where
      memory_well : Memory ≡ Device → ⊥
      memory_well e = cc e
  uncut_by LostAfter answer well heard (inr lost) uncut = absurd (heard lost.4.0)

unequal : false ≡ true → ⊥
unequal e = cc e

-- of any session on any shard
pub uncut_carried : (old new : PortView) (who other : Who) (shard at : ℕ) (act : Act) (answer : Answer) → (answer ≡ Device → ⊥) → (answer ≡ Lost why.Link → ⊥) → HasActed old who shard act answer new → IsUncut (old.shards at) other
    → IsUncut (new.shards at) other
uncut_carried old new who other shard at act answer well heard h uncut = at_shard (at == shard) refl
  where
    at_shard : (b : Bool) → (at == shard) ≡ b → IsUncut (new.shards at) other
    at_shard true is =
        let same : at ≡ shard = eqb-true at shard is in
        subst (λ (s : ℕ). IsUncut (new.shards s) other) (sym same)
        (uncut_by (old.shards shard) (new.shards shard) who other act new.way answer well heard h.acted (subst (λ (s : ℕ). IsUncut (old.shards s) other) same uncut))
    at_shard false is = uncut_as ((old.shards at).sessions other) ((new.shards at).sessions other) (ap (λ (v : View). v.sessions other) (h.others at (λ same. unequal (sym is ∙ eq-eqb at shard same)))) uncut
