-- Which sessions live: those that were opened at the shard's incarnation and aren't lost.
use Rattle.std.proofs.Common.{◌≡◌, ◌==◌, ◌≤◌, ◌+◌, ℕ, Bool, true, false, cond, ◌&&◌, ◌⊎◌, inl, inr, refl, sym, ◌∙◌, ap, subst, eqb-true, arith, Option, Some, None}
use Rattle.std.specs.Option.{is_some}
use Rattle.std.proofs.lemmas.Bool.{and_parts, and_from, cases_Bool, eq-eqb}
use Rattle.vl_values.specs.declared.lost_why.LostWhy.{LostWhy}
use Rattle.vl_values.specs.declared.lost_why.LostWhy.TheVariants as why
use Rattle.vl_port.specs.declared.fate.Fate.{Fate}
use Rattle.vl_port.specs.declared.fate.Fate.TheVariants as fates
use Rattle.vl_port.specs.declared.opened.Opened.{Opened}
use Rattle.vl_port.specs.declared.who.Who.{Who}
use Rattle.vl_port.specs.Life.{is_alive, is_live, lives_in, loss_in, loss_of, marked, opened, opened_at, why_lost}
use Rattle.vl_port.specs.View.{View, has_group, is_who}
use Rattle.vl_port.proofs.Naming.{is_who-same, no_both}

-- ---- choices

-- a choice is one of its two sides
pub chosen : {X : Type 0} (b : Bool) (x y : X) → ((b ≡ true) × (cond b x y ≡ x)) ⊎ ((b ≡ false) × (cond b x y ≡ y))
chosen true x y = inl (refl, refl)
chosen false x y = inr (refl, refl)

pub some_one : {X : Type 0} (x y : X) → Some x ≡ Some y → x ≡ y
some_one x y h = cc

pub none_some : {X : Type 0} (x : X) → None ≡ Some x → ⊥
none_some x h = cc

-- ---- a session opens

pub opened_some : (incarnation : ℕ) (o : Option Opened) → is_some (opened_at incarnation o) ≡ true
opened_some incarnation None = refl
opened_some incarnation (Some session) = refl

pub open_stays : (b : Bool) (incarnation : ℕ) (o : Option Opened) → is_some o ≡ true → is_some (cond b (opened_at incarnation o) o) ≡ true
open_stays true incarnation o h = opened_some incarnation o
open_stays false incarnation o h = h

pub open_lives : (b : Bool) (incarnation : ℕ) (o : Option Opened) → lives_in incarnation o ≡ true → lives_in incarnation (cond b (opened_at incarnation o) o) ≡ true
open_lives true incarnation None h = absurd (cc)
open_lives true incarnation (Some session) h = h
open_lives false incarnation o h = h

unlost_lives : (fate : Fate) (had current : ℕ) → why_lost fate had current ≡ None → (is_alive fate && (had == current)) ≡ true
unlost_lives fates.Live had current h =
    elim (chosen (had == current) None (Some (why.Restarted had current))) [
      | inl same ↦ same.0
      | inr apart ↦ absurd (none_some (why.Restarted had current) (sym h ∙ apart.1))
    ]
unlost_lives fates.Dropped had current h = absurd (none_some why.Dropped (sym h))
unlost_lives fates.Cut had current h = absurd (none_some why.Link (sym h))

-- a session that isn't lost lives once it is opened
pub opened_lives : (current : ℕ) (o : Option Opened) → loss_in current o ≡ None → lives_in current (opened_at current o) ≡ true
opened_lives current None h = eq-eqb current current refl
opened_lives current (Some session) h = unlost_lives session.fate session.incarnation current h

-- the session of an act that is done
pub own_live : (view : View) (who : Who) → view.up ≡ true → loss_of view who ≡ None → has_group who.group ≡ true → is_live (opened who view) who ≡ true
own_live view who up unlost group =
    and_from _ _ up
    (ap (λ (b : Bool). lives_in view.incarnation (cond b (opened_at view.incarnation (view.sessions who)) (view.sessions who))) (and_from _ _ group (is_who-same who)) ∙ opened_lives view.incarnation (view.sessions who) unlost)

-- no session is opened at an incarnation to come
pub opened_young : (b : Bool) (current : ℕ) (o : Option Opened) (session : Opened) → ((s : Opened) → o ≡ Some s → s.incarnation ≤ current) → cond b (opened_at current o) o ≡ Some session → session.incarnation ≤ current
opened_young true current None session young h = subst (λ (s : Opened). s.incarnation ≤ current) (some_one _ session h) (omega (arith))
opened_young true current (Some s) session young h = young session h
opened_young false current o session young h = young session h

-- ---- a session that was lost is dead

pub marked_dies : (fate : Fate) (current : ℕ) (o : Option Opened) → is_alive fate ≡ false → lives_in current (marked fate o) ≡ false
marked_dies fate current None dead = refl
marked_dies fate current (Some session) dead = ap (λ (b : Bool). b && (session.incarnation == current)) dead

pub marked_young : (fate : Fate) (current : ℕ) (o : Option Opened) (session : Opened) → ((s : Opened) → o ≡ Some s → s.incarnation ≤ current) → marked fate o ≡ Some session → session.incarnation ≤ current
marked_young fate current None session young h = absurd (none_some session h)
marked_young fate current (Some s) session young h = subst (λ (x : Opened). x.incarnation ≤ current) (some_one _ session h) (young s refl)

pub marked_there : (fate : Fate) (o : Option Opened) → is_some (marked fate o) ≡ is_some o
marked_there fate None = refl
marked_there fate (Some session) = refl

past_same : (had current : ℕ) → had ≤ current → (had == (current + 1)) ≡ true → ⊥
past_same had current young same = let e : had ≡ current + 1 = eqb-true had (current + 1) same in omega (arith, young, e)

-- a session of an earlier incarnation is lost
pub past_dies : (current : ℕ) (o : Option Opened) → ((s : Opened) → o ≡ Some s → s.incarnation ≤ current) → lives_in (current + 1) o ≡ true → ⊥
past_dies current None young h = absurd (cc)
past_dies current (Some session) young h = past_same session.incarnation current (young session refl) (and_parts (is_alive session.fate) _ h).1

-- ---- what a live session is

pub live_up : (view : View) (who : Who) → is_live view who ≡ true → view.up ≡ true
live_up view who h = (and_parts view.up _ h).0

pub live_in : (view : View) (who : Who) → is_live view who ≡ true → lives_in view.incarnation (view.sessions who) ≡ true
live_in view who h = (and_parts view.up _ h).1

there : (current : ℕ) (o : Option Opened) → lives_in current o ≡ true → is_some o ≡ true
there current None h = absurd (cc)
there current (Some session) h = refl

-- it was opened and hasn't ended
pub live_there : (view : View) (who : Who) → is_live view who ≡ true → is_some (view.sessions who) ≡ true
live_there view who h = there view.incarnation (view.sessions who) (live_in view who h)

-- a shard that is down has no live session
pub none_down : (view : View) (who : Who) → view.up ≡ false → is_live view who ≡ true → ⊥
none_down view who down h = no_both view.up (live_up view who h) down

lost_some : (current : ℕ) (o : Option Opened) (loss : LostWhy) → loss_in current o ≡ Some loss → is_some o ≡ true
lost_some current None loss h = absurd (none_some loss h)
lost_some current (Some session) loss h = refl

-- a lost session was opened and hasn't ended
pub lost_there : (view : View) (who : Who) (loss : LostWhy) → loss_of view who ≡ Some loss → is_some (view.sessions who) ≡ true
lost_there view who loss h = lost_some view.incarnation (view.sessions who) loss h
