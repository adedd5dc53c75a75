-- The use of a session: an act that has arrived, and one whose answer was lost.
use Rattle.std.proofs.Common.{◌≡◌, ℕ, Bool, true, false, cond, ◌&&◌, inl, refl, sym, ap, subst, ◌∙◌, Option, Some, None, true≢false}
use Rattle.std.specs.Option.{is_some}
use Rattle.std.proofs.lemmas.Bool.{and_from}
use Rattle.vl_values.specs.declared.lost_why.LostWhy.{LostWhy}
use Rattle.vl_port.specs.declared.act.Act.{Act}
use Rattle.vl_port.specs.declared.answer.Answer.{Answer}
use Rattle.vl_port.specs.declared.answer.Answer.TheVariants.{Done, Unchanged, Rows, Found, Held, Lost, Device, Limit, Memory}
use Rattle.vl_port.specs.declared.fate.Fate.TheVariants as fates
use Rattle.vl_port.specs.declared.opened.Opened.{Opened}
use Rattle.vl_port.specs.declared.who.Who.{Who}
use Rattle.vl_port.specs.Acting.{Acted}
use Rattle.vl_port.specs.Carrying.{ActsThere, Does, Uses}
use Rattle.vl_port.specs.Life.{cut, loss_of, lost_as, opened, opened_at}
use Rattle.vl_port.specs.View.{View, has_group, is_who}
use Rattle.vl_port.proofs.Lives.{lost_there, opened_some}
use Rattle.vl_port.proofs.Naming.{is_who-true, is_who-same}
use Rattle.vl_shard.proofs.Telling.{view_ext}
use Rattle.vl_shard.proofs.Seating.{opens_again}

-- ---- a session that isn't lost, on a shard that is up

there : (old new : View) (who : Who) (act : Act) (answer : Answer) → old.up ≡ true → Acted old who act answer new → ActsThere old who act answer new
there old new who act answer up h = (old, inl (up, refl), h)

does : (old new : View) (who : Who) (act : Act) (answer : Answer) → old.up ≡ true → Acted old who act answer new → Does old who act answer new
does old new who act Done up h = there old new who act Done up h
does old new who act Unchanged up h = there old new who act Unchanged up h
does old new who act (Rows rows) up h = there old new who act (Rows rows) up h
does old new who act (Found key row) up h = there old new who act (Found key row) up h
does old new who act (Held by key) up h = there old new who act (Held by key) up h
does old new who act (Limit what count) up h = there old new who act (Limit what count) up h
does old new who act (Lost why) up h = absurd h
does old new who act Device up h = absurd h
does old new who act Memory up h = inl h

pub uses_live : (old new : View) (who : Who) (act : Act) (answer : Answer) → old.up ≡ true → loss_of old who ≡ None → Acted old who act answer new → Uses (loss_of old who) old who act answer new
uses_live old new who act answer up live h = subst (λ (l : Option LostWhy). Uses l old who act answer new) (sym live) (does old new who act answer up h)

-- ---- every answer but Memory leaves the session open

open_own : (b : Bool) (incarnation : ℕ) (o : Option Opened) → b ≡ true → is_some (cond b (opened_at incarnation o) o) ≡ true
open_own true incarnation o h = opened_some incarnation o
open_own false incarnation o h = absurd (true≢false (sym h))

module _ (who : Who) (group : has_group who.group ≡ true) where
  own_open : (view : View) → is_some ((opened who view).sessions who) ≡ true
  own_open view = open_own (has_group who.group && is_who who who) view.incarnation (view.sessions who) (and_from _ _ group (is_who-same who))

  acted_open : (old new : View) (act : Act) (answer : Answer) → (answer ≡ Memory → ⊥) → Acted old who act answer new → is_some (new.sessions who) ≡ true
  acted_open old new act Done some h = ap (λ (v : View). is_some (v.sessions who)) h.2 ∙ own_open old
  acted_open old new act Unchanged some h = ap (λ (v : View). is_some (v.sessions who)) h.2 ∙ own_open old
  acted_open old new act (Rows rows) some h = ap (λ (v : View). is_some (v.sessions who)) h.2 ∙ own_open old
  acted_open old new act (Found key row) some h = ap (λ (v : View). is_some (v.sessions who)) h.2 ∙ own_open old
  acted_open old new act (Held by key) some h = ap (λ (v : View). is_some (v.sessions who)) h.1 ∙ own_open old
  acted_open old new act (Limit what count) some h = ap (λ (v : View). is_some (v.sessions who)) h.2 ∙ own_open old
  acted_open old new act (Lost why) some h = absurd h
  acted_open old new act Device some h = absurd h
  acted_open old new act Memory some h = absurd (some refl)

  does_open : (old new : View) (act : Act) (answer : Answer) → old.up ≡ true → (answer ≡ Memory → ⊥) → Does old who act answer new → is_some (new.sessions who) ≡ true
  does_open old new act Done up some h = acted_open h.0 new act Done some h.2
  does_open old new act Unchanged up some h = acted_open h.0 new act Unchanged some h.2
  does_open old new act (Rows rows) up some h = acted_open h.0 new act (Rows rows) some h.2
  does_open old new act (Found key row) up some h = acted_open h.0 new act (Found key row) some h.2
  does_open old new act (Held by key) up some h = acted_open h.0 new act (Held by key) some h.2
  does_open old new act (Limit what count) up some h = acted_open h.0 new act (Limit what count) some h.2
  does_open old new act (Lost why) up some h = absurd h
  does_open old new act Device up some h = absurd (true≢false (sym up ∙ h.0))
  does_open old new act Memory up some h = absurd (some refl)

  uses_open : (old new : View) (act : Act) (answer : Answer) → old.up ≡ true → (answer ≡ Memory → ⊥) → (loss : Option LostWhy) → loss_of old who ≡ loss → Uses loss old who act answer new → is_some (new.sessions who) ≡ true
  uses_open old new act answer up some None is h = does_open old new act answer up some h
  uses_open old new act answer up some (Some why) is h = ap (λ (v : View). is_some (v.sessions who)) h.1 ∙ lost_there old who why is

-- a session that is open stays so
open_again : (view : View) (who : Who) → (has_group who.group ≡ true → is_some (view.sessions who) ≡ true) → view ≡ opened who view
open_again view who known =
    view_ext view (opened who view) refl refl (λ key. refl) (λ key. refl) (λ key. refl) (λ key. refl)
    (λ w. opens_again (has_group who.group && is_who who w) view.incarnation (view.sessions w)
    (λ own. let p = both (has_group who.group) (is_who who w) own in ap (λ (x : Who). is_some (view.sessions x)) (sym (is_who-true who w p.1)) ∙ known p.0))
  where
    both : (a b : Bool) → (a && b) ≡ true → (a ≡ true) × (b ≡ true)
    both true b h = (refl, h)
    both false b h = absurd (true≢false (sym h))

-- a session that is lost behind an act is cut off
pub cut_behind : (old middle new : View) (who : Who) (act : Act) (answer : Answer) → old.up ≡ true → (answer ≡ Memory → ⊥) → Uses (loss_of old who) old who act answer middle → new ≡ lost_as fates.Cut who middle
    → new ≡ cut who middle
cut_behind old middle new who act answer up some uses is =
    is ∙ ap (lost_as fates.Cut who) (open_again middle who (λ group. uses_open who group old middle act answer up some (loss_of old who) refl uses))
