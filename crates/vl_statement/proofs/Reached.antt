-- An act that was answered was done on its shard, which was reached for it, unless it was lost, failed or
-- refused for want of memory. This speaks of the port alone; it stands here since only the programs of
-- statements need it.
use Rattle.std.proofs.Common.{◌≡◌, ◌≢◌, ◌⊎◌, ℕ, inl, inr, Bool, true, false, cond, not, Option, Some, None, refl, sym, ap, ◌∙◌, subst}
use Rattle.std.specs.Prelude.{◌&&◌}
use Rattle.vl_values.specs.declared.key.Key.{Key}
use Rattle.vl_values.specs.declared.lost_why.LostWhy.{LostWhy}
use Rattle.vl_values.specs.declared.lost_why.LostWhy.TheVariants.{Link}
use Rattle.vl_catalog.specs.declared.catalog.Catalog.{Catalog}
use Rattle.vl_port.specs.declared.act.Act.{Act}
use Rattle.vl_port.specs.declared.answer.Answer.{Answer}
use Rattle.vl_port.specs.declared.answer.Answer.TheVariants.{Done, Unchanged, Rows, Found, Held, Lost, Device, Limit, Memory}
use Rattle.vl_port.specs.declared.carried.Carried.{Carried}
use Rattle.vl_port.specs.declared.carried.Carried.TheVariants.{Passed, LostBefore, LostAfter}
use Rattle.vl_port.specs.declared.who.Who.{Who}
use Rattle.vl_port.specs.Acting.{Acted}
use Rattle.vl_port.specs.Calls.{HasActed, PortView}
use Rattle.vl_port.specs.Carrying.{ActsThere, Carries, Does, Uses}
use Rattle.vl_port.specs.Holding.{needs, is_held_by_other, IsFree}
use Rattle.vl_port.specs.Keeping.{IsKept}
use Rattle.vl_port.specs.Life.{Reaches, loss_of}
use Rattle.vl_port.specs.Placing.{ArePlaced}
use Rattle.vl_port.specs.Serving.{Shards}
use Rattle.vl_port.specs.View.{View, is_who}
use Rattle.vl_port.proofs.Lives.{live_up}
use Rattle.vl_port.proofs.Naming.{is_who-true}
use Rattle.vl_port.proofs.Placed.{placed_raised}

-- ---- a shard that is reached

pub reached_pending : (old there : View) (key : Key) → Reaches old there → there.pending key ≡ old.pending key
reached_pending old there key (inl it) = ap (λ (v : View). v.pending key) it.1
reached_pending old there key (inr it) = ap (λ (v : View). v.pending key) it.1.1

pub reached_holder : (old there : View) (key : Key) → Reaches old there → there.holder key ≡ old.holder key
reached_holder old there key (inl it) = ap (λ (v : View). v.holder key) it.1
reached_holder old there key (inr it) = ap (λ (v : View). v.holder key) it.1.1

-- one that is up stays as it is
pub reached_same : (old there : View) → Reaches old there → old.up ≡ true → there ≡ old
reached_same old there (inl it) up = it.1
reached_same old there (inr it) up = absurd (cc (it.0, up))

pub reached_placed : (catalog : Catalog) (shard : ℕ) (old there : View) → Reaches old there → ArePlaced catalog shard old → ArePlaced catalog shard there
reached_placed catalog shard old there (inl it) placed = subst (ArePlaced catalog shard) (sym it.1) placed
reached_placed catalog shard old there (inr it) placed = subst (ArePlaced catalog shard) (sym it.1.1) (placed_raised catalog shard old it.1.0 placed)

-- a shard on which a key is held is up
pub held_up : (view : View) (who : Who) (key : Key) → IsKept view → view.holder key ≡ Some who → view.up ≡ true
held_up view who key kept held = live_up view who (kept.live key who held)

-- ---- what was answered

-- the answers of an act that was done
abbrev pub IsOfAct : Answer → Type 0
IsOfAct Done = Unit {0}
IsOfAct Unchanged = Unit {0}
IsOfAct (Rows rows) = Unit {0}
IsOfAct (Found key row) = Unit {0}
IsOfAct (Held by key) = Unit {0}
IsOfAct (Limit what count) = Unit {0}
IsOfAct (Lost why) = ⊥
IsOfAct Device = ⊥
IsOfAct Memory = ⊥

does_there : (old new : View) (who : Who) (act : Act) (answer : Answer) → IsOfAct answer → Does old who act answer new → ActsThere old who act answer new
does_there old new who act Done of it = it
does_there old new who act Unchanged of it = it
does_there old new who act (Rows rows) of it = it
does_there old new who act (Found key row) of it = it
does_there old new who act (Held by key) of it = it
does_there old new who act (Limit what count) of it = it
does_there old new who act (Lost why) of it = absurd of
does_there old new who act Device of it = absurd of
does_there old new who act Memory of it = absurd of

lost_is_none : {X : Type 0} (answer : Answer) (why : LostWhy) → IsOfAct answer → answer ≡ Lost why → X
lost_is_none answer why of is = absurd (subst IsOfAct is of)

memory_is_none : {X : Type 0} (answer : Answer) → IsOfAct answer → answer ≡ Memory → X
memory_is_none answer of is = absurd (subst IsOfAct is of)

uses_there : (loss : Option LostWhy) (old new : View) (who : Who) (act : Act) (answer : Answer) → IsOfAct answer → Uses loss old who act answer new → ActsThere old who act answer new
uses_there None old new who act answer of it = does_there old new who act answer of it
uses_there (Some why) old new who act answer of it = lost_is_none answer why of it.0

carried_there : (way : Carried) (old new : View) (who : Who) (act : Act) (answer : Answer) → IsOfAct answer → Carries way old who act answer new → ActsThere old who act answer new
carried_there Passed old new who act answer of it = uses_there (loss_of old who) old new who act answer of it
carried_there LostBefore old new who act answer of (inl it) = memory_is_none answer of it.0
carried_there LostBefore old new who act answer of (inr it) = lost_is_none answer Link of it.0
carried_there LostAfter old new who act answer of (inl it) = memory_is_none answer of it.0
carried_there LostAfter old new who act answer of (inr it) = lost_is_none answer Link of it.4.0

-- the act was done on its shard, as it was when it was reached; the others show what they did
pub record IsDone (old new : Shards) (who : Who) (shard : ℕ) (act : Act) (answer : Answer) : Type 0 where
  pub there : View
  pub reached : Reaches (old shard) there
  pub acted : Acted there who act answer (new shard)
  pub others : (other : ℕ) → other ≢ shard → new other ≡ old other

pub done_there : (port after : PortView) (who : Who) (shard : ℕ) (act : Act) (answer : Answer) → IsOfAct answer → HasActed port who shard act answer after → IsDone port.shards after.shards who shard act answer
done_there port after who shard act answer of acts =
    let it = carried_there after.way (port.shards shard) (after.shards shard) who act answer of acts.acted in
    record { there = it.0; reached = it.1; acted = it.2; others = acts.others }

-- ---- want of memory

uses_nothing : (loss : Option LostWhy) (old new : View) (who : Who) (act : Act) → Uses loss old who act Memory new → (new ≡ old) ⊎ Reaches old new
uses_nothing None old new who act it = it
uses_nothing (Some why) old new who act it = absurd (cc (it.0))

-- it leaves the shard as it was, or reached
pub memory_leaves : (way : Carried) (old new : View) (who : Who) (act : Act) → Carries way old who act Memory new → (new ≡ old) ⊎ Reaches old new
memory_leaves Passed old new who act it = uses_nothing (loss_of old who) old new who act it
memory_leaves LostBefore old new who act (inl it) = inl it.1
memory_leaves LostBefore old new who act (inr it) = absurd (cc (it.0))
memory_leaves LostAfter old new who act (inl it) = uses_nothing (loss_of old who) old new who act it.1
memory_leaves LostAfter old new who act (inr it) = absurd (cc (it.4.0))

-- ---- keys that are held

pub still_holds : (b : Bool) (who : Who) (o : Option Who) → o ≡ Some who → cond b (Some who) o ≡ Some who
still_holds true who o h = refl
still_holds false who o h = h

-- a key that another holds isn't taken
free_holds : (b c : Bool) (who other : Who) (o : Option Who) → o ≡ Some other → (is_who other who ≡ c) → (b && is_held_by_other who o) ≡ false → cond b (Some who) o ≡ Some other
free_holds false c who other o held same free = held
free_holds true true who other o held same free = ap (λ (w : Who). Some w) (sym (is_who-true other who same))
free_holds true false who other o held same free =
    let blocked : is_held_by_other who o ≡ true = ap (is_held_by_other who) held ∙ ap not same in
    absurd (cc (blocked, free))

taken_holds : (view : View) (who other : Who) (act : Act) (key : Key) → view.holder key ≡ Some other → IsFree view who act → cond (needs view act key) (Some who) (view.holder key) ≡ Some other
taken_holds view who other act key held free = free_holds (needs view act key) (is_who other who) who other (view.holder key) held refl (free key)

-- an act takes no key from the session that holds it
pub acted_holds : (old new : View) (who other : Who) (act : Act) (answer : Answer) (key : Key) → old.holder key ≡ Some other → Acted old who act answer new → new.holder key ≡ Some other
acted_holds old new who other act Done key held acted = ap (λ (v : View). v.holder key) acted.2 ∙ taken_holds old who other act key held acted.0
acted_holds old new who other act Unchanged key held acted = ap (λ (v : View). v.holder key) acted.2 ∙ taken_holds old who other act key held acted.0
acted_holds old new who other act (Rows rows) key held acted = ap (λ (v : View). v.holder key) acted.2 ∙ taken_holds old who other act key held acted.0
acted_holds old new who other act (Found k row) key held acted = ap (λ (v : View). v.holder key) acted.2 ∙ taken_holds old who other act key held acted.0
acted_holds old new who other act (Held by k) key held acted = ap (λ (v : View). v.holder key) acted.1 ∙ held
acted_holds old new who other act (Limit what count) key held acted = ap (λ (v : View). v.holder key) acted.2 ∙ held
acted_holds old new who other act (Lost why) key held acted = absurd acted
acted_holds old new who other act Device key held acted = absurd acted
acted_holds old new who other act Memory key held acted = ap (λ (v : View). v.holder key) acted ∙ held
