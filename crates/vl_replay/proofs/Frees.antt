-- Of what a transaction held and changed on a shard some is gone, and nothing else has changed.
use Rattle.std.proofs.Common.{◌≡◌, ◌==◌, if◌then◌else◌, ℕ, Bool, true, false, Option, Some, None, refl, sym, ap, subst, ◌∙◌, inl, inr}
use Rattle.std.proofs.lemmas.Bool.{cases_Bool, eq-eqb, eqb-true}
use Rattle.vl_values.specs.declared.key.Key.{Key}
use Rattle.vl_port.specs.declared.change.Change.{Change}
use Rattle.vl_port.specs.declared.fate.Fate.{Fate}
use Rattle.vl_port.specs.declared.who.Who.{Who}
use Rattle.vl_port.specs.Life.{closed, dropped, lost_as, without}
use Rattle.vl_port.specs.Serving.{Shards}
use Rattle.vl_port.specs.View.{View, has_group, is_who}
use Rattle.vl_port.proofs.Naming.{is_who-true}
use Rattle.vl_replay.specs.Ending.{Frees, FreesAll, EndsWhole, IsFreed, IsUndone}
use Rattle.vl_run.specs.declared.ends.Ends.TheVariants as ends
use Rattle.vl_run.specs.Machine.{ended_change, ended_holder}

never : true ≡ false → ⊥
never same = cc

no_some : {A : Type 0} {a : A} → None ≡ Some a → ⊥
no_some same = cc

-- ---- one after the other

freed_then : (tx : ℕ) (a b c : Option Who) → IsFreed tx a b → IsFreed tx b c → IsFreed tx a c
freed_then tx a b c (inl first) (inl second) = inl (second ∙ first)
freed_then tx a b c (inl first) (inr gone) = inr (gone.0, (gone.1.0, sym first ∙ gone.1.1, gone.1.2))
freed_then tx a b c (inr gone) (inl second) = inr (second ∙ gone.0, gone.1)
freed_then tx a b c (inr gone) (inr again) = inr (again.0, gone.1)

undone_then : (tx : ℕ) (a b c : Option Change) → IsUndone tx a b → IsUndone tx b c → IsUndone tx a c
undone_then tx a b c (inl first) (inl second) = inl (second ∙ first)
undone_then tx a b c (inl first) (inr gone) = inr (gone.0, (gone.1.0, sym first ∙ gone.1.1, gone.1.2))
undone_then tx a b c (inr gone) (inl second) = inr (second ∙ gone.0, gone.1)
undone_then tx a b c (inr gone) (inr again) = inr (again.0, gone.1)

pub frees_none : (tx : ℕ) (v : View) → Frees tx v v
frees_none tx v = record { committed = λ k. refl; pending = λ k. inl refl; holder = λ k. inl refl }

pub frees_same : (tx : ℕ) (old new : View) → new ≡ old → Frees tx old new
frees_same tx old new same = subst (Frees tx old) (sym same) (frees_none tx old)

pub frees_then : (tx : ℕ) (a b c : View) → Frees tx a b → Frees tx b c → Frees tx a c
frees_then tx a b c first second = record {
  committed = λ k. second.committed k ∙ first.committed k;
  pending = λ k. undone_then tx (a.pending k) (b.pending k) (c.pending k) (first.pending k) (second.pending k);
  holder = λ k. freed_then tx (a.holder k) (b.holder k) (c.holder k) (first.holder k) (second.holder k);
}

-- ---- a session that is closed, or lost

pub freed_without : (who : Who) (h : Option Who) → IsFreed who.tx h (without who h)
freed_without who None = inl refl
freed_without who (Some holder) = elim (cases_Bool (is_who holder who)) [
  | inl own ↦ inr (ap (λ (b : Bool). if b then None else Some holder) own, (holder, refl, ap (λ (w : Who). w.tx) (is_who-true holder who own)))
  | inr other ↦ inl (ap (λ (b : Bool). if b then None else Some holder) other)
]

pub undone_dropped : (who : Who) (c : Option Change) → IsUndone who.tx c (dropped who c)
undone_dropped who None = inl refl
undone_dropped who (Some change) = elim (cases_Bool (is_who change.who who)) [
  | inl own ↦ inr (ap (λ (b : Bool). if b then None else Some change) own, (change, refl, ap (λ (w : Who). w.tx) (is_who-true change.who who own)))
  | inr other ↦ inl (ap (λ (b : Bool). if b then None else Some change) other)
]

pub freed_if : (who : Who) (g : Bool) (h : Option Who) → IsFreed who.tx h (if g then without who h else h)
freed_if who true h = freed_without who h
freed_if who false h = inl refl

undone_if : (who : Who) (g : Bool) (c : Option Change) → IsUndone who.tx c (if g then dropped who c else c)
undone_if who true c = undone_dropped who c
undone_if who false c = inl refl

pub frees_closed : (who : Who) (v : View) → Frees who.tx v (closed who v)
frees_closed who v = record { committed = λ k. refl; pending = λ k. undone_dropped who (v.pending k); holder = λ k. freed_without who (v.holder k) }

pub frees_lost : (fate : Fate) (who : Who) (v : View) → Frees who.tx v (lost_as fate who v)
frees_lost fate who v = record { committed = λ k. refl; pending = λ k. undone_if who (has_group who.group) (v.pending k); holder = λ k. freed_if who (has_group who.group) (v.holder k) }

-- ---- what is there yet was there before

pub freed_before : (tx : ℕ) (old new : Option Who) (who : Who) → IsFreed tx old new → new ≡ Some who → old ≡ Some who
freed_before tx old new who (inl same) held = sym same ∙ held
freed_before tx old new who (inr gone) held = absurd (no_some (sym gone.0 ∙ held))

pub undone_before : (tx : ℕ) (old new : Option Change) (change : Change) → IsUndone tx old new → new ≡ Some change → old ≡ Some change
undone_before tx old new change (inl same) changed = sym same ∙ changed
undone_before tx old new change (inr gone) changed = absurd (no_some (sym gone.0 ∙ changed))

-- ---- and where nothing is left of the transaction, all of it is gone

over_kept : (tx shard : ℕ) (old : Option Who) → ((who : Who) → old ≡ Some who → who.tx ≡ tx → ⊥) → old ≡ ended_holder (ends.Whole tx) shard old
over_kept tx shard None none = refl
over_kept tx shard (Some who) none = elim (cases_Bool (who.tx == tx)) [
  | inl same ↦ absurd (none who refl (eqb-true who.tx tx same))
  | inr apart ↦ sym (ap (λ (b : Bool). if b then None else Some who) apart)
]

over_holder : (tx shard : ℕ) (old new : Option Who) → IsFreed tx old new → ((who : Who) → new ≡ Some who → who.tx ≡ tx → ⊥) → new ≡ ended_holder (ends.Whole tx) shard old
over_holder tx shard old new (inl same) none = same ∙ over_kept tx shard old (λ who held own. none who (same ∙ held) own)
over_holder tx shard old new (inr gone) none =
    gone.0 ∙ sym (ap (λ (b : Bool). if b then None else Some gone.1.0) (eq-eqb gone.1.0.tx tx gone.1.2)) ∙ ap (λ (h : Option Who). ended_holder (ends.Whole tx) shard h) (sym gone.1.1)

over_left : (tx shard : ℕ) (old : Option Change) → ((change : Change) → old ≡ Some change → change.who.tx ≡ tx → ⊥) → old ≡ ended_change (ends.Whole tx) shard old
over_left tx shard None none = refl
over_left tx shard (Some change) none = elim (cases_Bool (change.who.tx == tx)) [
  | inl same ↦ absurd (none change refl (eqb-true change.who.tx tx same))
  | inr apart ↦ sym (ap (λ (b : Bool). if b then None else Some change) apart)
]

over_change : (tx shard : ℕ) (old new : Option Change) → IsUndone tx old new → ((change : Change) → new ≡ Some change → change.who.tx ≡ tx → ⊥) → new ≡ ended_change (ends.Whole tx) shard old
over_change tx shard old new (inl same) none = same ∙ over_left tx shard old (λ change changed own. none change (same ∙ changed) own)
over_change tx shard old new (inr gone) none =
    gone.0 ∙ sym (ap (λ (b : Bool). if b then None else Some gone.1.0) (eq-eqb gone.1.0.who.tx tx gone.1.2)) ∙ ap (λ (c : Option Change). ended_change (ends.Whole tx) shard c) (sym gone.1.1)

pub ends_whole : (tx : ℕ) (old new : Shards) → FreesAll tx old new → ((shard : ℕ) (k : Key) (who : Who) → (new shard).holder k ≡ Some who → who.tx ≡ tx → ⊥)
    → ((shard : ℕ) (k : Key) (change : Change) → (new shard).pending k ≡ Some change → change.who.tx ≡ tx → ⊥) → EndsWhole tx old new
ends_whole tx old new frees holders changes = λ shard. record {
  committed = (frees shard).committed;
  pending = λ k. over_change tx shard ((old shard).pending k) ((new shard).pending k) ((frees shard).pending k) (changes shard k);
  holder = λ k. over_holder tx shard ((old shard).holder k) ((new shard).holder k) ((frees shard).holder k) (holders shard k);
}
