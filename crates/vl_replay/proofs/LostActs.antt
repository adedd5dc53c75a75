-- An act that was lost, or that met a failing device, has freed some of its transaction's keys and done nothing else.
use Rattle.std.proofs.Common.{◌≡◌, not, if◌then◌else◌, ℕ, Bool, true, false, Option, Some, None, refl, sym, ap, subst, ◌∙◌, inl, inr}
use Rattle.std.proofs.lemmas.Bool.{cases_Bool}
use Rattle.std.specs.Prelude.{◌&&◌}
use Rattle.vl_values.specs.declared.key.Key.{Key}
use Rattle.vl_values.specs.declared.lost_why.LostWhy.{LostWhy}
use Rattle.vl_port.specs.declared.act.Act.{Act}
use Rattle.vl_port.specs.declared.answer.Answer.{Answer}
use Rattle.vl_port.specs.declared.answer.Answer.TheVariants.{Done, Unchanged, Rows, Found, Held, Lost, Device, Limit, Memory}
use Rattle.vl_port.specs.declared.carried.Carried.{Carried}
use Rattle.vl_port.specs.declared.carried.Carried.TheVariants.{Passed, LostBefore, LostAfter}
use Rattle.vl_port.specs.declared.change.Change.{Change}
use Rattle.vl_port.specs.declared.who.Who.{Who}
use Rattle.vl_port.specs.Acting.{Acted, row_left, taken, written}
use Rattle.vl_port.specs.Carrying.{ActsThere, Carries, Does, Uses}
use Rattle.vl_port.specs.Holding.{IsFree, is_held_by_other, needs}
use Rattle.vl_port.specs.Keeping.{IsKept}
use Rattle.vl_port.specs.Life.{cut, dropped, loss_of, opened, without}
use Rattle.vl_port.specs.View.{Values, View, has_group, is_who}
use Rattle.vl_port.proofs.Keeps.{IsGrouped}
use Rattle.vl_port.proofs.Naming.{is_who-same, is_who-true, needs_takes}
use Rattle.vl_replay.specs.Ending.{Frees, IsFreed, IsUndone}
use Rattle.vl_replay.specs.Marks.{HasComeBack}
use Rattle.vl_replay.proofs.ActMoves.{up_there}
use Rattle.vl_replay.proofs.Frees.{freed_if, freed_without, frees_same, undone_dropped}

never : true ≡ false → ⊥
never same = cc

-- ---- a key that an act obtained is free again when its session is cut

module _ (who : Who) where
  own_freed : (h : Option Who) → is_held_by_other who h ≡ false → IsFreed who.tx h None
  own_freed None free = inl refl
  own_freed (Some holder) free = elim (cases_Bool (is_who holder who)) [
    | inl own ↦ inr (refl, (holder, refl, ap (λ (w : Who). w.tx) (is_who-true holder who own)))
    | inr other ↦ absurd (never (sym (ap (λ (b : Bool). not b) other) ∙ free))
  ]

  without_own : without who (Some who) ≡ None
  without_own = ap (λ (b : Bool). if b then None else Some who) (is_who-same who)

  cut_holder : (g b : Bool) (h : Option Who) → (b ≡ true → g ≡ true) → (b ≡ true → is_held_by_other who h ≡ false) → IsFreed who.tx h (if g then without who (if b then Some who else h) else (if b then Some who else h))
  cut_holder true true h grouped free = subst (λ (n : Option Who). IsFreed who.tx h n) (sym without_own) (own_freed h (free refl))
  cut_holder true false h grouped free = freed_without who h
  cut_holder false true h grouped free = absurd (never (sym (grouped refl)))
  cut_holder false false h grouped free = inl refl

  own_undone : (c : Option Change) → ((change : Change) → c ≡ Some change → change.who.tx ≡ who.tx) → IsUndone who.tx c None
  own_undone None mine = inl refl
  own_undone (Some change) mine = inr (refl, (change, refl, mine change refl))

  dropped_own : (row : Option Values) → dropped who (Some (record { who = who; row = row })) ≡ None
  dropped_own row = ap (λ (b : Bool). if b then None else Some (record { who = who; row = row })) (is_who-same who)

  cut_change : (row : Option Values) (g b : Bool) (c : Option Change) → (b ≡ true → g ≡ true) → (b ≡ true → (change : Change) → c ≡ Some change → change.who.tx ≡ who.tx)
      → IsUndone who.tx c (if g then dropped who (if b then Some (record { who = who; row = row }) else c) else (if b then Some (record { who = who; row = row }) else c))
  cut_change row true true c grouped mine = subst (λ (n : Option Change). IsUndone who.tx c n) (sym (dropped_own row)) (own_undone c (mine refl))
  cut_change row true false c grouped mine = undone_dropped who c
  cut_change row false true c grouped mine = absurd (never (sym (grouped refl)))
  cut_change row false false c grouped mine = inl refl

  kept_change : (g : Bool) (c : Option Change) → IsUndone who.tx c (if g then dropped who c else c)
  kept_change true c = undone_dropped who c
  kept_change false c = inl refl

  module _ (act : Act) (old : View) (kept : IsKept old) (grouped : IsGrouped who act) where
    groups : (k : Key) → needs old act k ≡ true → has_group who.group ≡ true
    groups k needed = grouped (needs_takes old act k needed)

    unheld : (a b : Bool) → (a && b) ≡ false → a ≡ true → b ≡ false
    unheld true b free on = free
    unheld false b free on = absurd (never (sym on))

    frees_key : IsFree old who act → (k : Key) → needs old act k ≡ true → is_held_by_other who (old.holder k) ≡ false
    frees_key free k needed = unheld (needs old act k) (is_held_by_other who (old.holder k)) (free k) needed

    -- a version of such a key is the session's own
    of_holder : (h : Option Who) (w : Who) → h ≡ Some w → is_held_by_other who h ≡ false → w.tx ≡ who.tx
    of_holder None w is free = absurd (cc)
    of_holder (Some holder) w is free = elim (cases_Bool (is_who holder who)) [
      | inl own ↦ ap (λ (o : Option Who). tx_in o) (sym is) ∙ ap (λ (v : Who). v.tx) (is_who-true holder who own)
      | inr other ↦ absurd (never (sym (ap (λ (b : Bool). not b) other) ∙ free))
    ]
      where
        tx_in : Option Who → ℕ
        tx_in None = 0
        tx_in (Some v) = v.tx

    mine : IsFree old who act → (k : Key) → needs old act k ≡ true → (change : Change) → old.pending k ≡ Some change → change.who.tx ≡ who.tx
    mine free k needed change changed = of_holder (old.holder k) change.who (kept.held k change changed) (frees_key free k needed)

    pub cut_taken : IsFree old who act → Frees who.tx old (cut who (taken who act old))
    cut_taken free = record {
      committed = λ k. refl;
      pending = λ k. kept_change (has_group who.group) (old.pending k);
      holder = λ k. cut_holder (has_group who.group) (needs old act k) (old.holder k) (groups k) (frees_key free k);
    }

    pub cut_written : IsFree old who act → Frees who.tx old (cut who (written who act old))
    cut_written free = record {
      committed = λ k. refl;
      pending = λ k. cut_change (row_left act) (has_group who.group) (needs old act k) (old.pending k) (groups k) (mine free k);
      holder = λ k. cut_holder (has_group who.group) (needs old act k) (old.holder k) (groups k) (frees_key free k);
    }

    cut_opened : Frees who.tx old (cut who (opened who old))
    cut_opened = record { committed = λ k. refl; pending = λ k. kept_change (has_group who.group) (old.pending k); holder = λ k. freed_if who (has_group who.group) (old.holder k) }

    cut_same : Frees who.tx old (cut who old)
    cut_same = record { committed = λ k. refl; pending = λ k. kept_change (has_group who.group) (old.pending k); holder = λ k. freed_if who (has_group who.group) (old.holder k) }

    -- whatever was done at the shard whose answer was lost
    acted_cut : (answer : Answer) (there : View) → Acted old who act answer there → Frees who.tx old (cut who there)
    acted_cut Done there (free, can, is) = subst (λ (v : View). Frees who.tx old (cut who v)) (sym is) (cut_written free)
    acted_cut Unchanged there (free, nothing, is) = subst (λ (v : View). Frees who.tx old (cut who v)) (sym is) (cut_taken free)
    acted_cut (Rows rows) there (free, read, is) = subst (λ (v : View). Frees who.tx old (cut who v)) (sym is) (cut_taken free)
    acted_cut (Found key row) there (free, found, is) = subst (λ (v : View). Frees who.tx old (cut who v)) (sym is) (cut_taken free)
    acted_cut (Held by key) there (held, is) = subst (λ (v : View). Frees who.tx old (cut who v)) (sym is) cut_opened
    acted_cut (Lost why) there acted = absurd acted
    acted_cut Device there acted = absurd acted
    acted_cut (Limit what count) there (free, can, is) = subst (λ (v : View). Frees who.tx old (cut who v)) (sym is) cut_opened
    acted_cut Memory there is = subst (λ (v : View). Frees who.tx old (cut who v)) (sym is) cut_same

    module _ (up : old.up ≡ true) where
      there_cut : (answer : Answer) (there : View) → ActsThere old who act answer there → Frees who.tx old (cut who there)
      there_cut answer there (reached, reaches, acted) = acted_cut answer there (subst (λ (v : View). Acted v who act answer there) (up_there old reached up reaches) acted)

      does_cut : (answer : Answer) (there : View) → Does old who act answer there → Frees who.tx old (cut who there)
      does_cut Done there does = there_cut Done there does
      does_cut Unchanged there does = there_cut Unchanged there does
      does_cut (Rows rows) there does = there_cut (Rows rows) there does
      does_cut (Found key row) there does = there_cut (Found key row) there does
      does_cut (Held by key) there does = there_cut (Held by key) there does
      does_cut (Lost why) there does = absurd does
      does_cut Device there does = absurd (never (sym up ∙ does.0))
      does_cut (Limit what count) there does = there_cut (Limit what count) there does
      does_cut Memory there (inl same) = subst (λ (v : View). Frees who.tx old (cut who v)) (sym same) cut_same
      does_cut Memory there (inr reached) = subst (λ (v : View). Frees who.tx old (cut who v)) (sym (up_there old there up reached)) cut_same

      uses_cut : (loss : Option LostWhy) (answer : Answer) (there : View) → Uses loss old who act answer there → Frees who.tx old (cut who there)
      uses_cut None answer there uses = does_cut answer there uses
      uses_cut (Some why) answer there uses = subst (λ (v : View). Frees who.tx old (cut who v)) (sym uses.1) cut_same

      does_lost : (answer : Answer) (new : View) → (HasComeBack answer → ⊥) → Does old who act answer new → Frees who.tx old new
      does_lost Done new lost does = absurd (lost tt)
      does_lost Unchanged new lost does = absurd (lost tt)
      does_lost (Rows rows) new lost does = absurd (lost tt)
      does_lost (Found key row) new lost does = absurd (lost tt)
      does_lost (Held by key) new lost does = absurd (lost tt)
      does_lost (Lost why) new lost does = absurd does
      does_lost Device new lost does = absurd (never (sym up ∙ does.0))
      does_lost (Limit what count) new lost does = absurd (lost tt)
      does_lost Memory new lost does = absurd (lost tt)

      uses_lost : (loss : Option LostWhy) (answer : Answer) (new : View) → (HasComeBack answer → ⊥) → Uses loss old who act answer new → Frees who.tx old new
      uses_lost None answer new lost does = does_lost answer new lost does
      uses_lost (Some why) answer new lost uses = frees_same who.tx old new uses.1

      no_memory : (answer : Answer) → (HasComeBack answer → ⊥) → answer ≡ Memory → ⊥
      no_memory answer lost is = lost (subst HasComeBack (sym is) tt)

      pub lost_frees : (way : Carried) (answer : Answer) (new : View) → (HasComeBack answer → ⊥) → Carries way old who act answer new → Frees who.tx old new
      lost_frees Passed answer new lost carried = uses_lost (loss_of old who) answer new lost carried
      lost_frees LostBefore answer new lost (inl room) = absurd (no_memory answer lost room.0)
      lost_frees LostBefore answer new lost (inr cut_off) = subst (λ (v : View). Frees who.tx old v) (sym cut_off.1) cut_same
      lost_frees LostAfter answer new lost (inl memory) = absurd (no_memory answer lost memory.0)
      lost_frees LostAfter answer new lost (inr (inner, there, some, uses, cut_off)) = subst (λ (v : View). Frees who.tx old v) (sym cut_off.1) (uses_cut (loss_of old who) inner there uses)
