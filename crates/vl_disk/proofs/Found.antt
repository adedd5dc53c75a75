-- Slots are found by their shard, the first of one number.
use Rattle.std.proofs.Common.{◌≡◌, ◌≢◌, ◌<◌, ◌==◌, ◌++◌, [], ◌∷◌, ℕ, suc, zero, List, length, get_or, set, Bool, true, false, Option, Some, None, if◌then◌else◌, refl, sym, ◌∙◌, ap, subst, arith}
use Rattle.std.proofs.lemmas.Bool.{eq-eqb, ne_eqb}
use Rattle.vl_disk.specs.DiskView.{DiskView}
use Rattle.vl_disk.specs.Slots.{IsFoundAt, found, view_of}
use Rattle.vl_disk.specs.declared.sides.Sides.{Sides}
use Rattle.vl_disk.specs.declared.slot.Slot.{Slot}

pub found_at : {D : Type 0} (slots : List (Slot D)) (index shard : ℕ) (d : Slot D) → index < length slots
    → (get_or slots index d).shard ≡ shard → ((k : ℕ) → k < index → (get_or slots k d).shard ≢ shard)
    → found slots shard ≡ Some (get_or slots index d).sides
found_at [] index shard d inside is first = absurd (omega arith)
found_at (slot ∷ slots) zero shard d inside is first = rw (eq-eqb slot.shard shard is) refl
found_at (slot ∷ slots) (suc index) shard d inside is first =
    rw (ne_eqb slot.shard shard (first 0 (omega arith)))
    (found_at slots index shard d (omega arith) is (λ k below. first (suc k) (omega arith)))

pub found_none : {D : Type 0} (slots : List (Slot D)) (shard : ℕ)
    → ((k : ℕ) (d : Slot D) → k < length slots → (get_or slots k d).shard ≢ shard) → found slots shard ≡ None
found_none [] shard none = refl
found_none (slot ∷ slots) shard none =
    rw (ne_eqb slot.shard shard (none 0 slot (omega arith)))
    (found_none slots shard (λ k d below. none (suc k) d (omega arith)))

-- another slot of this shard in its place
pub found_set : {D : Type 0} (slots : List (Slot D)) (index shard : ℕ) (d new : Slot D) → index < length slots
    → new.shard ≡ shard → ((k : ℕ) → k < index → (get_or slots k d).shard ≢ shard)
    → found (set slots index new) shard ≡ Some new.sides
found_set [] index shard d new inside is first = absurd (omega arith)
found_set (slot ∷ slots) zero shard d new inside is first = rw (eq-eqb new.shard shard is) refl
found_set (slot ∷ slots) (suc index) shard d new inside is first =
    rw (ne_eqb slot.shard shard (first 0 (omega arith)))
    (found_set slots index shard d new (omega arith) is (λ k below. first (suc k) (omega arith)))

pub found_set_other : {D : Type 0} (slots : List (Slot D)) (index shard other : ℕ) (d new : Slot D) → index < length slots
    → new.shard ≡ shard → (get_or slots index d).shard ≡ shard → other ≢ shard
    → found (set slots index new) other ≡ found slots other
found_set_other [] index shard other d new inside is was apart = refl
found_set_other (slot ∷ slots) zero shard other d new inside is was apart =
    let one : new.shard ≢ other = λ same. apart (sym same ∙ is) in
    let two : slot.shard ≢ other = λ same. apart (sym same ∙ was) in
    rw (ne_eqb new.shard other one) (rw (ne_eqb slot.shard other two) refl)
found_set_other {D = D} (slot ∷ slots) (suc index) shard other d new inside is was apart =
    ap (λ (rest : Option (Option (Sides D))). if slot.shard == other then Some slot.sides else rest)
    (found_set_other slots index shard other d new (omega arith) is was apart)

-- one more slot, of a shard that had none
more_later : {D : Type 0} (b : Bool) (here was will new : Option (Option (Sides D))) → (if b then here else was) ≡ None
    → here ≢ None → (was ≡ None → will ≡ new) → (if b then here else will) ≡ new
more_later true here was will new none some more = absurd (some none)
more_later false here was will new none some more = more none

pub found_more : {D : Type 0} (slots : List (Slot D)) (new : Slot D) → found slots new.shard ≡ None
    → found (slots ++ new ∷ []) new.shard ≡ Some new.sides
found_more [] new none = rw (eq-eqb new.shard new.shard refl) refl
found_more (slot ∷ slots) new none =
    more_later (slot.shard == new.shard) (Some slot.sides) (found slots new.shard) (found (slots ++ new ∷ []) new.shard) (Some new.sides)
    none (λ same. cc) (λ left. found_more slots new left)

pub found_more_other : {D : Type 0} (slots : List (Slot D)) (new : Slot D) (other : ℕ) → other ≢ new.shard
    → found (slots ++ new ∷ []) other ≡ found slots other
found_more_other [] new other apart = rw (ne_eqb new.shard other (λ same. apart (sym same))) refl
found_more_other {D = D} (slot ∷ slots) new other apart =
    ap (λ (rest : Option (Option (Sides D))). if slot.shard == other then Some slot.sides else rest)
    (found_more_other slots new other apart)

-- a slot changed in its place
pub record IsChanged {D : Type 0} (slots after : List (Slot D)) (shard : ℕ) (old new : Option (Sides D)) : Type 0 where
  pub was : found slots shard ≡ Some old
  pub now : found after shard ≡ Some new
  pub others : (other : ℕ) → other ≢ shard → found after other ≡ found slots other

changed_at : {D : Type 0} (slots : List (Slot D)) (shard index : ℕ) (old new : Slot D) → IsFoundAt slots shard index
    → old ≡ get_or slots index old → new.shard ≡ old.shard → IsChanged slots (set slots index new) shard old.sides new.sides
changed_at {D = D} slots shard index old new at is same =
    let first : (k : ℕ) → k < index → (get_or slots k old).shard ≢ shard = λ k below. at.first k old below in
    let sides : Some (get_or slots index old).sides ≡ Some old.sides = ap (λ (slot : Slot D). Some slot.sides) (sym is) in
    let moved : new.shard ≡ shard = same ∙ (ap (λ (slot : Slot D). slot.shard) is ∙ at.is old) in
    record {
      was = found_at slots index shard old at.inside (at.is old) first ∙ sides;
      now = found_set slots index shard old new at.inside moved first;
      others = λ other apart. found_set_other slots index shard other old new at.inside moved (at.is old) apart;
    }

pub changed : {D : Type 0} (slots seen : List (Slot D)) (shard index : ℕ) (old new : Slot D) → seen ≡ slots → IsFoundAt seen shard index
    → old ≡ get_or slots index old → new.shard ≡ old.shard → IsChanged slots (set slots index new) shard old.sides new.sides
changed {D = D} slots seen shard index old new same at =
    let P : List (Slot D) → Type 0 = λ s. IsFoundAt s shard index in
    changed_at slots shard index old new (subst P same at)

-- the sides of a shard are out exactly where its slot has none
pub out_is : {D : Type 0} (tell : D → DiskView) (fresh : DiskView) (o : Option (Option (Sides D)))
    → (view_of tell fresh o).is_out ≡ true → o ≡ Some None
out_is tell fresh None out = absurd (cc)
out_is tell fresh (Some None) out = refl
out_is tell fresh (Some (Some sides)) out = absurd (cc)

pub not_out : {D : Type 0} (tell : D → DiskView) (fresh : DiskView) (o : Option (Option (Sides D)))
    → (view_of tell fresh o).is_out ≡ false → o ≢ Some None
not_out tell fresh None out = λ same. cc
not_out tell fresh (Some None) out = λ same. absurd (cc)
not_out tell fresh (Some (Some sides)) out = λ same. cc
