-- A write behind a closed gate leaves it closed, and opening it is one byte.
use Rattle.std.proofs.Common.{◌≡◌, ◌≢◌, ◌<◌, ◌≤◌, ◌+◌, ◌++◌, [], ◌∷◌, ℕ, List, length, get_or, take, drop, refl, sym, ◌∙◌, ap, subst, inl, inr, arith, append_assoc, length-append, length-take, length-drop}
use Rattle.std.specs.Prelude.{◌⊎◌}
use Rattle.std.proofs.lemmas.Bool.{cases_eq}
use Rattle.std.proofs.lemmas.List.{take_at, drop_at, drop_more, take-append-drop}
use Rattle.vl_disk.specs.Moment.{Torn, put}
use Rattle.vl_record.specs.Grammar.{EndsAt}
use Rattle.vl_record.specs.Stored.{IsNew}
use Rattle.vl_journal.specs.Gate.{EndsWithOrWithout, IsNewOrEndsAt, IsStaged, framed, unlocked}

-- up to the gate, and the gate
through : (front file : List ℕ) (gate : ℕ) (rest : List ℕ) → file ≡ front ++ gate ∷ rest → take (length front + 1) file ≡ front ++ gate ∷ []
through front file gate rest split =
    rw (split, sym (append_assoc front (gate ∷ []) rest)) (take_at (front ++ gate ∷ []) rest (length front + 1) (omega (arith, length-append front (gate ∷ []))))

pub ends_torn : (front file image : List ℕ) (n : ℕ) → EndsAt front file → Torn (length front + 1) n file image → EndsAt front image
ends_torn front file image n ends torn =
    let head : take (length front + 1) image ≡ front ++ ends.gate ∷ [] = torn.before ∙ through front file ends.gate ends.rest ends.split in
    record {
      gate = ends.gate;
      rest = drop (length front + 1) image;
      split = sym (take-append-drop (length front + 1) image) ∙ (ap (λ (h : List ℕ). h ++ drop (length front + 1) image) head ∙ append_assoc front (ends.gate ∷ []) (drop (length front + 1) image));
      shut = ends.shut;
    }

pub staged_put : (front text file : List ℕ) → EndsAt front file → IsStaged front text (put file (length front + 1) (framed text))
staged_put front text file ends =
    let behind = drop (length front + 1 + length (framed text)) file in
    record {
      gate = ends.gate;
      rest = behind;
      split = ap (λ (h : List ℕ). h ++ (framed text ++ behind)) (through front file ends.gate ends.rest ends.split) ∙ append_assoc front (ends.gate ∷ []) (framed text ++ behind);
      shut = ends.shut;
    }

opened : (front text : List ℕ) (rest : List ℕ) → front ++ 167 ∷ (framed text ++ rest) ≡ (front ++ unlocked text) ++ 0 ∷ rest
opened front text rest = ap (λ (t : List ℕ). front ++ 167 ∷ t) (append_assoc text (0 ∷ []) rest) ∙ sym (append_assoc front (unlocked text) (0 ∷ rest))

any_gate : (front text image : List ℕ) (gate : ℕ) (rest : List ℕ) → image ≡ front ++ gate ∷ (framed text ++ rest) → EndsWithOrWithout front text image
any_gate front text image gate rest split =
    elim (cases_eq gate 167) [
      | inl is ↦ inr (record { gate = 0; rest = rest; split = split ∙ (ap (λ (g : ℕ). front ++ g ∷ (framed text ++ rest)) is ∙ opened front text rest); shut = λ e. absurd (omega (arith, e)) })
      | inr other ↦ inl (record { gate = gate; rest = framed text ++ rest; split = split; shut = other })
    ]

pub gate_torn : (front text file image : List ℕ) → IsStaged front text file → Torn (length front) 1 file image → EndsWithOrWithout front text image
gate_torn front text file image staged torn =
    let behind = framed text ++ staged.rest in
    let head : take (length front) image ≡ front = torn.before ∙ rw staged.split (take_at front (staged.gate ∷ behind) (length front) refl) in
    let tail : drop (length front + 1) image ≡ behind = torn.after ∙ rw (staged.split, sym (append_assoc front (staged.gate ∷ []) behind)) (drop_at (front ++ staged.gate ∷ []) behind (length front + 1) (omega (arith, length-append front (staged.gate ∷ [])))) in
    let size : length file ≡ length front + 1 + length behind = rw staged.split (omega (arith, length-append front (staged.gate ∷ behind))) in
    let inside : length front < length image = omega (arith, size, torn.no_shorter) in
    let cell : drop (length front) image ≡ get_or image (length front) 0 ∷ drop (length front + 1) image = drop_more image (length front) 0 inside in
    any_gate front text image (get_or image (length front) 0) staged.rest
    (sym (take-append-drop (length front) image) ∙ (rw (head, cell, tail) refl))

pub gate_put : (front text file : List ℕ) → IsStaged front text file → EndsAt (front ++ unlocked text) (put file (length front) (167 ∷ []))
gate_put front text file staged =
    let behind = framed text ++ staged.rest in
    let head : take (length front) file ≡ front = rw staged.split (take_at front (staged.gate ∷ behind) (length front) refl) in
    let tail : drop (length front + 1) file ≡ behind = rw (staged.split, sym (append_assoc front (staged.gate ∷ []) behind)) (drop_at (front ++ staged.gate ∷ []) behind (length front + 1) (omega (arith, length-append front (staged.gate ∷ [])))) in
    record {
      gate = 0;
      rest = staged.rest;
      split = rw (head, tail) (opened front text staged.rest);
      shut = λ e. absurd (omega (arith, e));
    }

-- the file is one, and what is seen of the other
pub same : (front text : List ℕ) (file : List ℕ) → EndsAt front file → length front + 1 ≤ length file
same front text file ends = let e = ap length ends.split in omega (arith, e, length-append front (ends.gate ∷ ends.rest))

-- ---- the file gate of a file that stores nothing

pub short_torn : (file image : List ℕ) → length file ≤ 1 → Torn 0 1 file image → IsNew image
short_torn file image short torn = inl (omega (arith, short, torn.no_longer))

pub short_put : (file : List ℕ) → EndsAt [] (put file 0 (0 ∷ []))
short_put file = record { gate = 0; rest = drop 1 file; split = refl; shut = λ e. absurd (omega (arith, e)) }

pub closed_torn : (file image : List ℕ) → EndsAt [] file → Torn 1 1 file image → IsNew image
closed_torn file image ends torn = inr (ends_torn [] file image 1 ends torn)

pub closed_put : (file : List ℕ) → EndsAt [] file → EndsAt [] (put file 1 (0 ∷ []))
closed_put file ends = record {
  gate = ends.gate;
  rest = 0 ∷ drop 2 file;
  split = ap (λ (h : List ℕ). h ++ (0 ∷ drop 2 file)) (through [] file ends.gate ends.rest ends.split);
  shut = ends.shut;
}

pub new_or : (text image : List ℕ) → EndsWithOrWithout [] text image → IsNewOrEndsAt text image
new_or text image (inl without) = inl (inr without)
new_or text image (inr with_it) = inr with_it

pub put_reaches : (file bytes : List ℕ) (n : ℕ) → n ≤ length file → n + length bytes ≤ length (put file n bytes)
put_reaches file bytes n within =
    let rest = drop (n + length bytes) file in
    omega (arith, within, length-append (take n file) (bytes ++ rest), length-append bytes rest, length-take n file)

pub put_longer : (file bytes : List ℕ) (n : ℕ) → n ≤ length file → length file ≤ length (put file n bytes)
put_longer file bytes n within =
    let rest = drop (n + length bytes) file in
    omega (arith, within, length-append (take n file) (bytes ++ rest), length-append bytes rest, length-take n file, length-drop (n + length bytes) file)
