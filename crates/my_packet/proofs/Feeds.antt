-- A feed step by step.
use Rattle.std.proofs.Common.{◌≡◌, ◌≢◌, ℕ, ◌/◌, ◌%◌, arith, List, [], ◌∷◌, ◌++◌, refl, sym, ap, subst, ◌∙◌}
use Rattle.std.specs.List.{flat_map}
use Rattle.std.proofs.lemmas.List.{append_assoc, append-nil}
use Rattle.std.proofs.lemmas.List.Concat.{flat_map-append}
use Rattle.my_packet.specs.Bytes.{spelling, announced}
use Rattle.my_packet.specs.Stream.{AreLawful, IsUnfinished, Spells, Breaks}
use Rattle.my_packet.specs.Framing.{Framing, started}
use Rattle.my_packet.specs.Feeding.{Midway}
use Rattle.my_packet.specs.Holding.{IsHeld}
use Rattle.my_packet.specs.declared.packet.Packet.{Packet}
use Rattle.my_packet.specs.declared.fault.FaultCause.{FaultCause}
use Rattle.my_packet.specs.declared.fault.FaultCause.TheVariants.{Memory}
use Rattle.my_packet.proofs.Streams.{due_after-append, lawful_joined, one_reading, no_fault, spells_joined, breaks_joined}

-- the piece ends a packet
pub midway_push : (due : ℕ) (bytes rest piece : List ℕ) (ps : List Packet) (p : Packet) (old new : Framing) → old.held ++ piece ≡ spelling p → AreLawful old.due (p ∷ []) → new ≡ started → Midway due bytes ps old (piece ++ rest) → Midway due bytes (ps ++ p ∷ []) new rest
midway_push due bytes rest piece ps p old new s l e m =
    let P : Framing → Type 0 = λ f. Midway due bytes (ps ++ p ∷ []) f rest in
    let L : ℕ → Type 0 = λ d. AreLawful d (p ∷ []) in
    subst P (sym e) (record {
      whole = m.whole ∙ ap (λ zs. flat_map spelling ps ++ zs) (sym (append_assoc old.held piece rest) ∙ ap (λ zs. zs ++ rest) (s ∙ sym (append-nil (spelling p)))) ∙ sym (append_assoc (flat_map spelling ps) (spelling p ++ []) rest) ∙ ap (λ zs. zs ++ rest) (sym (flat_map-append spelling ps (p ∷ [])));
      lawful = lawful_joined due ps (p ∷ []) m.lawful (subst L m.due_is l);
      due_is = sym (due_after-append due ps (p ∷ []));
      going = refl;
      unfinished = tt;
    })

-- all of the piece is taken
pub midway_end : (due : ℕ) (bytes : List ℕ) (ps : List Packet) (now : Framing) → Midway due bytes ps now [] → Spells due bytes ps now.held
midway_end due bytes ps now m =
    let P : ℕ → Type 0 = λ d. IsUnfinished d now.held in
    record {
      whole = m.whole ∙ ap (λ zs. flat_map spelling ps ++ zs) (append-nil now.held);
      lawful = m.lawful;
      unfinished = subst P m.due_is m.unfinished;
    }

-- at the end the packets are those of the bytes
pub midway_only : (due : ℕ) (bytes : List ℕ) (ps qs : List Packet) (now : Framing) (rest x : List ℕ) → rest ≡ [] → Midway due bytes ps now rest → Spells due bytes qs x → ps ≡ qs
midway_only due bytes ps qs now rest x e m s =
    let P : List ℕ → Type 0 = λ zs. Midway due bytes ps now zs in
    let r = one_reading (midway_end due bytes ps now (subst P e m)) s in
    r.0

-- at the end the bytes have no fault
pub midway_sound : (due : ℕ) (bytes : List ℕ) (ps qs : List Packet) (now : Framing) (rest : List ℕ) (cause : FaultCause) → rest ≡ [] → Midway due bytes ps now rest → cause ≢ Memory → Breaks due bytes qs cause → ⊥
midway_sound due bytes ps qs now rest cause e m ne b =
    let P : List ℕ → Type 0 = λ zs. Midway due bytes ps now zs in
    no_fault ne (midway_end due bytes ps now (subst P e m)) b

-- at the end whatever comes behind is read on
pub midway_cut : (due : ℕ) (bytes more : List ℕ) (ps qs : List Packet) (now : Framing) (rest x : List ℕ) → rest ≡ [] → Midway due bytes ps now rest → Spells now.due (now.held ++ more) qs x → Spells due (bytes ++ more) (ps ++ qs) x
midway_cut due bytes more ps qs now rest x e m s =
    let P : List ℕ → Type 0 = λ zs. Midway due bytes ps now zs in
    let D : ℕ → Type 0 = λ d. Spells d (now.held ++ more) qs x in
    spells_joined more (midway_end due bytes ps now (subst P e m)) (subst D m.due_is s)

pub midway_cut_fault : (due : ℕ) (bytes more : List ℕ) (ps qs : List Packet) (now : Framing) (rest : List ℕ) (cause : FaultCause) → rest ≡ [] → Midway due bytes ps now rest → Breaks now.due (now.held ++ more) qs cause → Breaks due (bytes ++ more) (ps ++ qs) cause
midway_cut_fault due bytes more ps qs now rest cause e m s =
    let P : List ℕ → Type 0 = λ zs. Midway due bytes ps now zs in
    let D : ℕ → Type 0 = λ d. Breaks d (now.held ++ more) qs cause in
    breaks_joined more (midway_end due bytes ps now (subst P e m)) (subst D m.due_is s)

-- what a framer holds is less than a packet
pub held_unfinished : (due : ℕ) (head : List ℕ) (len : ℕ) (payload : List ℕ) → IsHeld due head len payload → IsUnfinished due (head ++ payload)
held_unfinished due (low ∷ middle ∷ high ∷ seq ∷ []) len payload h =
    let e = h.whole refl in
    let b0 : low ≡ len % 256 = cc in
    let b1 : middle ≡ len / 256 % 256 = cc in
    let b2 : high ≡ len / 65536 = cc in
    let b3 : seq ≡ due = cc in
    let n : announced low middle high ≡ len = omega (arith, b0, b1, b2) in
    let limit = h.limit refl in
    let less = h.less refl in
    (omega (arith, limit, n), b3, omega (arith, less, n))
held_unfinished due (a ∷ b ∷ c ∷ d ∷ e ∷ more) len payload h = absurd (omega (arith, h.most))
held_unfinished due [] len payload h =
    let P : List ℕ → Type 0 = λ zs. IsUnfinished due zs in subst P (sym (h.part (omega arith))) tt
held_unfinished due (a ∷ []) len payload h =
    let P : List ℕ → Type 0 = λ zs. IsUnfinished due (a ∷ zs) in subst P (sym (h.part (omega arith))) tt
held_unfinished due (a ∷ b ∷ []) len payload h =
    let P : List ℕ → Type 0 = λ zs. IsUnfinished due (a ∷ b ∷ zs) in subst P (sym (h.part (omega arith))) tt
held_unfinished due (a ∷ b ∷ c ∷ []) len payload h =
    let P : List ℕ → Type 0 = λ zs. IsUnfinished due (a ∷ b ∷ c ∷ zs) in subst P (sym (h.part (omega arith))) tt
