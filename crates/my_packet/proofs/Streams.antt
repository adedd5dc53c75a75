-- A stream of packets has one reading, wherever it is cut.
use Rattle.std.proofs.Common.{◌≡◌, ◌≢◌, ℕ, ◌/◌, ◌%◌, ◌≤◌, List, [], ◌∷◌, ◌++◌, length, refl, sym, ap, subst, ◌∙◌, arith}
use Rattle.std.specs.List.{flat_map}
use Rattle.std.proofs.lemmas.List.{append_assoc, length-append, nil_from_length}
use Rattle.std.proofs.lemmas.List.Concat.{flat_map-append}
use Rattle.my_packet.specs.Bytes.{spelling, announced, longest_payload}
use Rattle.my_packet.specs.Stream.{AreLawful, due_after, IsUnfinished, lacking, IsBroken, Spells, Breaks}
use Rattle.my_packet.specs.Framing.{EndsAtMostOne}
use Rattle.my_packet.specs.declared.packet.Packet.{Packet}
use Rattle.my_packet.specs.declared.fault.FaultCause.{FaultCause}
use Rattle.my_packet.specs.declared.fault.FaultCause.TheVariants.{TooLong, Order, Memory}

-- behind any packets of a stream whose due number is 0, 0 is due
pub due_after_zero : (packets : List Packet) → due_after 0 packets ≡ 0
due_after_zero [] = refl
due_after_zero (p ∷ packets) = refl

pub due_after-append : (due : ℕ) (ps qs : List Packet) → due_after due (ps ++ qs) ≡ due_after (due_after due ps) qs
due_after-append due [] qs = refl
due_after-append due (p ∷ ps) qs = sym (due_after_zero qs)

pub lawful_joined : (due : ℕ) (ps qs : List Packet) → AreLawful due ps → AreLawful (due_after due ps) qs → AreLawful due (ps ++ qs)
lawful_joined due [] qs a b = b
lawful_joined due (p ∷ ps) qs a b =
    (a.0, a.1, lawful_joined 0 ps qs a.2 (let P : ℕ → Type 0 = λ d. AreLawful d qs in subst P (sym (due_after_zero ps)) b))

-- the length that a header's bytes announce is the one that it was made of
pub announced-header : (n : ℕ) → announced (n % 256) (n / 256 % 256) (n / 65536) ≡ n
announced-header n = omega arith

-- two lengths with the same three bytes are one
pub one_length : (n m : ℕ) → n % 256 ≡ m % 256 → n / 256 % 256 ≡ m / 256 % 256 → n / 65536 ≡ m / 65536 → n ≡ m
one_length n m a b c = omega arith

-- fronts of one length are one, and so is what follows
pub one_front : (a b x y : List ℕ) → length a ≡ length b → a ++ x ≡ b ++ y → (a ≡ b) × (x ≡ y)
one_front [] [] x y l e = (refl, e)
one_front [] (b ∷ bs) x y l e = absurd (omega arith)
one_front (a ∷ as_) [] x y l e = absurd (omega arith)
one_front (a ∷ as_) (b ∷ bs) x y l e =
    let heads : a ≡ b = cc in
    let tails : as_ ++ x ≡ bs ++ y = cc in
    let r = one_front as_ bs x y (omega arith) tails in
    (let e0 : as_ ≡ bs = r.0 in cc, r.1)

-- a packet is its number and its payload
pub same_packet : (p q : Packet) → p.seq ≡ q.seq → p.payload ≡ q.payload → p ≡ q
same_packet p q s l =
    let f : ℕ → Packet = λ n. record { seq = n; payload = p.payload } in
    let g : List ℕ → Packet = λ bs. record { seq = q.seq; payload = bs } in
    ap f s ∙ ap g l

-- what begins with a packet begins with no other
pub one_packet : (p q : Packet) (x y : List ℕ) → spelling p ++ x ≡ spelling q ++ y → (p ≡ q) × (x ≡ y)
one_packet p q x y e =
    let n = length p.payload in
    let m = length q.payload in
    let low : n % 256 ≡ m % 256 = cc in
    let middle : n / 256 % 256 ≡ m / 256 % 256 = cc in
    let high : n / 65536 ≡ m / 65536 = cc in
    let number : p.seq ≡ q.seq = cc in
    let behind : p.payload ++ x ≡ q.payload ++ y = cc in
    let r = one_front p.payload q.payload x y (one_length n m low middle high) behind in
    (same_packet p q number r.0, r.1)

-- behind a header at fault nothing is read, whatever comes
pub broken_more : (cause : FaultCause) (due : ℕ) (bytes more : List ℕ) → IsBroken cause due bytes → IsBroken cause due (bytes ++ more)
broken_more (TooLong len) due (low ∷ middle ∷ high ∷ seq ∷ bytes) more h = h
broken_more (Order got wanted) due (low ∷ middle ∷ high ∷ seq ∷ bytes) more h = h
broken_more Memory due bytes more h = tt
broken_more cause due bytes more h = absurd h

-- no lawful packet begins here
abbrev pub HasNoPacket : ℕ → List ℕ → Type 0
HasNoPacket due bytes =
    (p : Packet) (more : List ℕ) → p.seq ≡ due → length p.payload ≤ longest_payload → bytes ≡ spelling p ++ more → ⊥

unfinished_packet : (due : ℕ) (p : Packet) (more : List ℕ) → IsUnfinished due (spelling p ++ more) → ⊥
unfinished_packet due p more h =
    omega (arith, h.2, announced-header (length p.payload), length-append p.payload more)

pub unfinished_none : (due : ℕ) (bytes : List ℕ) → IsUnfinished due bytes → HasNoPacket due bytes
unfinished_none due bytes h p more number limit e =
    let P : List ℕ → Type 0 = λ xs. IsUnfinished due xs in
    unfinished_packet due p more (subst P e h)

broken_packet : (cause : FaultCause) (due : ℕ) (p : Packet) (more : List ℕ) → cause ≢ Memory → p.seq ≡ due → length p.payload ≤ longest_payload → IsBroken cause due (spelling p ++ more) → ⊥
broken_packet (TooLong len) due p more ne number limit h =
    omega (arith, h.0, h.1, announced-header (length p.payload))
broken_packet (Order got wanted) due p more ne number limit h =
    h.3 (h.1 ∙ number ∙ sym h.2)
broken_packet Memory due p more ne number limit h = ne refl

pub broken_none : (cause : FaultCause) (due : ℕ) (bytes : List ℕ) → cause ≢ Memory → IsBroken cause due bytes → HasNoPacket due bytes
broken_none cause due bytes ne h p more number limit e =
    let P : List ℕ → Type 0 = λ xs. IsBroken cause due xs in
    broken_packet cause due p more ne number limit (subst P e h)

-- two readings that both end where no packet begins are one
pub one_cut : (due : ℕ) (ps qs : List Packet) (x y : List ℕ) → AreLawful due ps → AreLawful due qs → HasNoPacket (due_after due ps) x → HasNoPacket (due_after due qs) y → flat_map spelling ps ++ x ≡ flat_map spelling qs ++ y → (ps ≡ qs) × (x ≡ y)
one_cut due [] [] x y a b f g e = (refl, e)
one_cut due [] (q ∷ qs) x y a b f g e =
    absurd (f q (flat_map spelling qs ++ y) b.0 b.1 (e ∙ append_assoc (spelling q) (flat_map spelling qs) y))
one_cut due (p ∷ ps) [] x y a b f g e =
    absurd (g p (flat_map spelling ps ++ x) a.0 a.1 (sym e ∙ append_assoc (spelling p) (flat_map spelling ps) x))
one_cut due (p ∷ ps) (q ∷ qs) x y a b f g e =
    let first = one_packet p q (flat_map spelling ps ++ x) (flat_map spelling qs ++ y)
    (sym (append_assoc (spelling p) (flat_map spelling ps) x) ∙ e ∙ append_assoc (spelling q) (flat_map spelling qs) y) in
    let X : ℕ → Type 0 = λ d. HasNoPacket d x in
    let Y : ℕ → Type 0 = λ d. HasNoPacket d y in
    let r = one_cut 0 ps qs x y a.2 b.2 (subst X (sym (due_after_zero ps)) f) (subst Y (sym (due_after_zero qs)) g) first.1 in
    (let heads : p ≡ q = first.0 in let tails : ps ≡ qs = r.0 in cc, r.1)

-- a stream has one reading
pub one_reading : {due : ℕ} {bytes : List ℕ} {ps qs : List Packet} {x y : List ℕ} → Spells due bytes ps x → Spells due bytes qs y → (ps ≡ qs) × (x ≡ y)
one_reading {due = due} {ps = ps} {qs = qs} {x = x} {y = y} a b =
    one_cut due ps qs x y a.lawful b.lawful (unfinished_none _ _ a.unfinished) (unfinished_none _ _ b.unfinished) (sym a.whole ∙ b.whole)

not_both : (cause : FaultCause) (due : ℕ) (bytes : List ℕ) → cause ≢ Memory → IsUnfinished due bytes → IsBroken cause due bytes → ⊥
not_both (TooLong len) due (low ∷ middle ∷ high ∷ seq ∷ bytes) ne u b = omega (arith, u.0, b.0, b.1)
not_both (Order got wanted) due (low ∷ middle ∷ high ∷ seq ∷ bytes) ne u b = b.3 (b.1 ∙ u.1 ∙ sym b.2)
not_both Memory due bytes ne u b = ne refl
not_both cause due bytes ne u b = b

-- a stream without a fault has none in another reading
pub no_fault : {due : ℕ} {bytes : List ℕ} {ps qs : List Packet} {x : List ℕ} {cause : FaultCause} → cause ≢ Memory → Spells due bytes ps x → Breaks due bytes qs cause → ⊥
no_fault {due = due} {ps = ps} {qs = qs} {x = x} {cause = cause} ne a b =
    let r = one_cut due ps qs x b.rest a.lawful b.lawful (unfinished_none _ _ a.unfinished) (broken_none cause _ _ ne b.broken) (sym a.whole ∙ b.whole) in
    let D : List Packet → Type 0 = λ zs. IsUnfinished (due_after due zs) b.rest in
    let E : List ℕ → Type 0 = λ zs. IsUnfinished (due_after due ps) zs in
    not_both cause (due_after due qs) b.rest ne (subst D r.0 (subst E r.1 a.unfinished)) b.broken

one_cause : (c d : FaultCause) (due : ℕ) (bytes : List ℕ) → c ≢ Memory → d ≢ Memory → IsBroken c due bytes → IsBroken d due bytes → c ≡ d
one_cause Memory d due bytes nc nd a b = absurd (nc refl)
one_cause c Memory due bytes nc nd a b = absurd (nd refl)
one_cause (TooLong n) (TooLong m) due (low ∷ middle ∷ high ∷ seq ∷ bytes) nc nd a b = ap TooLong (a.0 ∙ sym b.0)
one_cause (TooLong n) (Order got wanted) due (low ∷ middle ∷ high ∷ seq ∷ bytes) nc nd a b = absurd (omega (arith, a.0, a.1, b.0))
one_cause (Order got wanted) (TooLong n) due (low ∷ middle ∷ high ∷ seq ∷ bytes) nc nd a b = absurd (omega (arith, b.0, b.1, a.0))
one_cause (Order got wanted) (Order other due2) due (low ∷ middle ∷ high ∷ seq ∷ bytes) nc nd a b =
    ap (λ n. Order n wanted) (a.1 ∙ sym b.1) ∙ ap (λ n. Order other n) (a.2 ∙ sym b.2)
one_cause c d due bytes nc nd a b = absurd a

-- two faults of a stream are one, behind the same packets
pub one_fault : {due : ℕ} {bytes : List ℕ} {ps qs : List Packet} {c d : FaultCause} → c ≢ Memory → d ≢ Memory → Breaks due bytes ps c → Breaks due bytes qs d → (ps ≡ qs) × (c ≡ d)
one_fault {due = due} {ps = ps} {qs = qs} {c = c} {d = d} nc nd a b =
    let r = one_cut due ps qs a.rest b.rest a.lawful b.lawful (broken_none c _ _ nc a.broken) (broken_none d _ _ nd b.broken) (sym a.whole ∙ b.whole) in
    let D : List Packet → Type 0 = λ zs. IsBroken c (due_after due zs) b.rest in
    let E : List ℕ → Type 0 = λ zs. IsBroken c (due_after due ps) zs in
    (r.0, one_cause c d (due_after due qs) b.rest nc nd (subst D r.0 (subst E r.1 a.broken)) b.broken)

-- a stream that is cut in two is read in two: packets of the front, then those of its rest and what comes behind
pub spells_joined : {due : ℕ} {front : List ℕ} (back : List ℕ) {ps qs : List Packet} {x y : List ℕ} → Spells due front ps x → Spells (due_after due ps) (x ++ back) qs y → Spells due (front ++ back) (ps ++ qs) y
spells_joined {due = due} {front = front} back {ps = ps} {qs = qs} {x = x} {y = y} a b =
    record {
      whole = ap (λ zs. zs ++ back) a.whole ∙ append_assoc (flat_map spelling ps) x back ∙ ap (λ zs. flat_map spelling ps ++ zs) b.whole ∙ sym (append_assoc (flat_map spelling ps) (flat_map spelling qs) y) ∙ ap (λ zs. zs ++ y) (sym (flat_map-append spelling ps qs));
      lawful = lawful_joined due ps qs a.lawful b.lawful;
      unfinished = let P : ℕ → Type 0 = λ d. IsUnfinished d y in subst P (sym (due_after-append due ps qs)) b.unfinished;
    }

pub breaks_joined : {due : ℕ} {front : List ℕ} (back : List ℕ) {ps qs : List Packet} {x : List ℕ} {cause : FaultCause} → Spells due front ps x → Breaks (due_after due ps) (x ++ back) qs cause → Breaks due (front ++ back) (ps ++ qs) cause
breaks_joined {due = due} {front = front} back {ps = ps} {qs = qs} {x = x} {cause = cause} a b =
    record {
      rest = b.rest;
      whole = ap (λ zs. zs ++ back) a.whole ∙ append_assoc (flat_map spelling ps) x back ∙ ap (λ zs. flat_map spelling ps ++ zs) b.whole ∙ sym (append_assoc (flat_map spelling ps) (flat_map spelling qs) b.rest) ∙ ap (λ zs. zs ++ b.rest) (sym (flat_map-append spelling ps qs));
      lawful = lawful_joined due ps qs a.lawful b.lawful;
      broken = let P : ℕ → Type 0 = λ d. IsBroken cause d b.rest in subst P (sym (due_after-append due ps qs)) b.broken;
    }

-- a fault stays, whatever comes behind
pub breaks_more : {due : ℕ} {bytes : List ℕ} {ps : List Packet} {cause : FaultCause} (more : List ℕ) → Breaks due bytes ps cause → Breaks due (bytes ++ more) ps cause
breaks_more {due = due} {ps = ps} {cause = cause} more a =
    record {
      rest = a.rest ++ more;
      whole = ap (λ zs. zs ++ more) a.whole ∙ append_assoc (flat_map spelling ps) a.rest more;
      lawful = a.lawful;
      broken = broken_more cause (due_after due ps) a.rest more a.broken;
    }

-- a packet that is ended by no more than what was lacking has nothing behind it
ended_within : (due : ℕ) (held piece : List ℕ) (p : Packet) (more : List ℕ) → IsUnfinished due held → length piece ≤ lacking held → held ++ piece ≡ spelling p ++ more → more ≡ []
ended_within due (low ∷ middle ∷ high ∷ seq ∷ payload) piece p more u l e =
    let n = length p.payload in
    let b0 : low ≡ n % 256 = cc in
    let b1 : middle ≡ n / 256 % 256 = cc in
    let b2 : high ≡ n / 65536 = cc in
    let whole : announced low middle high ≡ n = omega (arith, b0, b1, b2) in
    let behind : payload ++ piece ≡ p.payload ++ more = cc in
    nil_from_length more (omega (arith, u.2, l, whole, length-append payload piece, length-append p.payload more, ap length behind))
ended_within due held piece p more u l e =
    nil_from_length more (omega (arith, l, length-append held piece, length-append (spelling p) more, ap length e))

-- with no more than what was lacking at most one packet ends
pub one_step : (due : ℕ) (held piece : List ℕ) (ps : List Packet) (rest : List ℕ) → IsUnfinished due held → length piece ≤ lacking held → held ++ piece ≡ flat_map spelling ps ++ rest → EndsAtMostOne ps rest
one_step due held piece [] rest u l e = tt
one_step due held piece (p ∷ []) rest u l e =
    ended_within due held piece p rest u l (e ∙ append_assoc (spelling p) [] rest)
one_step due held piece (p ∷ q ∷ ps) rest u l e =
    let none = ended_within due held piece p (flat_map spelling (q ∷ ps) ++ rest) u l (e ∙ append_assoc (spelling p) (flat_map spelling (q ∷ ps)) rest) in
    absurd (omega (arith, ap length none))

-- a fault that comes with no more than what was lacking has no packet before it
pub fault_alone : (due : ℕ) (held piece : List ℕ) (ps : List Packet) (cause : FaultCause) → IsUnfinished due held → length piece ≤ lacking held → cause ≢ Memory → Breaks due (held ++ piece) ps cause → ps ≡ []
fault_alone due held piece [] cause u l ne b = refl
fault_alone due held piece (p ∷ q ∷ ps) cause u l ne b = absurd (one_step due held piece (p ∷ q ∷ ps) b.rest u l b.whole)
fault_alone due held piece (p ∷ []) cause u l ne b =
    let none = one_step due held piece (p ∷ []) b.rest u l b.whole in
    let P : List ℕ → Type 0 = λ zs. IsBroken cause 0 zs in
    absurd (nothing_broken cause 0 ne (subst P none b.broken))
  where
    nothing_broken : (c : FaultCause) (d : ℕ) → c ≢ Memory → IsBroken c d [] → ⊥
    nothing_broken (TooLong len) d n h = h
    nothing_broken (Order got wanted) d n h = h
    nothing_broken Memory d n h = n refl

-- what is no other cause is want of memory
pub memory_else : (cause : FaultCause) → (cause ≢ Memory → ⊥) → cause ≡ Memory
memory_else (TooLong len) h = absurd (h (λ e. cc))
memory_else (Order got wanted) h = absurd (h (λ e. cc))
memory_else Memory h = refl
