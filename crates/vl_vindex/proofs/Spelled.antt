-- A text names one range at most, and a text with a fault names none.
use Rattle.std.proofs.Common.{◌≡◌, ℕ, ◌+◌, ◌<◌, inl, inr, List, [], ◌∷◌, ◌++◌, length, take, drop, get_or, Ok, Result, false, refl, sym, ap, ◌∙◌, subst, arith, codes}
use Rattle.std.specs.Result.{result_unwrap_or}
use Rattle.std.proofs.lemmas.Bool.{cases_lt, false≢true}
use Rattle.std.proofs.lemmas.List.{append_assoc, length-append, take_at, drop_at, take-append-drop, length-take-le}
use Rattle.hex.specs.declared.error.FromHexError.{FromHexError}
use Rattle.hex.specs.Hex.{decode_of}
use Rattle.hex.proofs.HexLemmas.{decode_of-ok}
use Rattle.vl_vindex.specs.KeyRange.{Range, IsSide, Spells, IsSpelled, IsOutside, IsFault, IsRead, is_ordered}
use Rattle.vl_vindex.specs.Reading.{IsRun, IsDash}
use Rattle.vl_vindex.proofs.Outside.{IsDigits-from_side, run_to_dash, run_before_dash, split_at_dash}

same_ranges : (a b : Range) → a.start ≡ b.start → a.end ≡ b.end → a ≡ b
same_ranges a b starts ends =
    let with_start : List ℕ → Range = λ s. record { start = s; end = a.end } in
    let with_end : List ℕ → Range = λ e. record { start = b.start; end = e } in
    ap with_start starts ∙ ap with_end ends

-- digits stand for one list of bytes
decoded_once : (digits a b : List ℕ) → decode_of digits ≡ Ok a → decode_of digits ≡ Ok b → a ≡ b
decoded_once digits a b p q =
    ap (λ (r : Result (List ℕ) FromHexError). result_unwrap_or r []) (sym p ∙ q)

-- `0` isn't two sides
zero_has_no_dash : (text start end bytes : List ℕ) → text ≡ codes "0" → text ≡ start ++ (45 ∷ end) → IsSide start bytes → ⊥
zero_has_no_dash text start end bytes zero is side =
    let digits = IsDigits-from_side start bytes side in
    let even = digits.even in
    let same : start ++ (45 ∷ end) ≡ codes "0" = sym is ∙ zero in
    let len : length (start ++ (45 ∷ end)) ≡ 1 = ap length same in
    let nothing : length start ≡ 0 = omega (arith, length-append start (45 ∷ end)) in
    let run = run_to_dash start end digits in
    let R : List ℕ → Type 0 = λ xs. IsRun xs (length start) in
    let moved = subst R same run in
    let few : length start < 1 = omega arith in
    let digit = moved.stops few (omega arith) in
    let at_zero : get_or (codes "0") (length start) 0 ≡ 48 = ap (λ (k : ℕ). get_or (codes "0") k 0) nothing in
    let P : ℕ → Type 0 = λ b. Rattle.hex.specs.Hex.is_hex_digit b ≡ false in
    false≢true (sym (subst P at_zero digit))

-- the two sides of a text are where its first dash cuts it
cut_once : (s1 e1 s2 e2 a b : List ℕ) → s1 ++ (45 ∷ e1) ≡ s2 ++ (45 ∷ e2) → IsSide s1 a → IsSide s2 b → (s1 ≡ s2) × (e1 ≡ e2)
cut_once s1 e1 s2 e2 a b same first second =
    let d1 = IsDigits-from_side s1 a first in
    let d2 = IsDigits-from_side s2 b second in
    let R : List ℕ → Type 0 = λ xs. IsRun xs (length s1) in
    let at : length s1 ≡ length s2 = run_before_dash s2 e2 (length s1) (subst R same (run_to_dash s1 e1 d1)) d2.each d2.most in
    let starts : s1 ≡ s2 =
    sym (take_at s1 (45 ∷ e1) (length s1) refl) ∙ ap (λ (xs : List ℕ). take (length s1) xs) same ∙ take_at s2 (45 ∷ e2) (length s1) (sym at) in
    let len1 = length-append s1 (45 ∷ []) in
    let len2 = length-append s2 (45 ∷ []) in
    let ends : e1 ≡ e2 =
    sym (drop_at (s1 ++ 45 ∷ []) e1 (length s1 + 1) (omega (arith, len1)))
    ∙ ap (λ (xs : List ℕ). drop (length s1 + 1) xs) (append_assoc s1 (45 ∷ []) e1 ∙ same ∙ sym (append_assoc s2 (45 ∷ []) e2))
    ∙ drop_at (s2 ++ 45 ∷ []) e2 (length s1 + 1) (omega (arith, len2)) in
    (starts, ends)

pub spelled_once : (text : List ℕ) (a b : Range) → Spells text a → Spells text b → a ≡ b
spelled_once text a b p q =
    elim p [
      | inl zero ↦
          elim q [
            | inl too ↦ same_ranges a b (zero.1 ∙ sym too.1) (zero.2 ∙ sym too.2)
            | inr sides ↦ absurd (zero_has_no_dash text sides.0 sides.1 b.start zero.0 sides.2 sides.3)
          ]
      | inr mine ↦
          elim q [
            | inl zero ↦ absurd (zero_has_no_dash text mine.0 mine.1 a.start zero.0 mine.2 mine.3)
            | inr other ↦
                let cut = cut_once mine.0 mine.1 other.0 other.1 a.start b.start (sym mine.2 ∙ other.2) mine.3 other.3 in
                same_ranges a b
                (decoded_once mine.0 a.start b.start mine.3.0 (ap decode_of cut.0 ∙ other.3.0))
                (decoded_once mine.1 a.end b.end mine.4.0 (ap decode_of cut.1 ∙ other.4.0))
          ]
    ]

-- ---- no range where there is a fault

outside_is_not_spelled : (text : List ℕ) (at : ℕ) → IsOutside text at → IsSpelled text → ⊥
outside_is_not_spelled text at out spelled =
    let within = out.within in
    elim (cases_lt at (length text)) [
      | inl early ↦
          let P : List ℕ → Type 0 = λ xs. IsSpelled xs in
          out.dead early (drop (at + 1) text, subst P (sym (take-append-drop (at + 1) text)) spelled)
      | inr end ↦ out.short (omega arith) spelled
    ]

pub fault_is_no_range : (text : List ℕ) (at : ℕ) (range : Range) → IsFault text at → IsRead text range → ⊥
fault_is_no_range text at range fault read =
    elim fault [
      | inl out ↦ outside_is_not_spelled text at out (range, read.0)
      | inr down ↦
          let same = spelled_once text down.range range down.spelled read.0 in
          false≢true (sym down.unordered ∙ ap is_ordered same ∙ read.1)
    ]

-- ---- the range at a dash

pub IsSpelled-at_dash : (text start end : List ℕ) (n : ℕ) → IsDash text n → decode_of (take n text) ≡ Ok start
    → decode_of (drop (n + 1) text) ≡ Ok end → Spells text (record { start = start; end = end })
IsSpelled-at_dash text start end n at s e =
    let before = at.before in
    let behind = at.behind in
    inr (
      take n text,
      drop (n + 1) text,
      split_at_dash text n at.within at.dash,
      (s, before.most),
      (e, behind.most),
    )

-- an end that isn't above its start is a fault at the end's place
pub upside_down : (text start end : List ℕ) (n : ℕ) → IsDash text n → decode_of (take n text) ≡ Ok start
    → decode_of (drop (n + 1) text) ≡ Ok end → is_ordered (record { start = start; end = end }) ≡ false → IsFault text (n + 1)
upside_down text start end n at s e unordered =
    let within = at.within in
    let len = length-take-le n text (omega arith) in
    let read = decode_of-ok (take n text) start s in
    let digits = read.2 in
    inr (record {
      range = record { start = start; end = end };
      spelled = IsSpelled-at_dash text start end n at s e;
      unordered = unordered;
      place = omega arith;
    })
