-- Where a text leaves the grammar of key ranges: behind the digits that it begins with, or behind
-- those that its end begins with.
use Rattle.std.proofs.Common.{◌≡◌, ◌≢◌, ℕ, ◌+◌, ◌%◌, ◌<◌, ◌≤◌, ◌⊎◌, inl, inr, List, [], ◌∷◌, ◌++◌, length, take, drop, get_or, true, refl, sym, ap, ◌∙◌, subst, arith, codes}
use Rattle.std.specs.List.{AllPass}
use Rattle.std.proofs.Math.Seq.{take-append-add}
use Rattle.std.proofs.lemmas.Bool.{cases_lt, cases_eq, false≢true}
use Rattle.std.proofs.lemmas.List.{append-nil, append_assoc, length-append, length-take-le, get_or_append_left, get_or-take, get_or_at, drop_at, take_at, take-append-le, take-append-drop, take-take, drop_more}
use Rattle.std.proofs.lemmas.List.Elements.{All-append, All-cons, All-nil}
use Rattle.hex.specs.Hex.{is_hex_digit}
use Rattle.hex.proofs.HexLemmas.{decode_of-digits, decode_of-ok}
use Rattle.vl_vindex.specs.KeyRange.{IsSide, IsSpelled, Begins, IsOutside}
use Rattle.vl_vindex.specs.Reading.{IsRun, IsDigits}

abbrev pub IsDigit : ℕ → Type 0
IsDigit b = is_hex_digit b ≡ true

-- ---- sides

pub IsDigits-from_side : (digits bytes : List ℕ) → IsSide digits bytes → IsDigits digits
IsDigits-from_side digits bytes side =
    let read = decode_of-ok digits bytes side.0 in
    record { even = read.0; most = side.1; each = read.1 }

pub IsSide-from_digits : (digits : List ℕ) → IsDigits digits → (bytes : List ℕ) × IsSide digits bytes
IsSide-from_digits digits side =
    let read = decode_of-digits digits side.even side.each in
    (read.0, (read.1, side.most))

-- two sides are a text in the grammar
pub IsSpelled-sides : (start end : List ℕ) → IsDigits start → IsDigits end → IsSpelled (start ++ (45 ∷ end))
IsSpelled-sides start end s e =
    let a = IsSide-from_digits start s in
    let b = IsSide-from_digits end e in
    (record { start = a.0; end = b.0 }, inr (start, end, refl, a.1, b.1))

pub IsDigits-nil : IsDigits []
IsDigits-nil = record { even = refl; most = omega arith; each = All-nil IsDigit }

-- one digit more than an odd number of them
pub IsDigits-one_more : (digits : List ℕ) → (length digits % 2 ≡ 0 → ⊥) → length digits ≤ 32 → AllPass is_hex_digit digits
    → IsDigits (digits ++ 48 ∷ [])
IsDigits-one_more digits odd most each =
    let len = length-append digits (48 ∷ []) in
    record {
      even = omega (arith, len);
      most = omega (arith, len);
      each = All-append IsDigit digits (48 ∷ []) each (All-cons IsDigit 48 [] refl (All-nil IsDigit));
    }

-- ---- the digits that a text begins with

-- a digit isn't a dash
dash_is_no_digit : (b : ℕ) → b ≡ 45 → is_hex_digit b ≡ true → ⊥
dash_is_no_digit b e digit =
    let P : ℕ → Type 0 = λ x. is_hex_digit x ≡ true in
    false≢true (subst P e digit)

-- they end before the first byte that is none
pub run_before_dash : (start end : List ℕ) (n : ℕ) → IsRun (start ++ (45 ∷ end)) n → AllPass is_hex_digit start
    → length start ≤ 32 → n ≡ length start
run_before_dash start end n run each most =
    let len = length-append start (45 ∷ end) in
    elim (cases_lt n (length start)) [
      | inl early ↦
          let stops = run.stops (omega (arith, len)) (omega arith) in
          let there = get_or_append_left start (45 ∷ end) 0 n early in
          let digit : is_hex_digit (get_or (start ++ (45 ∷ end)) n 0) ≡ true = ap is_hex_digit there ∙ each n 0 early in
          absurd (false≢true (sym stops ∙ digit))
      | inr late ↦
          elim (cases_eq n (length start)) [
            | inl same ↦ same
            | inr other ↦
                let past : length start < n = omega arith in
                let inside : length start < length (take n (start ++ (45 ∷ end))) = omega (arith, length-take-le n (start ++ (45 ∷ end)) run.within) in
                let digit = run.digits (length start) 0 inside in
                let there : get_or (take n (start ++ (45 ∷ end))) (length start) 0 ≡ 45 =
                get_or-take n (start ++ (45 ∷ end)) (length start) 0 past ∙ get_or_at start 45 end 0 (length start) refl in
                absurd (dash_is_no_digit _ there digit)
          ]
    ]

-- they are all where all are digits
pub run_of_digits : (digits : List ℕ) (n : ℕ) → IsRun digits n → IsDigits digits → n ≡ length digits
run_of_digits digits n run side =
    let within = run.within in
    let most = side.most in
    elim (cases_lt n (length digits)) [
      | inl early ↦ absurd (false≢true (sym (run.stops early (omega arith)) ∙ side.each n 0 early))
      | inr late ↦ omega arith
    ]

-- they are the same where the text goes on otherwise behind the byte that ends them
pub run_goes_on : (text rest : List ℕ) (n : ℕ) → IsRun text n → n < length text → IsRun (take (n + 1) text ++ rest) n
run_goes_on text rest n run early =
    let len = length-append (take (n + 1) text) rest in
    let front_len = length-take-le (n + 1) text (omega arith) in
    let front : take n (take (n + 1) text ++ rest) ≡ take n text =
    take-append-le n (take (n + 1) text) rest (omega arith) ∙ take-take n (n + 1) text (omega arith) in
    let there : get_or (take (n + 1) text ++ rest) n 0 ≡ get_or text n 0 =
    get_or_append_left (take (n + 1) text) rest 0 n (omega arith) ∙ get_or-take (n + 1) text n 0 (omega arith) in
    let P : List ℕ → Type 0 = λ xs. AllPass is_hex_digit xs in
    record {
      within = omega arith;
      most = run.most;
      digits = subst P (sym front) run.digits;
      stops = λ _ few. ap is_hex_digit there ∙ run.stops early few;
    }

-- what a text in the grammar has at the end of its digits
pub record HasDash (text : List ℕ) (n : ℕ) : Type 0 where
  pub even : n % 2 ≡ 0
  pub within : n < length text
  pub dash : get_or text n 0 ≡ 45
  pub behind : IsDigits (drop (n + 1) text)

has_dash : (text start end first last : List ℕ) (n : ℕ) → text ≡ start ++ (45 ∷ end) → IsSide start first → IsSide end last → IsRun text n
    → HasDash text n
has_dash text start end first last n is s e run =
    let a = IsDigits-from_side start first s in
    let R : List ℕ → Type 0 = λ xs. IsRun xs n in
    let at = run_before_dash start end n (subst R is run) a.each a.most in
    let H : List ℕ → Type 0 = λ xs. HasDash xs n in
    let len = length-append start (45 ∷ end) in
    let even = a.even in
    let behind : drop (n + 1) (start ++ (45 ∷ end)) ≡ end =
    ap (λ (xs : List ℕ). drop (n + 1) xs) (sym (append_assoc start (45 ∷ []) end))
    ∙ drop_at (start ++ 45 ∷ []) end (n + 1) (omega (arith, length-append start (45 ∷ []))) in
    let D : List ℕ → Type 0 = λ xs. IsDigits xs in
    subst H (sym is) (record {
      even = omega arith;
      within = omega (arith, len);
      dash = get_or_at start 45 end 0 n (sym at);
      behind = subst D (sym behind) (IsDigits-from_side end last e);
    })

pub spelled_cases : (text : List ℕ) (n : ℕ) → IsSpelled text → IsRun text n → (text ≡ codes "0") ⊎ HasDash text n
spelled_cases text n spelled run =
    elim spelled.1 [
      | inl whole ↦ inl whole.0
      | inr sides ↦ inr (has_dash text sides.0 sides.1 _ _ n sides.2 sides.3 sides.4 run)
    ]

-- ---- behind the digits that a text begins with

-- a side can go on so that a text in the grammar comes
begins_by_digits : (text : List ℕ) (n : ℕ) → IsRun text n → Begins (take n text)
begins_by_digits text n run =
    let len = length-take-le n text run.within in
    let most = run.most in
    elim (cases_eq (n % 2) 0) [
      | inl even ↦ (
        45 ∷ [],
        IsSpelled-sides (take n text) [] (record { even = omega arith; most = omega arith; each = run.digits }) IsDigits-nil,
      )
      | inr odd ↦
          let spelled = IsSpelled-sides (take n text ++ 48 ∷ []) []
          (IsDigits-one_more (take n text) (λ e. odd (omega arith)) (omega arith) run.digits) IsDigits-nil in
          let P : List ℕ → Type 0 = λ xs. IsSpelled xs in
          (48 ∷ 45 ∷ [], subst P (append_assoc (take n text) (48 ∷ []) (45 ∷ [])) spelled)
    ]

pub outside_at_start : (text : List ℕ) (n : ℕ) → text ≢ codes "0" → IsRun text n
    → (n % 2 ≡ 0 → n < length text → get_or text n 0 ≡ 45 → ⊥) → IsOutside text n
outside_at_start text n other run none = record {
  within = run.within;
  begun = begins_by_digits text n run;
  dead = λ early begins.
      let on = take (n + 1) text ++ begins.0 in
      let there : get_or on n 0 ≡ get_or text n 0 =
      get_or_append_left (take (n + 1) text) begins.0 0 n (omega (arith, length-take-le (n + 1) text (omega arith)))
      ∙ get_or-take (n + 1) text n 0 (omega arith) in
      elim (spelled_cases on n begins.1 (run_goes_on text begins.0 n run early)) [
        | inl whole ↦
            let len : length on ≡ 1 = ap length whole in
            let first : n ≡ 0 = omega (arith, length-append (take (n + 1) text) begins.0, length-take-le (n + 1) text (omega arith)) in
            let zero_byte : get_or on n 0 ≡ 48 = ap (λ (xs : List ℕ). get_or xs n 0) whole ∙ ap (λ (k : ℕ). get_or (48 ∷ []) k 0) first in
            let digit : is_hex_digit (get_or text n 0) ≡ true = ap is_hex_digit (sym there ∙ zero_byte) in
            false≢true (sym (run.stops early (omega arith)) ∙ digit)
        | inr dash ↦ none dash.even early (sym there ∙ dash.dash)
      ];
  short = λ end spelled.
      elim (spelled_cases text n spelled run) [
        | inl whole ↦ other whole
        | inr dash ↦ none dash.even dash.within dash.dash
      ];
}

-- ---- behind the digits that the end begins with

-- the front of a text with a dash, up to a byte of its end
cut_front : (start rest : List ℕ) (k n : ℕ) → n ≡ length start + 1 + k
    → take n (start ++ (45 ∷ rest)) ≡ start ++ (45 ∷ take k rest)
cut_front start rest k n is =
    let len = length-append start (45 ∷ []) in
    ap (λ (xs : List ℕ). take n xs) (sym (append_assoc start (45 ∷ []) rest))
    ∙ ap (λ (m : ℕ). take m (start ++ 45 ∷ [] ++ rest)) (let e : n ≡ length (start ++ 45 ∷ []) + k = omega (arith, len) in e)
    ∙ take-append-add (start ++ 45 ∷ []) rest k
    ∙ append_assoc start (45 ∷ []) (take k rest)

-- a text whose front to the dash is a side begins with that many digits
pub run_to_dash : (start rest : List ℕ) → IsDigits start → IsRun (start ++ (45 ∷ rest)) (length start)
run_to_dash start rest side =
    let P : List ℕ → Type 0 = λ xs. AllPass is_hex_digit xs in
    record {
      within = omega (arith, length-append start (45 ∷ rest));
      most = side.most;
      digits = subst P (sym (take_at start (45 ∷ rest) (length start) refl)) side.each;
      stops = λ _ _. ap is_hex_digit (get_or_at start 45 rest 0 (length start) refl);
    }

-- the end of a text in the grammar is a side
end_is_side : (start rest : List ℕ) → IsDigits start → IsSpelled (start ++ (45 ∷ rest)) → IsDigits rest
end_is_side start rest side spelled =
    elim (spelled_cases (start ++ (45 ∷ rest)) (length start) spelled (run_to_dash start rest side)) [
      | inl whole ↦
          let len : length (start ++ (45 ∷ rest)) ≡ 1 = ap length whole in
          let nothing : length start ≡ 0 = omega (arith, length-append start (45 ∷ rest)) in
          let first : get_or (start ++ (45 ∷ rest)) (length start) 0 ≡ 45 = get_or_at start 45 rest 0 (length start) refl in
          let zero_byte : get_or (start ++ (45 ∷ rest)) (length start) 0 ≡ 48 =
          ap (λ (xs : List ℕ). get_or xs (length start) 0) whole ∙ ap (λ (k : ℕ). get_or (48 ∷ []) k 0) nothing in
          absurd (omega arith)
      | inr dash ↦
          let behind : drop (length start + 1) (start ++ (45 ∷ rest)) ≡ rest =
          ap (λ (xs : List ℕ). drop (length start + 1) xs) (sym (append_assoc start (45 ∷ []) rest))
          ∙ drop_at (start ++ 45 ∷ []) rest (length start + 1) (omega (arith, length-append start (45 ∷ []))) in
          let D : List ℕ → Type 0 = λ xs. IsDigits xs in
          subst D behind dash.behind
    ]

-- an end can go on so that a text in the grammar comes
begins_by_end : (start rest : List ℕ) (m : ℕ) → IsDigits start → IsRun rest m → Begins (start ++ (45 ∷ take m rest))
begins_by_end start rest m side run =
    let len = length-take-le m rest run.within in
    let most = run.most in
    let P : List ℕ → Type 0 = λ xs. IsSpelled xs in
    elim (cases_eq (m % 2) 0) [
      | inl even ↦ (
        [],
        subst P (sym (append-nil (start ++ (45 ∷ take m rest))))
            (IsSpelled-sides start (take m rest) side (record { even = omega arith; most = omega arith; each = run.digits })),
      )
      | inr odd ↦ (
        48 ∷ [],
        subst P (sym (append_assoc start (45 ∷ take m rest) (48 ∷ [])))
            (IsSpelled-sides start (take m rest ++ 48 ∷ []) side
            (IsDigits-one_more (take m rest) (λ e. odd (omega arith)) (omega arith) run.digits)),
      )
    ]

outside_behind : (start rest : List ℕ) (m at : ℕ) → IsDigits start → IsRun rest m → at ≡ length start + 1 + m
    → (m % 2 ≡ 0 → m ≡ length rest → ⊥) → IsOutside (start ++ (45 ∷ rest)) at
outside_behind start rest m at side run place none =
    let len = length-append start (45 ∷ rest) in
    let within = run.within in
    let most = run.most in
    let B : List ℕ → Type 0 = λ xs. Begins xs in
    record {
      within = omega arith;
      begun = subst B (sym (cut_front start rest m at place)) (begins_by_end start rest m side run);
      dead = λ early begins.
          let inside : m < length rest = omega arith in
          let P : List ℕ → Type 0 = λ xs. IsSpelled xs in
          let front : take (at + 1) (start ++ (45 ∷ rest)) ++ begins.0 ≡ start ++ (45 ∷ (take (m + 1) rest ++ begins.0)) =
          ap (λ (xs : List ℕ). xs ++ begins.0) (cut_front start rest (m + 1) (at + 1) (omega arith))
          ∙ append_assoc start (45 ∷ take (m + 1) rest) begins.0 in
          let end = end_is_side start (take (m + 1) rest ++ begins.0) side (subst P front begins.1) in
          let all = run_of_digits (take (m + 1) rest ++ begins.0) m (run_goes_on rest begins.0 m run inside) end in
          omega (arith, length-append (take (m + 1) rest) begins.0, length-take-le (m + 1) rest (omega arith));
      short = λ end spelled.
          let last = end_is_side start rest side spelled in
          let all : m ≡ length rest = omega arith in
          let even = last.even in
          none (omega arith) all;
    }

-- a text is its front, the dash and the rest
pub split_at_dash : (text : List ℕ) (n : ℕ) → n < length text → get_or text n 0 ≡ 45 → text ≡ take n text ++ (45 ∷ drop (n + 1) text)
split_at_dash text n within dash =
    sym (take-append-drop n text)
    ∙ ap (λ (xs : List ℕ). take n text ++ xs) (drop_more text n 0 within ∙ ap (λ (b : ℕ). b ∷ drop (n + 1) text) dash)

pub outside_at_end : (text rest : List ℕ) (n m : ℕ) → IsRun text n → n % 2 ≡ 0 → n < length text → get_or text n 0 ≡ 45
    → rest ≡ drop (n + 1) text → IsRun rest m → (m % 2 ≡ 0 → m ≡ length rest → ⊥) → IsOutside text (n + 1 + m)
outside_at_end text rest n m start_run even within dash behind run none =
    let R : List ℕ → Type 0 = λ xs. IsRun xs m in
    let N : List ℕ → Type 0 = λ xs. m % 2 ≡ 0 → m ≡ length xs → ⊥ in
    let O : List ℕ → Type 0 = λ xs. IsOutside xs (n + 1 + m) in
    let len = length-take-le n text start_run.within in
    let most = start_run.most in
    subst O (sym (split_at_dash text n within dash))
    (outside_behind (take n text) (drop (n + 1) text) m (n + 1 + m)
    (record { even = omega arith; most = omega arith; each = start_run.digits }) (subst R behind run) (omega arith)
    (subst N behind none))
