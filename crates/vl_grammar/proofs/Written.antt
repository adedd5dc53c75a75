-- What is written of an item is cut as one token again, which is that item, whatever calm text stands behind it.
use Rattle.std.proofs.Common.{◌≡◌, ℕ, ◌+◌, ◌*◌, ◌-◌, ◌%◌, ◌^◌, ◌<◌, ◌≤◌, ◌==◌, Bool, true, false, not, ◌&&◌, ◌||◌, List, [], ◌∷◌, ◌++◌, length, Some, refl, sym, ap, subst, ◌∙◌, append_assoc, arith, eqb-true}
use Rattle.std.proofs.lemmas.List.{length-append, take_at, drop_at}
use Rattle.std.proofs.lemmas.Bool.Decides.{nat_tests}
use Rattle.std.proofs.lemmas.Fmt.{decimal_by_steps}
use Rattle.std.specs.List.{list_all, flat_map}
use Rattle.std.specs.Char.{is_ascii_digit, is_ascii_alphabetic}
use Rattle.std.specs.Fmt.{decimal}
use Rattle.vl_token.specs.Tok.Tok.{Quoted, Text, Number, Variable, Mark}
use Rattle.vl_token.specs.Lexical.{is_start, is_part, is_mark, begins, escaped, later, closing, unescaped, number_after, number_in, lexeme_at, run_at, text_at, closed_at, quoted_at}
use Rattle.vl_token.specs.Lexical.Lexeme.{Piece}
use Rattle.vl_token.proofs.Lexing.{ahead, differs, prefix_all, run_all, not_blank}
use Rattle.vl_grammar.specs.Layout.{letter_for, escape, in_quotes}

and_first : (a b : Bool) → (a && b) ≡ true → a ≡ true
and_first true b h = refl
and_first false b h = absurd cc

and_second : (a b : Bool) → (a && b) ≡ true → b ≡ true
and_second true b h = h
and_second false b h = absurd cc

-- there is a byte
abbrev HasOne : List ℕ → Type 0
HasOne [] = ⊥
HasOne (b ∷ bs) = Unit {0}

-- ---- numbers

digit_no_start : (d : ℕ) → is_ascii_digit d ≡ true → is_start d ≡ false
digit_no_start d h = grind (arith, nat_tests)

pub number_again : (d : ℕ) (ds rest : List ℕ) → list_all is_ascii_digit (d ∷ ds) ≡ true → ahead is_ascii_digit rest ≡ false → lexeme_at ((d ∷ ds) ++ rest) ≡ Piece (Number false (d ∷ ds)) rest
number_again d ds rest h stop =
    let one : is_ascii_digit d ≡ true = and_first (is_ascii_digit d) (list_all is_ascii_digit ds) h in
    let here : lexeme_at ((d ∷ ds) ++ rest) ≡ run_at (Number false) is_ascii_digit ((d ∷ ds) ++ rest) =
    rw (not_blank is_ascii_digit d one refl refl refl refl, differs is_ascii_digit d 120 one refl, differs is_ascii_digit d 88 one refl, digit_no_start d one, one) refl in
    here ∙ run_all (Number false) is_ascii_digit (d ∷ ds) rest h stop

pub minus_again : (d : ℕ) (ds rest : List ℕ) → list_all is_ascii_digit (d ∷ ds) ≡ true → ahead is_ascii_digit rest ≡ false → lexeme_at (45 ∷ ((d ∷ ds) ++ rest)) ≡ Piece (Number true (d ∷ ds)) rest
minus_again d ds rest h stop =
    let one : is_ascii_digit d ≡ true = and_first (is_ascii_digit d) (list_all is_ascii_digit ds) h in
    let here : lexeme_at (45 ∷ ((d ∷ ds) ++ rest)) ≡ run_at (Number true) is_ascii_digit ((d ∷ ds) ++ rest) = rw one refl in
    here ∙ run_all (Number true) is_ascii_digit (d ∷ ds) rest h stop

-- decimal digits are digits, and spell the number
pub record IsDecimal (n : ℕ) (ds : List ℕ) : Type 0 where
  pub digits : list_all is_ascii_digit ds ≡ true
  pub number : number_in ds ≡ n
  pub some : 1 ≤ length ds

number_push : (n : ℕ) (ds : List ℕ) (c : ℕ) → number_after n (ds ++ c ∷ []) ≡ 10 * number_after n ds + (c - 48)
number_push n [] c = refl
number_push n (d ∷ ds) c = number_push (10 * n + (d - 48)) ds c

all_push : (p : ℕ → Bool) (ds : List ℕ) (c : ℕ) → list_all p ds ≡ true → p c ≡ true → list_all p (ds ++ c ∷ []) ≡ true
all_push p [] c h pc = rw pc refl
all_push p (d ∷ ds) c h pc = rw (and_first (p d) (list_all p ds) h) (all_push p ds c (and_second (p d) (list_all p ds) h) pc)

digit_is : (k : ℕ) → k < 10 → is_ascii_digit (48 + k) ≡ true
digit_is k lt = grind (arith, nat_tests)

pub decimal_is : (n : ℕ) → n < 2 ^ 64 → IsDecimal n (decimal n)
decimal_is = decimal_by_steps IsDecimal
    (λ n lt. record { digits = rw (digit_is n lt) refl; number = omega arith; some = omega arith })
    (λ n ds le h. record {
      digits = all_push is_ascii_digit ds (48 + n % 10) h.digits (digit_is (n % 10) (omega arith));
      number = number_push 0 ds (48 + n % 10) ∙ rw h.number (omega arith);
      some = omega (arith, length-append ds ((48 + n % 10) ∷ []));
    })

-- ---- names in backquotes, words behind @@, marks

pub quoted_again : (n rest : List ℕ) → list_all (λ b. not (b == 96)) n ≡ true → lexeme_at (96 ∷ ((n ++ 96 ∷ []) ++ rest)) ≡ Piece (Quoted n) rest
quoted_again n rest h =
    let here : (n ++ 96 ∷ []) ++ rest ≡ n ++ 96 ∷ rest = append_assoc n (96 ∷ []) rest in
    ap (λ (x : List ℕ). quoted_at x) here ∙ rw (prefix_all (λ b. not (b == 96)) n (96 ∷ rest) h refl, take_at n (96 ∷ rest) (length n) refl, drop_at n (96 ∷ rest) (length n) refl) refl

or_among : (a e d f : Bool) → (a || e) ≡ true → (a || d || e || f) ≡ true
or_among true e d f h = refl
or_among false true true f h = refl
or_among false true false f h = refl
or_among false false d f h = absurd cc

pub variable_again : (b : ℕ) (bs rest : List ℕ) → is_start b ≡ true → list_all is_part bs ≡ true → ahead is_part rest ≡ false → lexeme_at (64 ∷ 64 ∷ ((b ∷ bs) ++ rest)) ≡ Piece (Variable (b ∷ bs)) rest
variable_again b bs rest start parts stop =
    let all : list_all is_part (b ∷ bs) ≡ true = rw (or_among (is_ascii_alphabetic b) (b == 95) (is_ascii_digit b) (b == 36) start) parts in
    let here : lexeme_at (64 ∷ 64 ∷ ((b ∷ bs) ++ rest)) ≡ run_at Variable is_part ((b ∷ bs) ++ rest) = rw start refl in
    here ∙ run_all Variable is_part (b ∷ bs) rest all stop

by_eq : (P : ℕ → Type 0) (b c : ℕ) → (b == c) ≡ true → P c → P b
by_eq P b c e p = subst P (sym (eqb-true b c e)) p

pub mark_again : (c : ℕ) (rest : List ℕ) → is_mark c ≡ true → lexeme_at (c ∷ rest) ≡ Piece (Mark c) rest
mark_again c rest h = by (c == 40) (c == 41) (c == 42) (c == 43) (c == 44) (c == 46) (c == 59) (c == 61) refl refl refl refl refl refl refl refl
  where
    by : (v1 v2 v3 v4 v5 v6 v7 v8 : Bool) → (c == 40) ≡ v1 → (c == 41) ≡ v2 → (c == 42) ≡ v3 → (c == 43) ≡ v4 → (c == 44) ≡ v5 → (c == 46) ≡ v6 → (c == 59) ≡ v7 → (c == 61) ≡ v8 → lexeme_at (c ∷ rest) ≡ Piece (Mark c) rest
    by true v2 v3 v4 v5 v6 v7 v8 e1 e2 e3 e4 e5 e6 e7 e8 = by_eq (λ x. lexeme_at (x ∷ rest) ≡ Piece (Mark x) rest) c 40 e1 refl
    by false true v3 v4 v5 v6 v7 v8 e1 e2 e3 e4 e5 e6 e7 e8 = by_eq (λ x. lexeme_at (x ∷ rest) ≡ Piece (Mark x) rest) c 41 e2 refl
    by false false true v4 v5 v6 v7 v8 e1 e2 e3 e4 e5 e6 e7 e8 = by_eq (λ x. lexeme_at (x ∷ rest) ≡ Piece (Mark x) rest) c 42 e3 refl
    by false false false true v5 v6 v7 v8 e1 e2 e3 e4 e5 e6 e7 e8 = by_eq (λ x. lexeme_at (x ∷ rest) ≡ Piece (Mark x) rest) c 43 e4 refl
    by false false false false true v6 v7 v8 e1 e2 e3 e4 e5 e6 e7 e8 = by_eq (λ x. lexeme_at (x ∷ rest) ≡ Piece (Mark x) rest) c 44 e5 refl
    by false false false false false true v7 v8 e1 e2 e3 e4 e5 e6 e7 e8 = by_eq (λ x. lexeme_at (x ∷ rest) ≡ Piece (Mark x) rest) c 46 e6 refl
    by false false false false false false true v8 e1 e2 e3 e4 e5 e6 e7 e8 = by_eq (λ x. lexeme_at (x ∷ rest) ≡ Piece (Mark x) rest) c 59 e7 refl
    by false false false false false false false true e1 e2 e3 e4 e5 e6 e7 e8 = by_eq (λ x. lexeme_at (x ∷ rest) ≡ Piece (Mark x) rest) c 61 e8 refl
    by false false false false false false false false e1 e2 e3 e4 e5 e6 e7 e8 = absurd (let clash : false ≡ true = rw (e1, e2, e3, e4, e5, e6, e7, e8) at h in cc)

-- ---- texts in quotes

-- a byte stands for itself, or behind a backslash stands one that stands for it
data Escape (b : ℕ) : Type 0 where
  plain : (letter_for b == 0) ≡ true → (b == 39) ≡ false → (b == 92) ≡ false → Escape b
  behind_backslash : (letter_for b == 0) ≡ false → escaped (letter_for b) ≡ b ∷ [] → Escape b

escape_of : (b : ℕ) → Escape b
escape_of b = by (b == 0) (b == 8) (b == 10) (b == 13) (b == 9) (b == 26) (b == 92) (b == 39) (b == 34) refl refl refl refl refl refl refl refl refl
  where
    at : (c : ℕ) → (b == c) ≡ true → Escape c → Escape b
    at c e p = by_eq Escape b c e p

    by : (v0 v1 v2 v3 v4 v5 v6 v7 v8 : Bool) → (b == 0) ≡ v0 → (b == 8) ≡ v1 → (b == 10) ≡ v2 → (b == 13) ≡ v3 → (b == 9) ≡ v4 → (b == 26) ≡ v5 → (b == 92) ≡ v6 → (b == 39) ≡ v7 → (b == 34) ≡ v8 → Escape b
    by true v1 v2 v3 v4 v5 v6 v7 v8 e0 e1 e2 e3 e4 e5 e6 e7 e8 = at 0 e0 (behind_backslash refl refl)
    by false true v2 v3 v4 v5 v6 v7 v8 e0 e1 e2 e3 e4 e5 e6 e7 e8 = at 8 e1 (behind_backslash refl refl)
    by false false true v3 v4 v5 v6 v7 v8 e0 e1 e2 e3 e4 e5 e6 e7 e8 = at 10 e2 (behind_backslash refl refl)
    by false false false true v4 v5 v6 v7 v8 e0 e1 e2 e3 e4 e5 e6 e7 e8 = at 13 e3 (behind_backslash refl refl)
    by false false false false true v5 v6 v7 v8 e0 e1 e2 e3 e4 e5 e6 e7 e8 = at 9 e4 (behind_backslash refl refl)
    by false false false false false true v6 v7 v8 e0 e1 e2 e3 e4 e5 e6 e7 e8 = at 26 e5 (behind_backslash refl refl)
    by false false false false false false true v7 v8 e0 e1 e2 e3 e4 e5 e6 e7 e8 = at 92 e6 (behind_backslash refl refl)
    by false false false false false false false true v8 e0 e1 e2 e3 e4 e5 e6 e7 e8 = at 39 e7 (behind_backslash refl refl)
    by false false false false false false false false true e0 e1 e2 e3 e4 e5 e6 e7 e8 = at 34 e8 (behind_backslash refl refl)
    by false false false false false false false false false e0 e1 e2 e3 e4 e5 e6 e7 e8 = plain (rw (e0, e1, e2, e3, e4, e5, e6, e7, e8) refl) e7 e6

plain_closing : (b : ℕ) (x : List ℕ) → (b == 39) ≡ false → (b == 92) ≡ false → HasOne x → closing 39 (b ∷ x) ≡ later 1 (closing 39 x)
plain_closing b [] q w h = absurd h
plain_closing b (c ∷ x) q w h = rw (q, w) refl

plain_unescaped : (b : ℕ) (x : List ℕ) → (b == 39) ≡ false → (b == 92) ≡ false → unescaped 39 (b ∷ x) ≡ b ∷ unescaped 39 x
plain_unescaped b [] q w = refl
plain_unescaped b (c ∷ x) q w = rw (q, w) refl

quote_closing : (rest : List ℕ) → begins 39 rest ≡ false → closing 39 (39 ∷ rest) ≡ Some 0
quote_closing [] h = refl
quote_closing (c ∷ rest) h = rw h refl

ends_in_one : (s rest : List ℕ) → HasOne (s ++ 39 ∷ rest)
ends_in_one [] rest = tt
ends_in_one (b ∷ s) rest = tt

closing_again : (s rest : List ℕ) → begins 39 rest ≡ false → closing 39 (flat_map escape s ++ 39 ∷ rest) ≡ Some (length (flat_map escape s))
closing_again [] rest h = quote_closing rest h
closing_again (b ∷ s) rest h = by (escape_of b) (closing_again s rest h)
  where
    by : Escape b → closing 39 (flat_map escape s ++ 39 ∷ rest) ≡ Some (length (flat_map escape s)) → closing 39 ((escape b ++ flat_map escape s) ++ 39 ∷ rest) ≡ Some (length (escape b ++ flat_map escape s))
    by (plain z q w) rec = rw z (plain_closing b (flat_map escape s ++ 39 ∷ rest) q w (ends_in_one (flat_map escape s) rest) ∙ ap (λ o. later 1 o) rec ∙ ap (λ (n : ℕ). Some n) (omega arith))
    by (behind_backslash z e) rec = rw z (ap (λ o. later 2 o) rec ∙ ap (λ (n : ℕ). Some n) (omega arith))

unescaped_again : (s : List ℕ) → unescaped 39 (flat_map escape s) ≡ s
unescaped_again [] = refl
unescaped_again (b ∷ s) = by (escape_of b) (unescaped_again s)
  where
    by : Escape b → unescaped 39 (flat_map escape s) ≡ s → unescaped 39 (escape b ++ flat_map escape s) ≡ b ∷ s
    by (plain z q w) rec = rw z (plain_unescaped b (flat_map escape s) q w ∙ ap (λ (x : List ℕ). b ∷ x) rec)
    by (behind_backslash z e) rec = rw z (ap (λ (x : List ℕ). x ++ unescaped 39 (flat_map escape s)) e ∙ ap (λ (x : List ℕ). b ∷ x) rec)

pub text_again : (s rest : List ℕ) → begins 39 rest ≡ false → lexeme_at (in_quotes s ++ rest) ≡ Piece (Text s) rest
text_again s rest h =
    let here : (flat_map escape s ++ 39 ∷ []) ++ rest ≡ flat_map escape s ++ 39 ∷ rest = append_assoc (flat_map escape s) (39 ∷ []) rest in
    ap (λ (x : List ℕ). text_at 39 x) here
    ∙ ap (λ o. closed_at 39 (flat_map escape s ++ 39 ∷ rest) o) (closing_again s rest h)
    ∙ rw (take_at (flat_map escape s) (39 ∷ rest) (length (flat_map escape s)) refl, drop_at (flat_map escape s) (39 ∷ rest) (length (flat_map escape s)) refl, unescaped_again s) refl
