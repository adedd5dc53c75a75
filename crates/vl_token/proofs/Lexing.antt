-- How what is written is cut again, whatever stands behind it.
use Rattle.std.proofs.Common.{◌≡◌, ℕ, zero, suc, ◌==◌, Bool, true, false, ◌&&◌, ◌||◌, List, [], ◌∷◌, ◌++◌, length, map, refl, sym, ap, ◌∙◌, arith, eqb-true}
use Rattle.std.proofs.lemmas.List.{append-nil, take_at, drop_at}
use Rattle.std.specs.List.{prefix_len, list_all}
use Rattle.std.specs.Char.{is_ascii_digit, is_ascii_alphabetic}
use Rattle.vl_token.specs.Tok.{Tok}
use Rattle.vl_token.specs.Tok.Tok.{Word}
use Rattle.vl_token.specs.Lexical.{is_blank, is_start, is_part, begins, lexeme_at, run_at, cut_on, cut_within, cut, tokens_in}
use Rattle.vl_token.specs.Lexical.Lexeme.{Piece}

-- whether the first byte passes
abbrev pub ahead : (ℕ → Bool) → List ℕ → Bool
ahead p [] = false
ahead p (b ∷ bs) = p b

-- a byte that passes isn't one that doesn't
pub differs : (p : ℕ → Bool) (b c : ℕ) → p b ≡ true → p c ≡ false → (b == c) ≡ false
differs p b c yes_ no_ = by (b == c) refl
  where
    by : (v : Bool) → (b == c) ≡ v → v ≡ false
    by false e = refl
    by true e = let same : b ≡ c = eqb-true b c e in absurd (let clash : true ≡ false = sym yes_ ∙ ap p same ∙ no_ in cc)

and_first : (a b : Bool) → (a && b) ≡ true → a ≡ true
and_first true b h = refl
and_first false b h = absurd cc

and_second : (a b : Bool) → (a && b) ≡ true → b ≡ true
and_second true b h = h
and_second false b h = absurd cc

pub prefix_all : (p : ℕ → Bool) (xs rest : List ℕ) → list_all p xs ≡ true → ahead p rest ≡ false → prefix_len p (xs ++ rest) ≡ length xs
prefix_all p [] [] h s = refl
prefix_all p [] (b ∷ rest) h s = rw s refl
prefix_all p (x ∷ xs) rest h s =
    let here : p x ≡ true = and_first (p x) (list_all p xs) h in
    rw here (omega (arith, prefix_all p xs rest (and_second (p x) (list_all p xs) h) s))

pub run_all : (f : List ℕ → Tok) (p : ℕ → Bool) (xs rest : List ℕ) → list_all p xs ≡ true → ahead p rest ≡ false → run_at f p (xs ++ rest) ≡ Piece (f xs) rest
run_all f p xs rest h s = rw (prefix_all p xs rest h s, take_at xs rest (length xs) refl, drop_at xs rest (length xs) refl) refl

and_no : (a b : Bool) → b ≡ false → (a && b) ≡ false
and_no true b h = h
and_no false b h = refl

or_no : (a b : Bool) → a ≡ false → b ≡ false → (a || b) ≡ false
or_no a b p q = rw (p, q) refl

or_among : (a e d f : Bool) → (a || e) ≡ true → (a || d || e || f) ≡ true
or_among true e d f h = refl
or_among false true true f h = refl
or_among false true false f h = refl
or_among false false d f h = absurd cc

start_part : (b : ℕ) → is_start b ≡ true → is_part b ≡ true
start_part b h = or_among (is_ascii_alphabetic b) (b == 95) (is_ascii_digit b) (b == 36) h

-- no white space begins with a byte that passes a test which white space doesn't
pub not_blank : (p : ℕ → Bool) (b : ℕ) → p b ≡ true → p 32 ≡ false → p 9 ≡ false → p 10 ≡ false → p 13 ≡ false → is_blank b ≡ false
not_blank p b h h1 h2 h3 h4 = rw (differs p b 32 h h1, differs p b 9 h h2, differs p b 10 h h3, differs p b 13 h h4) refl

begins_no : (p : ℕ → Bool) (c : ℕ) (bs rest : List ℕ) → list_all p bs ≡ true → p c ≡ false → begins c rest ≡ false → begins c (bs ++ rest) ≡ false
begins_no p c [] rest h pc s = s
begins_no p c (b ∷ bs) rest h pc s = differs p b c (and_first (p b) (list_all p bs) h) pc

-- a word
pub word_again : (b : ℕ) (bs rest : List ℕ) → is_start b ≡ true → list_all is_part bs ≡ true → ahead is_part rest ≡ false → begins 39 rest ≡ false → lexeme_at ((b ∷ bs) ++ rest) ≡ Piece (Word (b ∷ bs)) rest
word_again b bs rest start parts stop quote =
    let all : list_all is_part (b ∷ bs) ≡ true = rw (start_part b start) parts in
    rw (not_blank is_start b start refl refl refl refl, and_no (b == 120 || b == 88) (begins 39 (bs ++ rest)) (begins_no is_part 39 bs rest parts refl quote), start) (run_all Word is_part (b ∷ bs) rest all stop)

-- ---- a text of one lexeme is one token

pub one_piece : (b : ℕ) (bs : List ℕ) (t : Tok) → lexeme_at (b ∷ bs) ≡ Piece t [] → tokens_in (b ∷ bs) ≡ t ∷ []
unfolding cut
one_piece b bs t h = ap (λ l. map (λ p. p.0) (cut_on (length (b ∷ bs)) l (λ rest. cut_within (length bs) rest))) h ∙ ap (λ (ts : List Tok). t ∷ ts) (none (length bs))
  where
    none : (n : ℕ) → map (λ p. p.0) (cut_within n []) ≡ []
    none zero = refl
    none (suc n) = refl

pub word_alone : (b : ℕ) (bs : List ℕ) → is_start b ≡ true → list_all is_part bs ≡ true → tokens_in (b ∷ bs) ≡ Word (b ∷ bs) ∷ []
word_alone b bs start parts =
    let h : lexeme_at (b ∷ bs) ≡ Piece (Word (b ∷ bs)) [] = ap lexeme_at (sym (append-nil (b ∷ bs))) ∙ word_again b bs [] start parts refl refl in
    one_piece b bs (Word (b ∷ bs)) h
