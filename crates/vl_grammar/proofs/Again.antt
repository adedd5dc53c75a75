-- Items that are written in one layout are read again as these items.
use Rattle.std.proofs.Common.{◌≡◌, ℕ, zero, suc, ◌+◌, ◌-◌, ◌%◌, ◌^◌, ◌<◌, ◌≤◌, ◌==◌, nat_le, nat_lt, Bool, true, false, not, ◌&&◌, ◌||◌, if◌then◌else◌, List, [], ◌∷◌, ◌++◌, length, take, drop, map, Option, Some, None, refl, sym, ap, subst, ◌∙◌, inl, inr, ◌⊎◌, arith, eqb-true, eq-eqb, codes, negsuc}
use Rattle.std.proofs.lemmas.List.{length-append}
use Rattle.std.proofs.lemmas.Bool.{ltb-true, leb-true, lt-ltb, le-leb, ne_eqb}
use Rattle.std.specs.List.{prefix_len, list_all, AllByRecursion}
use Rattle.std.specs.Char.{is_ascii_digit, is_ascii_hexdigit}
use Rattle.std.specs.Fmt.{decimal}
use Rattle.std.specs.Str.{bytes_eq, str_eq_ignore_ascii_case}
use Rattle.vl_token.specs.Tok.{Tok}
use Rattle.vl_token.specs.Tok.Tok.{Word, Quoted, Text, Hex, Number, Variable, Mark, Bad}
use Rattle.vl_token.specs.Lexical.{is_blank, is_start, is_part, is_mark, begins, number_in, unhexed, Lexeme, lexeme_at, closed_at, closing, quoted_at, hex_at, dash_at, slash_at, at_at, comment_at, cut_on, cut_within, cut, tokens_in}
use Rattle.vl_token.specs.Lexical.Lexeme.{Gap, Piece, Wrong}
use Rattle.vl_token.proofs.Lexing.{ahead, word_again}
use Rattle.vl_values.specs.declared.value.Value.{Value}
use Rattle.vl_values.specs.declared.value.Value.TheVariants.{Null, Int, Uint, Bytes}
use Rattle.vl_grammar.specs.Item.{Item, IsA, Spells}
use Rattle.vl_grammar.specs.Terminal as terminals
use Rattle.vl_grammar.specs.Terminal.{number_of, literal_of, name_of, count_of, charset_of}
use Rattle.vl_grammar.specs.Layout.{is_plain, written, opens, is_tight, space, laid}
use Rattle.vl_grammar.proofs.Written.{number_again, minus_again, decimal_is, quoted_again, variable_again, mark_again, text_again}

-- ---- what a name is made of

abbrev pub IsNameText : List ℕ → Type 0
IsNameText n = (is_plain n ≡ true) ⊎ (list_all (λ b. not (b == 96)) n ≡ true)

-- the words and names among the tokens of a text
abbrev pub IsFine : Tok → Type 0
IsFine (Word w) = is_plain w ≡ true
IsFine (Quoted w) = list_all (λ b. not (b == 96)) w ≡ true
IsFine _ = Unit {0}

abbrev FineLexeme : Lexeme → Type 0
FineLexeme (Gap rest) = Unit {0}
FineLexeme (Piece t rest) = IsFine t
FineLexeme Wrong = Unit {0}

fine_if : (b : Bool) (x y : Lexeme) → (b ≡ true → FineLexeme x) → FineLexeme y → FineLexeme (if b then x else y)
fine_if true x y p q = p refl
fine_if false x y p q = q

prefix_passes : (p : ℕ → Bool) (xs : List ℕ) → list_all p (take (prefix_len p xs) xs) ≡ true
prefix_passes p [] = refl
prefix_passes p (x ∷ xs) = by (p x) refl (prefix_passes p xs)
  where
    by : (b : Bool) → p x ≡ b → list_all p (take (prefix_len p xs) xs) ≡ true → list_all p (take (prefix_len p (x ∷ xs)) (x ∷ xs)) ≡ true
    by true e h = rw e (ap (λ (n : ℕ). list_all p (take n (x ∷ xs))) (let one : 1 + prefix_len p xs ≡ suc (prefix_len p xs) = omega arith in one) ∙ rw e h)
    by false e h = rw e refl

start_part : (a e d f : Bool) → (a || e) ≡ true → (a || d || e || f) ≡ true
start_part true e d f h = refl
start_part false true true f h = refl
start_part false true false f h = refl
start_part false false d f h = absurd cc

word_fine : (b : ℕ) (bs : List ℕ) → is_start b ≡ true → is_plain (take (prefix_len is_part (b ∷ bs)) (b ∷ bs)) ≡ true
word_fine b bs h =
    let part : is_part b ≡ true = start_part _ (b == 95) (is_ascii_digit b) (b == 36) h in
    let here : take (prefix_len is_part (b ∷ bs)) (b ∷ bs) ≡ b ∷ take (prefix_len is_part bs) bs =
    rw part (ap (λ (n : ℕ). take n (b ∷ bs)) (let one : 1 + prefix_len is_part bs ≡ suc (prefix_len is_part bs) = omega arith in one)) in
    ap is_plain here ∙ rw h (prefix_passes is_part bs)

fine_text : (q : ℕ) (bs : List ℕ) (o : Option ℕ) → FineLexeme (closed_at q bs o)
fine_text q bs None = tt
fine_text q bs (Some n) = tt

fine_comment : (bs : List ℕ) → FineLexeme (comment_at bs)
fine_comment [] = tt
fine_comment (b ∷ bs) = fine_if (b == 42 && begins 47 bs) (Gap (drop 1 bs)) (comment_at bs) (λ e. tt) (fine_comment bs)

fine_slash : (bs : List ℕ) → FineLexeme (slash_at bs)
fine_slash [] = tt
fine_slash (c ∷ bs) = fine_if (c == 42) (comment_at bs) Wrong (λ e. fine_comment bs) tt

fine_dash : (bs : List ℕ) → FineLexeme (dash_at bs)
fine_dash [] = tt
fine_dash (c ∷ bs) = fine_if (is_ascii_digit c) _ _ (λ e. tt) (fine_if (c == 45 && begins 32 bs) _ _ (λ e. tt) tt)

fine_at : (bs : List ℕ) → FineLexeme (at_at bs)
fine_at [] = tt
fine_at (c ∷ []) = tt
fine_at (c ∷ d ∷ bs) = fine_if (c == 64 && is_start d) _ Wrong (λ e. tt) tt

fine_hex : (bs : List ℕ) → FineLexeme (hex_at bs)
fine_hex bs = by (prefix_len is_ascii_hexdigit bs)
  where
    by : (n : ℕ) → FineLexeme (if n % 2 == 0 && begins 39 (drop n bs) then Piece (Hex (unhexed (take n bs))) (drop 1 (drop n bs)) else Wrong)
    by n = fine_if (n % 2 == 0 && begins 39 (drop n bs)) (Piece (Hex (unhexed (take n bs))) (drop 1 (drop n bs))) Wrong (λ h. tt) tt

fine_quoted : (bs : List ℕ) → FineLexeme (quoted_at bs)
fine_quoted bs = by (prefix_len (λ b. not (b == 96)) bs) (prefix_passes (λ b. not (b == 96)) bs)
  where
    by : (n : ℕ) → list_all (λ b. not (b == 96)) (take n bs) ≡ true → FineLexeme (if begins 96 (drop n bs) then Piece (Quoted (take n bs)) (drop 1 (drop n bs)) else Wrong)
    by n h = fine_if (begins 96 (drop n bs)) (Piece (Quoted (take n bs)) (drop 1 (drop n bs))) Wrong (λ e. h) tt

fine_lexeme : (bs : List ℕ) → FineLexeme (lexeme_at bs)
fine_lexeme [] = tt
fine_lexeme (b ∷ bs) =
    fine_if (is_blank b) _ _ (λ e. tt)
    (fine_if ((b == 120 || b == 88) && begins 39 bs) _ _ (λ e. fine_hex (drop 1 bs))
    (fine_if (is_start b) _ _ (λ e. word_fine b bs e)
    (fine_if (is_ascii_digit b) _ _ (λ e. tt)
    (fine_if (b == 39 || b == 34) _ _ (λ e. fine_text b bs (closing b bs))
    (fine_if (b == 96) _ _ (λ e. fine_quoted bs)
    (fine_if (b == 45) _ _ (λ e. fine_dash bs)
    (fine_if (b == 47) _ _ (λ e. fine_slash bs)
    (fine_if (b == 64) _ _ (λ e. fine_at bs) (fine_if (is_mark b) _ Wrong (λ e. tt) tt)))))))))

fine_cut : (n : ℕ) (bs : List ℕ) → AllByRecursion IsFine (map (λ p. p.0) (cut_within n bs))
fine_cut zero bs = tt
fine_cut (suc n) [] = tt
fine_cut (suc n) (b ∷ bs) = by (lexeme_at (b ∷ bs)) (fine_lexeme (b ∷ bs)) (λ rest. fine_cut n rest)
  where
    by : (l : Lexeme) → FineLexeme l → ((rest : List ℕ) → AllByRecursion IsFine (map (λ p. p.0) (cut_within n rest))) → AllByRecursion IsFine (map (λ p. p.0) (cut_on (length (b ∷ bs)) l (λ rest. cut_within n rest)))
    by (Gap rest) f rec = rec rest
    by (Piece t rest) f rec = (f, rec rest)
    by Wrong f rec = (tt, tt)

pub fine_tokens : (text : List ℕ) → AllByRecursion IsFine (tokens_in text)
unfolding cut
fine_tokens text = fine_cut (length text) text

-- ---- what an item has to be, to be written

-- keywords are plain words, marks are marks, digits and variables as the grammar has them
abbrev pub IsFixed : Item → Type 0
IsFixed (Item.Key k) = (is_plain k ≡ true) × (terminals.is_key k (Word k) ≡ true)
IsFixed (Item.Sign c) = is_mark c ≡ true
IsFixed (Item.Digits ds) = (list_all is_ascii_digit ds ≡ true) × (1 ≤ length ds) × (bytes_eq ds ds ≡ true)
IsFixed (Item.Variable w) = (is_plain w ≡ true) × (str_eq_ignore_ascii_case w w ≡ true)
IsFixed (Item.Which f) = ⊥
IsFixed _ = Unit {0}

-- numbers in range
abbrev pub IsInRange : Value → Type 0
IsInRange Null = Unit {0}
IsInRange (Int n) = (m : ℕ) × (n ≡ negsuc m) × (m < 2 ^ 63)
IsInRange (Uint n) = n < 2 ^ 64
IsInRange (Bytes s) = Unit {0}

-- names and numbers as a text can have them
abbrev pub IsFree : Item → Type 0
IsFree (Item.Name n) = IsNameText n
IsFree (Item.Literal v) = IsInRange v
IsFree (Item.Count n) = n < 2 ^ 64
IsFree _ = Unit {0}

some_is : (v w : Value) → (let o : Option Value = Some v in o) ≡ Some w → v ≡ w
some_is v w e = cc

number_range : (minus : Bool) (n : ℕ) (v : Value) → number_of minus n ≡ Some v → IsInRange v
number_range false n v h = by (nat_lt n (2 ^ 64)) refl
  where
    by : (b : Bool) → nat_lt n (2 ^ 64) ≡ b → IsInRange v
    by true e = subst IsInRange (some_is (Uint n) v (rw e at h)) (ltb-true n (2 ^ 64) e)
    by false e = absurd (let clash : None ≡ Some v = rw e at h in cc)
number_range true n v h = by (n == 0) (nat_le n (2 ^ 63)) refl refl
  where
    by : (a b : Bool) → (n == 0) ≡ a → nat_le n (2 ^ 63) ≡ b → IsInRange v
    by true b e f = let zero_fits : 0 < 2 ^ 64 = omega arith in subst IsInRange (some_is (Uint 0) v (rw e at h)) zero_fits
    by false true e f =
        let le : n ≤ 2 ^ 63 = leb-true n (2 ^ 63) f in
        let small : n - 1 < 2 ^ 63 = omega arith in
        subst IsInRange (some_is (Int (negsuc (n - 1))) v (rw (e, f) at h)) (n - 1, refl, small)
    by false false e f = absurd (let clash : None ≡ Some v = rw (e, f) at h in cc)

null_range : (w : List ℕ) (v : Value) → (if str_eq_ignore_ascii_case w (codes "NULL") then Some Null else None) ≡ Some v → IsInRange v
null_range w v h = by (str_eq_ignore_ascii_case w (codes "NULL")) refl
  where
    by : (b : Bool) → str_eq_ignore_ascii_case w (codes "NULL") ≡ b → IsInRange v
    by true e = subst IsInRange (some_is Null v (rw e at h)) tt
    by false e = absurd (let clash : None ≡ Some v = rw e at h in cc)

literal_range : (t : Tok) (v : Value) → literal_of t ≡ Some v → IsInRange v
literal_range (Word w) v h = null_range w v h
literal_range (Quoted w) v h = absurd cc
literal_range (Text w) v h = subst IsInRange (some_is (Bytes w) v h) tt
literal_range (Hex w) v h = subst IsInRange (some_is (Bytes w) v h) tt
literal_range (Number m ds) v h = number_range m (number_in ds) v h
literal_range (Variable w) v h = absurd cc
literal_range (Mark b) v h = absurd cc
literal_range Bad v h = absurd cc

count_range : (t : Tok) (n : ℕ) → count_of t ≡ Some n → n < 2 ^ 64
count_range (Number false ds) n h = by (nat_lt (number_in ds) (2 ^ 64)) refl
  where
    by : (b : Bool) → nat_lt (number_in ds) (2 ^ 64) ≡ b → n < 2 ^ 64
    by true e = let some : Some (number_in ds) ≡ Some n = rw e at h in let same : number_in ds ≡ n = cc in omega (arith, ltb-true (number_in ds) (2 ^ 64) e)
    by false e = absurd (let clash : None ≡ Some n = rw e at h in cc)
count_range (Number true ds) n h = absurd cc
count_range (Word w) n h = absurd cc
count_range (Quoted w) n h = absurd cc
count_range (Text w) n h = absurd cc
count_range (Hex w) n h = absurd cc
count_range (Variable w) n h = absurd cc
count_range (Mark b) n h = absurd cc
count_range Bad n h = absurd cc

name_text : (t : Tok) (n : List ℕ) → IsFine t → name_of t ≡ Some n → IsNameText n
name_text (Word w) n f h = let same : w ≡ n = cc in subst IsNameText same (inl f)
name_text (Quoted w) n f h = let same : w ≡ n = cc in subst IsNameText same (inr f)
name_text (Number m ds) n f h = absurd cc
name_text (Text w) n f h = absurd cc
name_text (Hex w) n f h = absurd cc
name_text (Variable w) n f h = absurd cc
name_text (Mark b) n f h = absurd cc
name_text Bad n f h = absurd cc

item_free : (i : Item) (t : Tok) → IsFine t → IsA i t → IsFree i
item_free (Item.Key k) t f h = tt
item_free (Item.Name n) t f h = name_text t n f h
item_free (Item.Literal v) t f h = literal_range t v h
item_free (Item.Sign c) t f h = tt
item_free (Item.Count n) t f h = count_range t n h
item_free (Item.Digits ds) t f h = tt
item_free (Item.Variable w) t f h = tt
item_free (Item.Charset w) t f h = tt
item_free (Item.Which p) t f h = tt

-- the items that a text spells
pub spelled_free : (is : List Item) (ts : List Tok) → AllByRecursion IsFine ts → Spells is ts → AllByRecursion IsFree is
spelled_free [] [] f s = tt
spelled_free [] (t ∷ ts) f s = absurd s
spelled_free (i ∷ is) [] f s = absurd s
spelled_free (i ∷ is) (t ∷ ts) f s = (item_free i t f.0 s.0, spelled_free is ts f.1 s.1)

-- ---- an item is written, and cut again

-- what may stand behind an item: nothing that goes on with it
abbrev pub IsCalm : List ℕ → Type 0
IsCalm rest = (ahead is_part rest ≡ false) × (ahead is_ascii_digit rest ≡ false) × (begins 39 rest ≡ false)

pub record IsAgain (i : Item) (rest : List ℕ) : Type 0 where
  pub token : Tok
  pub is : IsA i token
  pub cut_again : lexeme_at (written i ++ rest) ≡ Piece token rest
  pub some : 1 ≤ length (written i)

plain_word : (w rest : List ℕ) → is_plain w ≡ true → IsCalm rest → (lexeme_at (w ++ rest) ≡ Piece (Word w) rest) × (1 ≤ length w)
plain_word [] rest h calm = absurd (let clash : false ≡ true = h in cc)
plain_word (b ∷ bs) rest h calm = by (is_start b) refl h
  where
    by : (v : Bool) → is_start b ≡ v → is_plain (b ∷ bs) ≡ true → (lexeme_at ((b ∷ bs) ++ rest) ≡ Piece (Word (b ∷ bs)) rest) × (1 ≤ length (b ∷ bs))
    by true e h = (word_again b bs rest e (rw e at h) calm.0 calm.2, omega arith)
    by false e h = absurd (let clash : false ≡ true = rw e at h in cc)

plain_variable : (w rest : List ℕ) → is_plain w ≡ true → IsCalm rest → lexeme_at (64 ∷ 64 ∷ (w ++ rest)) ≡ Piece (Variable w) rest
plain_variable [] rest h calm = absurd (let clash : false ≡ true = h in cc)
plain_variable (b ∷ bs) rest h calm = by (is_start b) refl h
  where
    by : (v : Bool) → is_start b ≡ v → is_plain (b ∷ bs) ≡ true → lexeme_at (64 ∷ 64 ∷ ((b ∷ bs) ++ rest)) ≡ Piece (Variable (b ∷ bs)) rest
    by true e h = variable_again b bs rest e (rw e at h) calm.0
    by false e h = absurd (let clash : false ≡ true = rw e at h in cc)

digits_cut : (ds rest : List ℕ) → list_all is_ascii_digit ds ≡ true → 1 ≤ length ds → IsCalm rest → lexeme_at (ds ++ rest) ≡ Piece (Number false ds) rest
digits_cut [] rest h some calm = absurd (omega arith)
digits_cut (d ∷ ds) rest h some calm = number_again d ds rest h calm.1

minus_cut : (ds rest : List ℕ) → list_all is_ascii_digit ds ≡ true → 1 ≤ length ds → IsCalm rest → lexeme_at (45 ∷ (ds ++ rest)) ≡ Piece (Number true ds) rest
minus_cut [] rest h some calm = absurd (omega arith)
minus_cut (d ∷ ds) rest h some calm = minus_again d ds rest h calm.1

name_written : (n rest : List ℕ) (b : Bool) → is_plain n ≡ b → IsNameText n → IsCalm rest → IsAgain (Item.Name n) rest
name_written n rest true e h calm =
    let w = plain_word n rest e calm in
    record { token = Word n; is = refl; cut_again = rw e w.0; some = rw e w.1 }
name_written n rest false e (inl p) calm = absurd (let clash : false ≡ true = sym e ∙ p in cc)
name_written n rest false e (inr q) calm = record { token = Quoted n; is = refl; cut_again = rw e (quoted_again n rest q); some = rw e (omega arith) }

uint_written : (n : ℕ) (rest : List ℕ) → n < 2 ^ 64 → IsCalm rest → IsAgain (Item.Literal (Uint n)) rest
uint_written n rest lt calm =
    let d = decimal_is n lt in
    record {
      token = Number false (decimal n);
      is = ap (λ (m : ℕ). number_of false m) d.number ∙ rw (lt-ltb n (2 ^ 64) lt) refl;
      cut_again = digits_cut (decimal n) rest d.digits d.some calm;
      some = d.some;
    }

count_written : (n : ℕ) (rest : List ℕ) → n < 2 ^ 64 → IsCalm rest → IsAgain (Item.Count n) rest
count_written n rest lt calm =
    let d = decimal_is n lt in
    record {
      token = Number false (decimal n);
      is = ap (λ (m : ℕ). if nat_lt m (2 ^ 64) then Some m else None) d.number ∙ rw (lt-ltb n (2 ^ 64) lt) refl;
      cut_again = digits_cut (decimal n) rest d.digits d.some calm;
      some = d.some;
    }

int_written : (m : ℕ) (rest : List ℕ) → m < 2 ^ 63 → IsCalm rest → IsAgain (Item.Literal (Int (negsuc m))) rest
int_written m rest lt calm =
    let fits : suc m < 2 ^ 64 = omega arith in
    let d = decimal_is (suc m) fits in
    let le : suc m ≤ 2 ^ 63 = omega arith in
    let one : suc m - 1 ≡ m = omega arith in
    let some_one : (suc m == 0) ≡ false = ne_eqb (suc m) 0 (λ e. cc) in
    record {
      token = Number true (decimal (suc m));
      is = ap (λ (k : ℕ). number_of true k) d.number ∙ rw (some_one, le-leb (suc m) (2 ^ 63) le) (ap (λ (k : ℕ). Some (Int (negsuc k))) one);
      cut_again = minus_cut (decimal (suc m)) rest d.digits d.some calm;
      some = omega arith;
    }

literal_written : (v : Value) (rest : List ℕ) → IsInRange v → IsCalm rest → IsAgain (Item.Literal v) rest
literal_written Null rest h calm = let w = plain_word (codes "NULL") rest refl calm in record { token = Word (codes "NULL"); is = refl; cut_again = w.0; some = w.1 }
literal_written (Int n) rest h calm = subst (λ k. IsAgain (Item.Literal (Int k)) rest) (sym h.1) (int_written h.0 rest h.2 calm)
literal_written (Uint n) rest h calm = uint_written n rest h calm
literal_written (Bytes s) rest h calm = record { token = Text s; is = refl; cut_again = text_again s rest calm.2; some = omega arith }

mark_is : (c : ℕ) → terminals.is_mark c (Mark c) ≡ true
mark_is c = eq-eqb c c refl

item_again : (i : Item) (rest : List ℕ) → IsFixed i → IsFree i → (opens i ≡ true) ⊎ IsCalm rest → IsAgain i rest
item_again (Item.Key k) rest f g (inl o) = absurd (let clash : false ≡ true = o in cc)
item_again (Item.Key k) rest f g (inr calm) = let w = plain_word k rest f.0 calm in record { token = Word k; is = f.1; cut_again = w.0; some = w.1 }
item_again (Item.Name n) rest f g (inl o) = absurd (let clash : false ≡ true = o in cc)
item_again (Item.Name n) rest f g (inr calm) = name_written n rest (is_plain n) refl g calm
item_again (Item.Literal v) rest f g (inl o) = absurd (let clash : false ≡ true = o in cc)
item_again (Item.Literal v) rest f g (inr calm) = literal_written v rest g calm
item_again (Item.Sign c) rest f g o = record { token = Mark c; is = mark_is c; cut_again = mark_again c rest f; some = omega arith }
item_again (Item.Count n) rest f g (inl o) = absurd (let clash : false ≡ true = o in cc)
item_again (Item.Count n) rest f g (inr calm) = count_written n rest g calm
item_again (Item.Digits ds) rest f g (inl o) = absurd (let clash : false ≡ true = o in cc)
item_again (Item.Digits ds) rest f g (inr calm) = record { token = Number false ds; is = f.2; cut_again = digits_cut ds rest f.0 f.1 calm; some = f.1 }
item_again (Item.Variable w) rest f g (inl o) = absurd (let clash : false ≡ true = o in cc)
item_again (Item.Variable w) rest f g (inr calm) = record { token = Variable w; is = f.1; cut_again = plain_variable w rest f.0 calm; some = omega arith }
item_again (Item.Charset w) rest f g (inl o) = absurd (let clash : false ≡ true = o in cc)
item_again (Item.Which p) rest f g o = absurd f
item_again (Item.Charset w) rest f g (inr calm) = record { token = Text w; is = refl; cut_again = text_again w rest calm.2; some = omega arith }

-- ---- all items

abbrev tokens_within : ℕ → List ℕ → List Tok
tokens_within n bs = map (λ p. p.0) (cut_within n bs)

-- a text that isn't empty begins with its lexeme
piece_step : (n : ℕ) (x rest : List ℕ) (t : Tok) → lexeme_at x ≡ Piece t rest → length x ≤ n → length rest < length x → (m : ℕ) × (length rest ≤ m) × (tokens_within n x ≡ t ∷ tokens_within m rest)
piece_step n [] rest t h le lt = absurd (omega arith)
piece_step zero (b ∷ bs) rest t h le lt = absurd (omega arith)
piece_step (suc n) (b ∷ bs) rest t h le lt = (n, omega arith, ap (λ l. map (λ p. p.0) (cut_on (length (b ∷ bs)) l (λ r. cut_within n r))) h)

blank_step : (n : ℕ) (x : List ℕ) → length (32 ∷ x) ≤ n → (m : ℕ) × (length x ≤ m) × (tokens_within n (32 ∷ x) ≡ tokens_within m x)
blank_step zero x le = absurd (omega arith)
blank_step (suc n) x le = (n, omega arith, refl)

laid_calm : (is : List Item) → IsCalm (laid false is)
laid_calm [] = (refl, refl, refl)
laid_calm (i ∷ is) = by i (laid (opens i) is)
  where
    by : (i : Item) (rest : List ℕ) → IsCalm (space false i ++ (written i ++ rest))
    by (Item.Key k) rest = (refl, refl, refl)
    by (Item.Name n) rest = (refl, refl, refl)
    by (Item.Literal v) rest = (refl, refl, refl)
    by (Item.Count n) rest = (refl, refl, refl)
    by (Item.Digits ds) rest = (refl, refl, refl)
    by (Item.Variable w) rest = (refl, refl, refl)
    by (Item.Charset w) rest = (refl, refl, refl)
    by (Item.Which f) rest = (refl, refl, refl)
    by (Item.Sign c) rest = sign (c == 41) (c == 44) refl refl
      where
        sign : (a b : Bool) → (c == 41) ≡ a → (c == 44) ≡ b → IsCalm (space false (Item.Sign c) ++ (c ∷ rest))
        sign true b e f = subst (λ x. IsCalm (space false (Item.Sign x) ++ (x ∷ rest))) (sym (eqb-true c 41 e)) (refl, refl, refl)
        sign false true e f = subst (λ x. IsCalm (space false (Item.Sign x) ++ (x ∷ rest))) (sym (eqb-true c 44 f)) (refl, refl, refl)
        sign false false e f = rw (e, f) (refl, refl, refl)

calm_behind : (i : Item) (is : List Item) → (opens i ≡ true) ⊎ IsCalm (laid (opens i) is)
calm_behind i is = by (opens i) refl
  where
    by : (b : Bool) → opens i ≡ b → (opens i ≡ true) ⊎ IsCalm (laid (opens i) is)
    by true e = inl e
    by false e = inr (subst (λ o. IsCalm (laid o is)) (sym e) (laid_calm is))

written_cut : (n : ℕ) (i : Item) (is : List Item) → IsAgain i (laid (opens i) is) → length (written i ++ laid (opens i) is) ≤ n
    → ((m : ℕ) → length (laid (opens i) is) ≤ m → Spells is (tokens_within m (laid (opens i) is))) → Spells (i ∷ is) (tokens_within n (written i ++ laid (opens i) is))
written_cut n i is a le rec =
    let s = piece_step n (written i ++ laid (opens i) is) (laid (opens i) is) a.token a.cut_again le (omega (arith, a.some, length-append (written i) (laid (opens i) is))) in
    subst (Spells (i ∷ is)) (sym s.2) (a.is, rec s.0 s.1)

laid_cut : (is : List Item) (o : Bool) (n : ℕ) → AllByRecursion IsFixed is → AllByRecursion IsFree is → length (laid o is) ≤ n → Spells is (tokens_within n (laid o is))
laid_cut [] o zero f g le = tt
laid_cut [] o (suc n) f g le = tt
laid_cut (i ∷ is) o n f g le = by (space o i) refl (λ m h. laid_cut is (opens i) m f.1 g.1 h)
  where
    again : IsAgain i (laid (opens i) is)
    again = item_again i (laid (opens i) is) f.0 g.0 (calm_behind i is)

    spaced : (b : Bool) (c : Bool) → o ≡ b → is_tight i ≡ c → (space o i ≡ []) ⊎ (space o i ≡ 32 ∷ [])
    spaced true c e h = inl (rw e refl)
    spaced false true e h = inl (rw (e, h) refl)
    spaced false false e h = inr (rw (e, h) refl)

    by : (sp : List ℕ) → space o i ≡ sp → ((m : ℕ) → length (laid (opens i) is) ≤ m → Spells is (tokens_within m (laid (opens i) is))) → Spells (i ∷ is) (tokens_within n (space o i ++ (written i ++ laid (opens i) is)))
    by sp e rec = elim (spaced o (is_tight i) refl refl) [
      | inl none ↦ subst (λ s. Spells (i ∷ is) (tokens_within n (s ++ (written i ++ laid (opens i) is)))) (sym none)
          (written_cut n i is again (let h : length (written i ++ laid (opens i) is) ≤ n = subst (λ s. length (s ++ (written i ++ laid (opens i) is)) ≤ n) none le in h) rec)
      | inr one ↦ subst (λ s. Spells (i ∷ is) (tokens_within n (s ++ (written i ++ laid (opens i) is)))) (sym one)
          (blank (subst (λ s. length (s ++ (written i ++ laid (opens i) is)) ≤ n) one le) rec)
    ]
      where
        blank : length (32 ∷ (written i ++ laid (opens i) is)) ≤ n → ((m : ℕ) → length (laid (opens i) is) ≤ m → Spells is (tokens_within m (laid (opens i) is))) → Spells (i ∷ is) (tokens_within n (32 ∷ (written i ++ laid (opens i) is)))
        blank h rec =
            let s = blank_step n (written i ++ laid (opens i) is) h in
            subst (Spells (i ∷ is)) (sym s.2) (written_cut s.0 i is again s.1 rec)

pub laid_again : (is : List Item) → AllByRecursion IsFixed is → AllByRecursion IsFree is → Spells is (tokens_in (laid true is))
unfolding cut
laid_again is f g = laid_cut is true (length (laid true is)) f g (omega arith)
