-- The laws of the terminals.
use Rattle.std.proofs.Common.{◌≡◌, ℕ, zero, suc, ◌+◌, ◌<◌, Bool, true, false, if◌then◌else◌, List, [], ◌∷◌, length, Option, Some, None, refl, ap, subst, ◌∙◌, arith, codes}
use Rattle.std.specs.List.{list_all, list_any}
use Rattle.std.specs.Option.{option_and_then}
use Rattle.std.specs.Str.{bytes_eq, str_eq_ignore_ascii_case, str_to_ascii_lowercase}
use Rattle.std.proofs.lemmas.Slice.Eq.{bytes_eq-Decides}
use Rattle.vl_token.specs.Tok.{Tok}
use Rattle.vl_token.specs.Tok.Tok.{Word, Quoted, Text, Hex, Number, Variable, Mark, Bad}
use Rattle.vl_token.specs.Lexical.{is_start, is_part, cut}
use Rattle.vl_token.proofs.Lexing.{word_alone}
use Rattle.vl_values.specs.declared.value.Value.TheVariants.{Null}
use Rattle.vl_grammar.specs.Item.{Item}
use Rattle.vl_grammar.specs.Terminal.{when, is_key, is_mark, is_variable, is_digits, key, mark, variable, digits, name_of, new_name, literal_of, count_of, charset_of}
use Rattle.vl_grammar.specs.Layout.{is_plain}
use Rattle.vl_grammar.specs.Reading.{one}
use Rattle.vl_grammar.proofs.Rule.{IsReal, Rule, as_it_is, such, never, one_rule}

-- any value will do
abbrev pub anything : {A : Type 0} → A → Type 0
anything a = Unit {0}

when_true : (b : Bool) (u : Unit {0}) → when b ≡ Some u → b ≡ true
when_true true u h = refl
when_true false u h = absurd cc

true_when : (b : Bool) (u : Unit {0}) → b ≡ true → when b ≡ Some u
true_when b u h = rw h refl

pub word_real : (w : List ℕ) → is_plain w ≡ true → IsReal (Word w)
word_real [] h = absurd (let clash : false ≡ true = h in cc)
word_real (b ∷ bs) h = by (is_start b) refl h
  where
    by : (v : Bool) → is_start b ≡ v → is_plain (b ∷ bs) ≡ true → IsReal (Word (b ∷ bs))
    by true e h = (b ∷ bs, word_alone b bs e (rw e at h))
    by false e h = absurd (let clash : false ≡ true = rw e at h in cc)

pub key_rule : (k : List ℕ) → is_key k (Word k) ≡ true → is_plain k ≡ true → Rule (λ s ts. one (key k) ts) as_it_is (such anything) (λ u. Item.Key k ∷ []) never
key_rule k self plain = one_rule (key k) (λ u. Item.Key k) anything (λ u t h. (when_true (is_key k t) u h, tt)) (λ u t q h. true_when (is_key k t) u h) tt (Word k) self tt (word_real k plain)

pub mark_rule : (c : ℕ) → is_mark c (Mark c) ≡ true → IsReal (Mark c) → Rule (λ s ts. one (mark c) ts) as_it_is (such anything) (λ u. Item.Sign c ∷ []) never
mark_rule c self real = one_rule (mark c) (λ u. Item.Sign c) anything (λ u t h. (when_true (is_mark c t) u h, tt)) (λ u t q h. true_when (is_mark c t) u h) tt (Mark c) self tt real

pub variable_rule : (k : List ℕ) → is_variable k (Variable k) ≡ true → IsReal (Variable k) → Rule (λ s ts. one (variable k) ts) as_it_is (such anything) (λ u. Item.Variable k ∷ []) never
variable_rule k self real = one_rule (variable k) (λ u. Item.Variable k) anything (λ u t h. (when_true (is_variable k t) u h, tt)) (λ u t q h. true_when (is_variable k t) u h) tt (Variable k) self tt real

pub digits_rule : (k : List ℕ) → is_digits k (Number false k) ≡ true → IsReal (Number false k) → Rule (λ s ts. one (digits k) ts) as_it_is (such anything) (λ u. Item.Digits k ∷ []) never
digits_rule k self real = one_rule (digits k) (λ u. Item.Digits k) anything (λ u t h. (when_true (is_digits k t) u h, tt)) (λ u t q h. true_when (is_digits k t) u h) tt (Number false k) self tt real

pub name_rule : Rule (λ s ts. one name_of ts) as_it_is (such anything) (λ n. Item.Name n ∷ []) never
name_rule = one_rule name_of Item.Name anything (λ n t h. (h, tt)) (λ n t q h. h) (codes "a") (Word (codes "a")) refl tt (word_real (codes "a") refl)

pub literal_rule : Rule (λ s ts. one literal_of ts) as_it_is (such anything) (λ v. Item.Literal v ∷ []) never
literal_rule = one_rule literal_of Item.Literal anything (λ v t h. (h, tt)) (λ v t q h. h) Null (Word (codes "NULL")) refl tt (word_real (codes "NULL") refl)

zero_real : IsReal (Number false (codes "0"))
unfolding cut
zero_real = (codes "0", refl)

one_real : IsReal (Number false (codes "1"))
unfolding cut
one_real = (codes "1", refl)

pub count_rule : Rule (λ s ts. one count_of ts) as_it_is (such anything) (λ n. Item.Count n ∷ []) never
count_rule = one_rule count_of Item.Count anything (λ n t h. (h, tt)) (λ n t q h. h) 0 (Number false (codes "0")) refl tt zero_real

pub charset_rule : Rule (λ s ts. one charset_of ts) as_it_is (such anything) (λ w. Item.Charset w ∷ []) never
charset_rule = one_rule charset_of Item.Charset anything (λ w t h. (h, tt)) (λ w t q h. h) (codes "a") (Word (codes "a")) refl tt (word_real (codes "a") refl)

-- ---- keywords are apart

lower_same : (k w : List ℕ) → str_eq_ignore_ascii_case w k ≡ true → str_to_ascii_lowercase w ≡ str_to_ascii_lowercase k
lower_same k w h = (bytes_eq-Decides (str_to_ascii_lowercase w) (str_to_ascii_lowercase k)).0 h

pub key_other : (k l : List ℕ) (t : Tok) → bytes_eq (str_to_ascii_lowercase k) (str_to_ascii_lowercase l) ≡ false → is_key k t ≡ true → is_key l t ≡ false
key_other k l (Word w) apart h = ap (λ (x : List ℕ). bytes_eq x (str_to_ascii_lowercase l)) (lower_same k w h) ∙ apart
key_other k l (Quoted w) apart h = refl
key_other k l (Text w) apart h = refl
key_other k l (Hex w) apart h = refl
key_other k l (Number m w) apart h = refl
key_other k l (Variable w) apart h = refl
key_other k l (Mark b) apart h = refl
key_other k l Bad apart h = refl

pub key_no_mark : (k : List ℕ) (c : ℕ) (t : Tok) → is_key k t ≡ true → is_mark c t ≡ false
key_no_mark k c (Word w) h = refl
key_no_mark k c (Quoted w) h = refl
key_no_mark k c (Text w) h = refl
key_no_mark k c (Hex w) h = refl
key_no_mark k c (Number m w) h = refl
key_no_mark k c (Variable w) h = refl
key_no_mark k c (Mark b) h = absurd (let clash : false ≡ true = h in cc)
key_no_mark k c Bad h = refl

pub mark_no_key : (k : List ℕ) (c : ℕ) (t : Tok) → is_mark c t ≡ true → is_key k t ≡ false
mark_no_key k c (Word w) h = absurd (let clash : false ≡ true = h in cc)
mark_no_key k c (Quoted w) h = refl
mark_no_key k c (Text w) h = refl
mark_no_key k c (Hex w) h = refl
mark_no_key k c (Number m w) h = refl
mark_no_key k c (Variable w) h = refl
mark_no_key k c (Mark b) h = refl
mark_no_key k c Bad h = refl

-- ---- a name that is new

eq_long : (n m : List ℕ) → length m < length n → bytes_eq n m ≡ false
eq_long n m lt = by (bytes_eq n m) refl
  where
    by : (b : Bool) → bytes_eq n m ≡ b → bytes_eq n m ≡ false
    by false e = e
    by true e = absurd (let same : n ≡ m = (bytes_eq-Decides n m).0 e in omega (arith, ap length same))

most_length : List (List ℕ) → ℕ
most_length [] = 0
most_length (n ∷ ns) = length n + most_length ns

long_new : (n : List ℕ) (ns : List (List ℕ)) → most_length ns < length n → list_any (bytes_eq n) ns ≡ false
unfolding most_length
long_new n [] lt = refl
long_new n (m ∷ ns) lt = rw (eq_long n m (omega arith), long_new n ns (omega arith)) refl

row_of : ℕ → List ℕ
row_of zero = []
row_of (suc n) = 97 ∷ row_of n

row_length : (n : ℕ) → length (row_of n) ≡ n
unfolding row_of
row_length zero = refl
row_length (suc n) = omega (arith, row_length n)

row_parts : (n : ℕ) → list_all is_part (row_of n) ≡ true
unfolding row_of
row_parts zero = refl
row_parts (suc n) = row_parts n

fresh : List (List ℕ) → List ℕ
fresh ns = 97 ∷ row_of (most_length ns)

fresh_new : (ns : List (List ℕ)) → list_any (bytes_eq (fresh ns)) ns ≡ false
unfolding fresh
fresh_new ns = long_new (97 ∷ row_of (most_length ns)) ns (omega (arith, row_length (most_length ns)))

fresh_real : (ns : List (List ℕ)) → IsReal (Word (fresh ns))
unfolding fresh
fresh_real ns = (97 ∷ row_of (most_length ns), word_alone 97 (row_of (most_length ns)) refl (row_parts (most_length ns)))

new_of : List (List ℕ) → List ℕ → Option (List ℕ)
new_of before n = if list_any (bytes_eq n) before then None else Some n

some_new : (before : List (List ℕ)) (o : Option (List ℕ)) (n : List ℕ) → option_and_then (λ n. if list_any (bytes_eq n) before then None else Some n) o ≡ Some n → (o ≡ Some n) × (list_any (bytes_eq n) before ≡ false)
some_new before None n h = absurd cc
some_new before (Some m) n h = by (list_any (bytes_eq m) before) refl h
  where
    by : (b : Bool) → list_any (bytes_eq m) before ≡ b → (if list_any (bytes_eq m) before then None else Some m) ≡ Some n → (let o : Option (List ℕ) = Some m in o ≡ Some n) × (list_any (bytes_eq n) before ≡ false)
    by true e h = absurd (let clash : None ≡ Some n = rw e at h in cc)
    by false e h = let same : Some m ≡ Some n = rw e at h in let at : m ≡ n = cc in (same, subst (λ (x : List ℕ). list_any (bytes_eq x) before ≡ false) at e)

abbrev pub is_new : List (List ℕ) → List ℕ → Type 0
is_new before n = list_any (bytes_eq n) before ≡ false

pub new_name_rule : (before : List (List ℕ)) → Rule (λ s ts. one (new_name before) ts) as_it_is (such (is_new before)) (λ n. Item.Name n ∷ []) never
new_name_rule before =
    one_rule (new_name before) Item.Name (is_new before) (λ n t h. some_new before (name_of t) n h)
    (λ n t q h. ap (λ o. option_and_then (λ n. if list_any (bytes_eq n) before then None else Some n) o) h ∙ rw q refl)
    (fresh before) (Word (fresh before)) refl (fresh_new before) (fresh_real before)
