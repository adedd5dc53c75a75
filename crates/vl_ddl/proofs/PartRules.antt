-- The laws of types, of a column's options and of the parts of a table.
use Rattle.std.proofs.Common.{◌≡◌, ℕ, ◌==◌, eqb-true, eq-eqb, Bool, true, false, not, ◌&&◌, ◌||◌, List, [], ◌∷◌, ◌++◌, Option, Some, None, refl, ap, ◌∙◌, ◌⊎◌, inl, inr, codes}
use Rattle.std.specs.Str.{bytes_eq, str_to_ascii_lowercase}
use Rattle.vl_token.specs.Tok.{Tok}
use Rattle.vl_token.specs.Tok.Tok.{Word, Quoted, Text, Hex, Number, Variable, Mark, Bad}
use Rattle.vl_token.specs.Lexical.{cut}
use Rattle.vl_grammar.specs.Item.{Item, IsA, joined}
use Rattle.vl_grammar.specs.Lists.{HasSome, AllInTurn}
use Rattle.vl_grammar.specs.Reading.{Read, one}
use Rattle.vl_grammar.specs.Terminal.{is_key, is_mark, key, mark, name_of, new_name, when}
use Rattle.vl_grammar.proofs.Spelling.{Leads, Heads, leads_both, or_false}
use Rattle.vl_grammar.proofs.Rule.{IsReal, Rule, as_it_is, such, never, one_rule, here_rule, branch_at, here_at, either, either_fits}
use Rattle.vl_grammar.proofs.ListRule.{any_rule}
use Rattle.vl_grammar.proofs.TerminalRules.{anything, key_rule, mark_rule, name_rule, new_name_rule, is_new, word_real, key_other, key_no_mark}
use Rattle.vl_grammar.proofs.Laws.{then_law, full_law, seq_law, made_law, said_law, option_law, choice_law, stops_law}
use Rattle.vl_ddl.specs.Words.{is_comma, is_word, is_number_type, is_text_type, is_other_type, is_number, is_equal, length_of, is_length, is_other_default, is_some_token}
use Rattle.vl_ddl.specs.declared.number_type.NumberType.{NumberType}
use Rattle.vl_ddl.specs.declared.number_type.NumberType.TheVariants as numbers
use Rattle.vl_ddl.specs.declared.text_type.TextType.{TextType}
use Rattle.vl_ddl.specs.declared.text_type.TextType.TheVariants as texts
use Rattle.vl_ddl.specs.declared.declared_type.DeclaredType.{DeclaredType}
use Rattle.vl_ddl.specs.declared.declared_type.DeclaredType.TheVariants as types
use Rattle.vl_ddl.specs.declared.default_value.DefaultValue.{DefaultValue}
use Rattle.vl_ddl.specs.declared.default_value.DefaultValue.TheVariants as defaults
use Rattle.vl_ddl.specs.declared.column_options.ColumnOptions.{ColumnOptions}
use Rattle.vl_ddl.specs.Grammar as grammar
use Rattle.vl_ddl.specs.Grammar.{given, AreDistinct, FitsType, FitsDefault, FitsUnique}
use Rattle.vl_ddl.specs.Reading.{names_at, new_names_at, columns_at, key_columns_at, number_type_of, text_type_of, number, word, width_at, unsigned_at, number_type_at, text_type_at, type_at, nullable_at, default_of, default_at, auto_increment_at, primary_at, charset_at, collation_at, unique_at, options_at}

-- any value will do
abbrev pub free : {A : Type 0} → ℕ → A → Type 0
free k a = Unit {0}

-- ---- marks

pub mark_other : (c d : ℕ) (t : Tok) → (c == d) ≡ false → is_mark c t ≡ true → is_mark d t ≡ false
mark_other c d (Word w) apart h = refl
mark_other c d (Quoted w) apart h = refl
mark_other c d (Text w) apart h = refl
mark_other c d (Hex w) apart h = refl
mark_other c d (Number m w) apart h = refl
mark_other c d (Variable w) apart h = refl
mark_other c d (Mark b) apart h = let same : b ≡ c = eqb-true b c h in ap (λ (x : ℕ). x == d) same ∙ apart
mark_other c d Bad apart h = refl

open_real : IsReal (Mark 40)
unfolding cut
open_real = (40 ∷ [], refl)

pub shut_real : IsReal (Mark 41)
unfolding cut
shut_real = (41 ∷ [], refl)

pub comma_real : IsReal (Mark 44)
unfolding cut
comma_real = (44 ∷ [], refl)

pub end_real : IsReal (Mark 59)
unfolding cut
end_real = (59 ∷ [], refl)

zero_real : IsReal (Number false (codes "0"))
unfolding cut
zero_real = (codes "0", refl)

pub open_rule : Rule (λ s ts. one (mark 40) ts) as_it_is (such anything) (λ u. Item.Sign 40 ∷ []) never
open_rule = mark_rule 40 refl open_real

pub shut_rule : Rule (λ s ts. one (mark 41) ts) as_it_is (such anything) (λ u. Item.Sign 41 ∷ []) never
shut_rule = mark_rule 41 refl shut_real

-- ---- lists of names

abbrev pub comma_or_more : Tok → Bool
comma_or_more t = is_comma t || false

comma_free : (t : Tok) → is_comma t ≡ true → never t ≡ false
comma_free t h = refl

shut_stops : (t : Tok) → is_mark 41 t ≡ true → comma_or_more t ≡ false
shut_stops t h = or_false (is_comma t) false (mark_other 41 44 t refl h) refl

each_turn : {A : Type 0} (before xs : List A) → AllInTurn (λ b a. Unit {0}) before xs
each_turn before [] = tt
each_turn before (a ∷ xs) = (tt, each_turn (before ++ a ∷ []) xs)

names_rule : Rule (λ k ts. names_at ts) as_it_is (λ k ns. HasSome ns × AllInTurn (λ b n. Unit {0}) [] ns) (joined grammar.comma grammar.name) comma_or_more
unfolding names_at
names_rule = any_rule (λ b k rest. one name_of rest) (λ k b n. Unit {0}) grammar.name never is_comma grammar.comma (λ b. name_rule) (λ t h. h) (λ t h. h) comma_free (λ n. tt) (Mark 44) refl comma_real

pub columns_rule : Rule (λ k ts. columns_at ts) as_it_is (λ k ns. HasSome ns) grammar.columns never
unfolding columns_at
columns_rule =
    said_law
    (seq_law open_rule (λ o. full_law names_rule (λ ns. made_law (λ u. ns) shut_rule) (λ y t h. shut_stops t h) (λ y. tt)))
    as_it_is (λ k ns. HasSome ns) grammar.columns (λ x. x.1.0) (λ x. refl) (λ k x h. h.1.0.0) (λ k x h. refl)
    (λ k ns h. ((tt, (ns, tt)), refl, (tt, ((h, each_turn [] ns), tt))))

new_names_rule : Rule (λ k ts. new_names_at ts) as_it_is (λ k ns. HasSome ns × AllInTurn (λ b n. is_new b n) [] ns) (joined grammar.comma grammar.name) comma_or_more
unfolding new_names_at
new_names_rule = any_rule (λ b k rest. one (new_name b) rest) (λ k b n. is_new b n) grammar.name never is_comma grammar.comma (λ b. new_name_rule b) (λ t h. h) (λ t h. h) comma_free (λ n. tt) (Mark 44) refl comma_real

pub key_columns_rule : Rule (λ k ts. key_columns_at ts) as_it_is (λ k ns. HasSome ns × AreDistinct ns) grammar.columns never
unfolding key_columns_at
key_columns_rule =
    said_law
    (seq_law open_rule (λ o. full_law new_names_rule (λ ns. made_law (λ u. ns) shut_rule) (λ y t h. shut_stops t h) (λ y. tt)))
    as_it_is (λ k ns. HasSome ns × AreDistinct ns) grammar.columns (λ x. x.1.0) (λ x. refl) (λ k x h. h.1.0) (λ k x h. refl)
    (λ k ns h. ((tt, (ns, tt)), refl, (tt, (h, tt))))

-- ---- a token that passes a test

when_true : (b : Bool) (u : Unit {0}) → when b ≡ Some u → b ≡ true
when_true true u h = refl
when_true false u h = absurd cc

true_when : (b : Bool) (u : Unit {0}) → b ≡ true → when b ≡ Some u
true_when b u h = rw h refl

which_rule : (f : Tok → Bool) (t : Tok) → f t ≡ true → IsReal t → Rule (λ s ts. one (λ u. when (f u)) ts) as_it_is (such anything) (λ u. Item.Which f ∷ []) never
which_rule f t is real = one_rule (λ u. when (f u)) (λ u. Item.Which f) anything (λ u t h. (when_true (f t) u h, tt)) (λ u t q h. true_when (f t) u h) tt t is tt real

word_rule : Rule (λ s ts. one word ts) as_it_is (such anything) (λ u. Item.Which is_word ∷ []) never
word_rule = which_rule is_word (Word (codes "a")) refl (word_real (codes "a") refl)

number_rule : Rule (λ s ts. one number ts) as_it_is (such anything) (λ u. Item.Which is_number ∷ []) never
number_rule = which_rule is_number (Number false (codes "0")) refl zero_real

-- ---- types

and_true : (a b : Bool) → (a && b) ≡ true → (a ≡ true) × (b ≡ true)
and_true true b h = (refl, h)
and_true false b h = absurd cc

other_not : (t : Tok) → is_other_type t ≡ true → (is_number_type t || is_text_type t) ≡ false
other_not t h = by (is_number_type t || is_text_type t) (and_true (is_word t) (not (is_number_type t || is_text_type t)) h).1
  where
    by : (b : Bool) → not b ≡ true → b ≡ false
    by true e = absurd cc
    by false e = refl

or_first : (a b : Bool) → (a || b) ≡ false → a ≡ false
or_first true b h = absurd cc
or_first false b h = refl

or_second : (a b : Bool) → (a || b) ≡ false → b ≡ false
or_second true b h = absurd cc
or_second false b h = h

abbrev FitsNumber : Bool → NumberType → Type 0
FitsNumber wide numbers.Other = wide ≡ true
FitsNumber wide _ = Unit {0}

number_is : (wide : Bool) (k : NumberType) (t : Tok) → number_type_of wide t ≡ Some k → IsA (grammar.number_word k) t × FitsNumber wide k
number_is wide k t h = by (is_key (codes "BIGINT") t) (is_key (codes "INT") t) wide (is_other_type t) refl refl refl refl k h
  where
    by : (a b w o : Bool) → is_key (codes "BIGINT") t ≡ a → is_key (codes "INT") t ≡ b → wide ≡ w → is_other_type t ≡ o → (k : NumberType) → number_type_of wide t ≡ Some k → IsA (grammar.number_word k) t × FitsNumber wide k
    by true b w o e f v u numbers.BigInt h = (e, tt)
    by true b w o e f v u numbers.Int h = absurd (let clash : Some numbers.BigInt ≡ Some numbers.Int = rw e at h in cc)
    by true b w o e f v u numbers.Other h = absurd (let clash : Some numbers.BigInt ≡ Some numbers.Other = rw e at h in cc)
    by false true w o e f v u numbers.BigInt h = absurd (let clash : Some numbers.Int ≡ Some numbers.BigInt = rw (e, f) at h in cc)
    by false true w o e f v u numbers.Int h = (f, tt)
    by false true w o e f v u numbers.Other h = absurd (let clash : Some numbers.Int ≡ Some numbers.Other = rw (e, f) at h in cc)
    by false false true true e f v u numbers.BigInt h = absurd (let clash : Some numbers.Other ≡ Some numbers.BigInt = rw (u, e, f, v) at h in cc)
    by false false true true e f v u numbers.Int h = absurd (let clash : Some numbers.Other ≡ Some numbers.Int = rw (u, e, f, v) at h in cc)
    by false false true true e f v u numbers.Other h = (u, v)
    by false false true false e f v u k h = absurd (let clash : None ≡ Some k = rw (u, e, f, v) at h in cc)
    by false false false o e f v u k h = absurd (let clash : None ≡ Some k = rw (e, f, v) at h in cc)

number_back : (wide : Bool) (k : NumberType) (t : Tok) → FitsNumber wide k → IsA (grammar.number_word k) t → number_type_of wide t ≡ Some k
number_back wide numbers.BigInt t q h = rw h refl
number_back wide numbers.Int t q h = rw (key_other (codes "INT") (codes "BIGINT") t refl h, h) refl
number_back wide numbers.Other t q h =
    let none : (is_number_type t || is_text_type t) ≡ false = other_not t h in
    let both : is_number_type t ≡ false = or_first (is_number_type t) (is_text_type t) none in
    rw (h, or_first (is_key (codes "BIGINT") t) (is_key (codes "INT") t) both, or_second (is_key (codes "BIGINT") t) (is_key (codes "INT") t) both, q) refl

number_word_rule : (wide : Bool) → Rule (λ s ts. one (number_type_of wide) ts) as_it_is (such (FitsNumber wide)) (λ k. grammar.number_word k ∷ []) never
number_word_rule wide = one_rule (number_type_of wide) grammar.number_word (FitsNumber wide) (number_is wide) (number_back wide) numbers.BigInt (Word (codes "BIGINT")) refl tt (word_real (codes "BIGINT") refl)

-- what may be missing, with no value
given_of : {X : Type 0} → (X ⊎ Unit {0}) → Bool
given_of (inl x) = true
given_of (inr u) = false

given_back : {X : Type 0} (ok : ℕ → X → Type 0) (x₀ : X) → ((k : ℕ) → ok k x₀) → (k : ℕ) (b : Bool) → (x : X ⊎ Unit {0}) × (given_of x ≡ b) × either_fits ok (λ k (u : Unit {0}). Unit {0}) k x
unfolding given_of
given_back ok x₀ fits k true = (inl x₀, refl, fits k)
given_back ok x₀ fits k false = (inr tt, refl, tt)

given_value : {X : Type 0} (x : X ⊎ Unit {0}) → given_of x ≡ either (λ (x : X). true) (λ (u : Unit {0}). false) x
unfolding given_of
given_value (inl x) = refl
given_value (inr u) = refl

given_items : {X : Type 0} (is : List Item) (x : X ⊎ Unit {0}) → given (given_of x) is ≡ either (λ (x : X). is) (λ (u : Unit {0}). []) x
unfolding given_of
given_items is (inl x) = refl
given_items is (inr u) = refl

given_law : (f : Tok → Bool) (is : List Item) {p : ℕ → List Tok → Read Bool} {X : Type 0} {ok : ℕ → X → Type 0} (x₀ : X) → ((k : ℕ) → ok k x₀) → Rule p (λ (x : X). true) ok (λ x. is) never → Heads f is
    → Rule (branch_at f p (here_at false)) as_it_is free (λ b. given b is) f
given_law f is {ok = ok} x₀ fits R heads =
    stops_law
    (said_law (option_law f R (here_rule false) (λ x. heads) (λ y. tt)) as_it_is free (λ b. given b is) given_of given_value (λ k x h. tt) (λ k x h. given_items is x) (λ k b h. given_back ok x₀ fits k b))
    f (λ t h. rw h refl)

given_leads : (g : Tok → Bool) (i : Item) (is : List Item) (b : Bool) → ((t : Tok) → IsA i t → g t ≡ false) → Leads g (given b (i ∷ is))
given_leads g i is true h = h
given_leads g i is false h = tt

width_rule : Rule (λ k ts. width_at ts) as_it_is free (λ b. given b (Item.Sign 40 ∷ Item.Which is_number ∷ Item.Sign 41 ∷ [])) (is_mark 40)
unfolding width_at
width_rule = given_law (is_mark 40) (Item.Sign 40 ∷ Item.Which is_number ∷ Item.Sign 41 ∷ []) (tt, (tt, tt)) (λ k. (tt, (tt, tt)))
    (seq_law open_rule (λ o. seq_law number_rule (λ n. made_law (λ u. true) shut_rule))) (λ t h. h)

unsigned_rule : Rule (λ k ts. unsigned_at ts) as_it_is free (λ b. given b (Item.Key (codes "UNSIGNED") ∷ [])) (is_key (codes "UNSIGNED"))
unfolding unsigned_at
unsigned_rule = given_law (is_key (codes "UNSIGNED")) (Item.Key (codes "UNSIGNED") ∷ []) tt (λ k. tt) (made_law (λ u. true) (key_rule (codes "UNSIGNED") refl refl)) (λ t h. h)

abbrev pub type_more : Tok → Bool
type_more t = is_mark 40 t || is_key (codes "UNSIGNED") t

abbrev NumberParts : Type 0
NumberParts = NumberType × (Bool × Bool)

number_type_rule : (wide : Bool) → Rule (λ k ts. number_type_at wide ts) (λ (x : NumberParts). types.Number x.0 x.1.0 x.1.1) (λ k x. FitsNumber wide x.0 × (Unit {0} × Unit {0}))
    (λ x. grammar.type (types.Number x.0 x.1.0 x.1.1)) type_more
unfolding number_type_at
number_type_rule wide =
    seq_law (number_word_rule wide) (λ k. then_law width_rule (λ w. made_law (λ u. types.Number k w u) unsigned_rule)
    (λ y. given_leads (is_mark 40) (Item.Key (codes "UNSIGNED")) [] y (λ t h. key_no_mark (codes "UNSIGNED") 40 t h)))

-- ---- texts

text_is : (k : TextType) (t : Tok) → text_type_of t ≡ Some k → IsA (grammar.text_word k) t × Unit {0}
text_is k t h = by (is_key (codes "VARCHAR") t) (is_key (codes "VARBINARY") t) refl refl k h
  where
    by : (a b : Bool) → is_key (codes "VARCHAR") t ≡ a → is_key (codes "VARBINARY") t ≡ b → (k : TextType) → text_type_of t ≡ Some k → IsA (grammar.text_word k) t × Unit {0}
    by true b e f texts.VarChar h = (e, tt)
    by true b e f texts.VarBinary h = absurd (let clash : Some texts.VarChar ≡ Some texts.VarBinary = rw e at h in cc)
    by false true e f texts.VarChar h = absurd (let clash : Some texts.VarBinary ≡ Some texts.VarChar = rw (e, f) at h in cc)
    by false true e f texts.VarBinary h = (f, tt)
    by false false e f k h = absurd (let clash : None ≡ Some k = rw (e, f) at h in cc)

text_back : (k : TextType) (t : Tok) → Unit {0} → IsA (grammar.text_word k) t → text_type_of t ≡ Some k
text_back texts.VarChar t q h = rw h refl
text_back texts.VarBinary t q h = rw (key_other (codes "VARBINARY") (codes "VARCHAR") t refl h, h) refl

text_word_rule : Rule (λ s ts. one text_type_of ts) as_it_is (such anything) (λ k. grammar.text_word k ∷ []) never
text_word_rule = one_rule text_type_of grammar.text_word anything text_is text_back texts.VarChar (Word (codes "VARCHAR")) refl tt (word_real (codes "VARCHAR") refl)

length_is : (n : ℕ) (t : Tok) → length_of t ≡ Some n → (is_length n t ≡ true) × Unit {0}
length_is n t h = (ap (is_equal n) h ∙ eq-eqb n n refl, tt)

length_back : (n : ℕ) (t : Tok) → Unit {0} → is_length n t ≡ true → length_of t ≡ Some n
length_back n t q h = by (length_of t) refl h
  where
    by : (o : Option ℕ) → length_of t ≡ o → is_equal n o ≡ true → length_of t ≡ Some n
    by None e h = absurd cc
    by (Some m) e h = e ∙ ap (λ (x : ℕ). Some x) (eqb-true m n h)

length_rule : Rule (λ s ts. one length_of ts) as_it_is (such anything) (λ n. Item.Which (is_length n) ∷ []) never
length_rule = one_rule length_of (λ n. Item.Which (is_length n)) anything length_is length_back 0 (Number false (codes "0")) refl tt zero_real

abbrev TextParts : Type 0
TextParts = TextType × (Unit {0} × (ℕ × Unit {0}))

text_type_rule : Rule (λ k ts. text_type_at ts) (λ (x : TextParts). types.Text x.0 x.1.1.0) (λ k x. Unit {0} × (Unit {0} × (Unit {0} × Unit {0}))) (λ x. grammar.type (types.Text x.0 x.1.1.0)) never
unfolding text_type_at
text_type_rule = seq_law text_word_rule (λ k. seq_law open_rule (λ o. seq_law length_rule (λ n. made_law (λ u. types.Text k n) shut_rule)))

-- ---- any type

abbrev TypeParts : Type 0
TypeParts = TextParts ⊎ NumberParts

type_in : TypeParts → DeclaredType
type_in (inl x) = types.Text x.0 x.1.1.0
type_in (inr x) = types.Number x.0 x.1.0 x.1.1

type_value : (x : TypeParts) → type_in x ≡ either (λ (x : TextParts). types.Text x.0 x.1.1.0) (λ (x : NumberParts). types.Number x.0 x.1.0 x.1.1) x
unfolding type_in
type_value (inl x) = refl
type_value (inr x) = refl

type_items : (x : TypeParts) → grammar.type (type_in x) ≡ either (λ (x : TextParts). grammar.type (types.Text x.0 x.1.1.0)) (λ (x : NumberParts). grammar.type (types.Number x.0 x.1.0 x.1.1)) x
unfolding type_in
type_items (inl x) = refl
type_items (inr x) = refl

abbrev TypeFits : Bool → ℕ → TypeParts → Type 0
TypeFits wide k x = either_fits (λ k (x : TextParts). Unit {0} × (Unit {0} × (Unit {0} × Unit {0}))) (λ k (x : NumberParts). FitsNumber wide x.0 × (Unit {0} × Unit {0})) k x

type_fits : (wide : Bool) (k : ℕ) (x : TypeParts) → TypeFits wide k x → FitsType wide (type_in x)
unfolding type_in
type_fits wide k (inl x) h = tt
type_fits wide k (inr (numbers.BigInt, y)) h = tt
type_fits wide k (inr (numbers.Int, y)) h = tt
type_fits wide k (inr (numbers.Other, y)) h = h.0

type_back : (wide : Bool) (k : ℕ) (ty : DeclaredType) → FitsType wide ty → (x : TypeParts) × (type_in x ≡ ty) × TypeFits wide k x
unfolding type_in
type_back wide k (types.Text t n) h = (inl (t, (tt, (n, tt))), refl, (tt, (tt, (tt, tt))))
type_back wide k (types.Number numbers.BigInt w u) h = (inr (numbers.BigInt, (w, u)), refl, (tt, (tt, tt)))
type_back wide k (types.Number numbers.Int w u) h = (inr (numbers.Int, (w, u)), refl, (tt, (tt, tt)))
type_back wide k (types.Number numbers.Other w u) h = (inr (numbers.Other, (w, u)), refl, (h, (tt, tt)))

text_heads : (k : TextType) (t : Tok) → IsA (grammar.text_word k) t → is_text_type t ≡ true
text_heads texts.VarChar t h = rw h refl
text_heads texts.VarBinary t h = rw (key_other (codes "VARBINARY") (codes "VARCHAR") t refl h, h) refl

number_tails : (k : NumberType) (t : Tok) → IsA (grammar.number_word k) t → is_text_type t ≡ false
number_tails numbers.BigInt t h = or_false (is_key (codes "VARCHAR") t) (is_key (codes "VARBINARY") t) (key_other (codes "BIGINT") (codes "VARCHAR") t refl h) (key_other (codes "BIGINT") (codes "VARBINARY") t refl h)
number_tails numbers.Int t h = or_false (is_key (codes "VARCHAR") t) (is_key (codes "VARBINARY") t) (key_other (codes "INT") (codes "VARCHAR") t refl h) (key_other (codes "INT") (codes "VARBINARY") t refl h)
number_tails numbers.Other t h = or_second (is_number_type t) (is_text_type t) (other_not t h)

pub type_rule : (wide : Bool) → Rule (λ k ts. type_at wide ts) as_it_is (λ k ty. FitsType wide ty) grammar.type type_more
unfolding type_at
type_rule wide =
    said_law
    (stops_law
    (choice_law is_text_type text_type_rule (number_type_rule wide) (λ x t h. text_heads x.0 t h) (λ y t h. number_tails y.0 t h) (λ y. tt))
    type_more (λ t h. h))
    as_it_is (λ k ty. FitsType wide ty) grammar.type type_in type_value (type_fits wide) (λ k x h. type_items x) (λ k ty h. type_back wide k ty h)

-- ---- options of a column

abbrev pub null_more : Tok → Bool
null_more t = is_key (codes "NULL") t || is_key (codes "NOT") t

null_key_rule : Rule (λ s ts. one (key (codes "NULL")) ts) as_it_is (such anything) (λ u. Item.Key (codes "NULL") ∷ []) never
null_key_rule = key_rule (codes "NULL") refl refl

abbrev NullParts : Type 0
NullParts = Unit {0} ⊎ ((Unit {0} × Unit {0}) ⊎ Unit {0})

null_in : NullParts → Option Bool
null_in (inl u) = Some true
null_in (inr (inl z)) = Some false
null_in (inr (inr u)) = None

null_value : (x : NullParts) → null_in x ≡ either (λ (u : Unit {0}). Some true) (either (λ (z : Unit {0} × Unit {0}). Some false) (λ (u : Unit {0}). None)) x
unfolding null_in
null_value (inl u) = refl
null_value (inr (inl z)) = refl
null_value (inr (inr u)) = refl

null_items : (x : NullParts) → grammar.nullable (null_in x) ≡ either (λ (u : Unit {0}). Item.Key (codes "NULL") ∷ []) (either (λ (z : Unit {0} × Unit {0}). (Item.Key (codes "NOT") ∷ []) ++ (Item.Key (codes "NULL") ∷ [])) (λ (u : Unit {0}). [])) x
unfolding null_in
null_items (inl u) = refl
null_items (inr (inl z)) = refl
null_items (inr (inr u)) = refl

abbrev NullFits : ℕ → NullParts → Type 0
NullFits k x = either_fits (λ k (u : Unit {0}). Unit {0}) (either_fits (λ k (z : Unit {0} × Unit {0}). Unit {0} × Unit {0}) (λ k (u : Unit {0}). Unit {0})) k x

null_back : (k : ℕ) (o : Option Bool) → (x : NullParts) × (null_in x ≡ o) × NullFits k x
unfolding null_in
null_back k None = (inr (inr tt), refl, tt)
null_back k (Some true) = (inl tt, refl, tt)
null_back k (Some false) = (inr (inl (tt, tt)), refl, (tt, tt))

null_tails : (y : (Unit {0} × Unit {0}) ⊎ Unit {0}) → Leads (is_key (codes "NULL")) (either (λ (z : Unit {0} × Unit {0}). (Item.Key (codes "NOT") ∷ []) ++ (Item.Key (codes "NULL") ∷ [])) (λ (u : Unit {0}). []) y)
null_tails (inl z) = λ t h. key_other (codes "NOT") (codes "NULL") t refl h
null_tails (inr u) = tt

null_stops : (t : Tok) → null_more t ≡ false → (is_key (codes "NULL") t || (false || (is_key (codes "NOT") t || (false || false)))) ≡ false
null_stops t h = rw (or_first (is_key (codes "NULL") t) (is_key (codes "NOT") t) h, or_second (is_key (codes "NULL") t) (is_key (codes "NOT") t) h) refl

nullable_rule : Rule (λ k ts. nullable_at ts) as_it_is free grammar.nullable null_more
unfolding nullable_at
nullable_rule =
    said_law
    (stops_law
    (option_law (is_key (codes "NULL")) (made_law (λ u. Some true) null_key_rule)
    (option_law (is_key (codes "NOT")) (seq_law (key_rule (codes "NOT") refl refl) (λ n. made_law (λ u. Some false) null_key_rule)) (here_rule None) (λ x t h. h) (λ y. tt))
    (λ x t h. h) null_tails)
    null_more null_stops)
    as_it_is free grammar.nullable null_in null_value (λ k x h. tt) (λ k x h. null_items x) (λ k o h. null_back k o)

abbrev FitsValue : Bool → DefaultValue → Type 0
FitsValue wide defaults.Null = Unit {0}
FitsValue wide defaults.Other = wide ≡ true

default_is : (wide : Bool) (d : DefaultValue) (t : Tok) → default_of wide t ≡ Some d → IsA (grammar.default_value d) t × FitsValue wide d
default_is wide d t h = by (is_key (codes "NULL") t) wide (is_other_default t) refl refl refl d h
  where
    by : (a w o : Bool) → is_key (codes "NULL") t ≡ a → wide ≡ w → is_other_default t ≡ o → (d : DefaultValue) → default_of wide t ≡ Some d → IsA (grammar.default_value d) t × FitsValue wide d
    by true w o e v u defaults.Null h = (e, tt)
    by true w o e v u defaults.Other h = absurd (let clash : Some defaults.Null ≡ Some defaults.Other = rw e at h in cc)
    by false true true e v u defaults.Null h = absurd (let clash : Some defaults.Other ≡ Some defaults.Null = rw (u, e, v) at h in cc)
    by false true true e v u defaults.Other h = (u, v)
    by false true false e v u d h = absurd (let clash : None ≡ Some d = rw (u, e, v) at h in cc)
    by false false o e v u d h = absurd (let clash : None ≡ Some d = rw (e, v) at h in cc)

no_null : (t : Tok) → is_other_default t ≡ true → is_key (codes "NULL") t ≡ false
no_null t h = by (is_key (codes "NULL") t) (and_true (is_some_token t) (not (is_key (codes "NULL") t)) h).1
  where
    by : (b : Bool) → not b ≡ true → b ≡ false
    by true e = absurd cc
    by false e = refl

default_back : (wide : Bool) (d : DefaultValue) (t : Tok) → FitsValue wide d → IsA (grammar.default_value d) t → default_of wide t ≡ Some d
default_back wide defaults.Null t q h = rw h refl
default_back wide defaults.Other t q h = rw (h, no_null t h, q) refl

default_value_rule : (wide : Bool) → Rule (λ s ts. one (default_of wide) ts) as_it_is (such (FitsValue wide)) (λ d. grammar.default_value d ∷ []) never
default_value_rule wide = one_rule (default_of wide) grammar.default_value (FitsValue wide) (default_is wide) (default_back wide) defaults.Null (Word (codes "NULL")) refl tt (word_real (codes "NULL") refl)

abbrev DefaultParts : Type 0
DefaultParts = (Unit {0} × DefaultValue) ⊎ Unit {0}

default_in : DefaultParts → Option DefaultValue
default_in (inl z) = Some z.1
default_in (inr u) = None

default_eq : (x : DefaultParts) → default_in x ≡ either (λ (z : Unit {0} × DefaultValue). Some z.1) (λ (u : Unit {0}). None) x
unfolding default_in
default_eq (inl z) = refl
default_eq (inr u) = refl

default_items : (x : DefaultParts) → grammar.default (default_in x) ≡ either (λ (z : Unit {0} × DefaultValue). (Item.Key (codes "DEFAULT") ∷ []) ++ (grammar.default_value z.1 ∷ [])) (λ (u : Unit {0}). []) x
unfolding default_in
default_items (inl z) = refl
default_items (inr u) = refl

abbrev DefaultFits : Bool → ℕ → DefaultParts → Type 0
DefaultFits wide k x = either_fits (λ k (z : Unit {0} × DefaultValue). Unit {0} × FitsValue wide z.1) (λ k (u : Unit {0}). Unit {0}) k x

default_fits : (wide : Bool) (k : ℕ) (x : DefaultParts) → DefaultFits wide k x → FitsDefault wide (default_in x)
unfolding default_in
default_fits wide k (inl (u, defaults.Null)) h = tt
default_fits wide k (inl (u, defaults.Other)) h = h.1
default_fits wide k (inr u) h = tt

default_from : (wide : Bool) (k : ℕ) (o : Option DefaultValue) → FitsDefault wide o → (x : DefaultParts) × (default_in x ≡ o) × DefaultFits wide k x
unfolding default_in
default_from wide k None h = (inr tt, refl, tt)
default_from wide k (Some defaults.Null) h = (inl (tt, defaults.Null), refl, (tt, tt))
default_from wide k (Some defaults.Other) h = (inl (tt, defaults.Other), refl, (tt, h))

default_rule : (wide : Bool) → Rule (λ k ts. default_at wide ts) as_it_is (λ k o. FitsDefault wide o) grammar.default (is_key (codes "DEFAULT"))
unfolding default_at
default_rule wide =
    said_law
    (stops_law
    (option_law (is_key (codes "DEFAULT")) (seq_law (key_rule (codes "DEFAULT") refl refl) (λ d. made_law (λ v. Some v) (default_value_rule wide))) (here_rule None) (λ x t h. h) (λ y. tt))
    (is_key (codes "DEFAULT")) (λ t h. rw h refl))
    as_it_is (λ k o. FitsDefault wide o) grammar.default default_in default_eq (default_fits wide) (λ k x h. default_items x) (λ k o h. default_from wide k o h)

auto_increment_rule : Rule (λ k ts. auto_increment_at ts) as_it_is free grammar.auto_increment (is_key (codes "AUTO_INCREMENT"))
unfolding auto_increment_at
auto_increment_rule = given_law (is_key (codes "AUTO_INCREMENT")) (Item.Key (codes "AUTO_INCREMENT") ∷ []) tt (λ k. tt) (made_law (λ u. true) (key_rule (codes "AUTO_INCREMENT") refl refl)) (λ t h. h)

charset_rule : Rule (λ k ts. charset_at ts) as_it_is free grammar.charset (is_key (codes "CHARACTER"))
unfolding charset_at
charset_rule = given_law (is_key (codes "CHARACTER")) (Item.Key (codes "CHARACTER") ∷ Item.Key (codes "SET") ∷ Item.Which is_word ∷ []) (tt, (tt, tt)) (λ k. (tt, (tt, tt)))
    (seq_law (key_rule (codes "CHARACTER") refl refl) (λ c. seq_law (key_rule (codes "SET") refl refl) (λ s. made_law (λ u. true) word_rule))) (λ t h. h)

collation_rule : Rule (λ k ts. collation_at ts) as_it_is free grammar.collation (is_key (codes "COLLATE"))
unfolding collation_at
collation_rule = given_law (is_key (codes "COLLATE")) (Item.Key (codes "COLLATE") ∷ Item.Which is_word ∷ []) (tt, tt) (λ k. (tt, tt))
    (seq_law (key_rule (codes "COLLATE") refl refl) (λ c. made_law (λ u. true) word_rule)) (λ t h. h)

primary_given : Rule (λ k ts. primary_at false ts) as_it_is free grammar.primary (is_key (codes "PRIMARY"))
unfolding primary_at
primary_given = given_law (is_key (codes "PRIMARY")) (Item.Key (codes "PRIMARY") ∷ Item.Key (codes "KEY") ∷ []) (tt, tt) (λ k. (tt, tt))
    (seq_law (key_rule (codes "PRIMARY") refl refl) (λ c. made_law (λ u. true) (key_rule (codes "KEY") refl refl))) (λ t h. h)

primary_none : (k : ℕ) (b : Bool) → (true && b) ≡ false → (x : Unit {0}) × (false ≡ b) × Unit {0}
primary_none k true h = absurd cc
primary_none k false h = (tt, refl, tt)

primary_rule : (has : Bool) → Rule (λ k ts. primary_at has ts) as_it_is (λ k b. (has && b) ≡ false) grammar.primary (is_key (codes "PRIMARY"))
unfolding primary_at
primary_rule false = said_law primary_given as_it_is (λ k b. (false && b) ≡ false) grammar.primary (λ b. b) (λ b. refl) (λ k b h. refl) (λ k b h. refl) (λ k b h. (b, refl, tt))
primary_rule true =
    said_law (stops_law (here_rule false) (is_key (codes "PRIMARY")) (λ t h. refl)) as_it_is (λ k b. (true && b) ≡ false) grammar.primary (λ u. false) (λ u. refl) (λ k u h. refl) (λ k u h. refl) primary_none

unique_given : Rule (λ k ts. unique_at true ts) as_it_is free grammar.unique (is_key (codes "UNIQUE"))
unfolding unique_at
unique_given = given_law (is_key (codes "UNIQUE")) (Item.Key (codes "UNIQUE") ∷ []) tt (λ k. tt) (made_law (λ u. true) (key_rule (codes "UNIQUE") refl refl)) (λ t h. h)

unique_rule : (wide : Bool) → Rule (λ k ts. unique_at wide ts) as_it_is (λ k b. FitsUnique wide b) grammar.unique (is_key (codes "UNIQUE"))
unfolding unique_at
unique_rule true = said_law unique_given as_it_is (λ k b. FitsUnique true b) grammar.unique (λ b. b) (λ b. refl) (λ k b h. refl) (λ k b h. refl) (λ k b h. (b, refl, tt))
unique_rule false =
    said_law (stops_law (here_rule false) (is_key (codes "UNIQUE")) (λ t h. refl)) as_it_is (λ k b. FitsUnique false b) grammar.unique (λ u. false) (λ u. refl) (λ k u h. refl) (λ k u h. refl) primary_none

-- what leads the options from one of them on

leads_collation : (g : Tok → Bool) → ((t : Tok) → is_key (codes "COLLATE") t ≡ true → g t ≡ false) → ((t : Tok) → is_key (codes "UNIQUE") t ≡ true → g t ≡ false) → (o u : Bool) → Leads g (grammar.collation o ++ grammar.unique u)
leads_collation g ho hu o u = leads_both g (grammar.collation o) (grammar.unique u) (given_leads g (Item.Key (codes "COLLATE")) _ o ho) (given_leads g (Item.Key (codes "UNIQUE")) _ u hu)

leads_charset : (g : Tok → Bool) → ((t : Tok) → is_key (codes "CHARACTER") t ≡ true → g t ≡ false) → ((t : Tok) → is_key (codes "COLLATE") t ≡ true → g t ≡ false) → ((t : Tok) → is_key (codes "UNIQUE") t ≡ true → g t ≡ false) → (c o u : Bool) → Leads g (grammar.charset c ++ (grammar.collation o ++ grammar.unique u))
leads_charset g hc ho hu c o u = leads_both g (grammar.charset c) (grammar.collation o ++ grammar.unique u) (given_leads g (Item.Key (codes "CHARACTER")) _ c hc) (leads_collation g ho hu o u)

leads_primary : (g : Tok → Bool) → ((t : Tok) → is_key (codes "PRIMARY") t ≡ true → g t ≡ false) → ((t : Tok) → is_key (codes "CHARACTER") t ≡ true → g t ≡ false) → ((t : Tok) → is_key (codes "COLLATE") t ≡ true → g t ≡ false) → ((t : Tok) → is_key (codes "UNIQUE") t ≡ true → g t ≡ false)
    → (p c o u : Bool) → Leads g (grammar.primary p ++ (grammar.charset c ++ (grammar.collation o ++ grammar.unique u)))
leads_primary g hp hc ho hu p c o u =
    leads_both g (grammar.primary p) (grammar.charset c ++ (grammar.collation o ++ grammar.unique u)) (given_leads g (Item.Key (codes "PRIMARY")) _ p hp) (leads_charset g hc ho hu c o u)

leads_auto : (g : Tok → Bool) → ((t : Tok) → is_key (codes "AUTO_INCREMENT") t ≡ true → g t ≡ false) → ((t : Tok) → is_key (codes "PRIMARY") t ≡ true → g t ≡ false) → ((t : Tok) → is_key (codes "CHARACTER") t ≡ true → g t ≡ false)
    → ((t : Tok) → is_key (codes "COLLATE") t ≡ true → g t ≡ false) → ((t : Tok) → is_key (codes "UNIQUE") t ≡ true → g t ≡ false) → (a p c o u : Bool) → Leads g (grammar.auto_increment a ++ (grammar.primary p ++ (grammar.charset c ++ (grammar.collation o ++ grammar.unique u))))
leads_auto g ha hp hc ho hu a p c o u =
    leads_both g (grammar.auto_increment a) (grammar.primary p ++ (grammar.charset c ++ (grammar.collation o ++ grammar.unique u))) (given_leads g (Item.Key (codes "AUTO_INCREMENT")) _ a ha) (leads_primary g hp hc ho hu p c o u)

default_leads : (g : Tok → Bool) → ((t : Tok) → is_key (codes "DEFAULT") t ≡ true → g t ≡ false) → (d : Option DefaultValue) → Leads g (grammar.default d)
default_leads g h None = tt
default_leads g h (Some d) = h

leads_default : (g : Tok → Bool) → ((t : Tok) → is_key (codes "DEFAULT") t ≡ true → g t ≡ false) → ((t : Tok) → is_key (codes "AUTO_INCREMENT") t ≡ true → g t ≡ false) → ((t : Tok) → is_key (codes "PRIMARY") t ≡ true → g t ≡ false)
    → ((t : Tok) → is_key (codes "CHARACTER") t ≡ true → g t ≡ false) → ((t : Tok) → is_key (codes "COLLATE") t ≡ true → g t ≡ false) → ((t : Tok) → is_key (codes "UNIQUE") t ≡ true → g t ≡ false)
    → (d : Option DefaultValue) (a p c o u : Bool) → Leads g (grammar.default d ++ (grammar.auto_increment a ++ (grammar.primary p ++ (grammar.charset c ++ (grammar.collation o ++ grammar.unique u)))))
leads_default g hd ha hp hc ho hu d a p c o u =
    leads_both g (grammar.default d) (grammar.auto_increment a ++ (grammar.primary p ++ (grammar.charset c ++ (grammar.collation o ++ grammar.unique u)))) (default_leads g hd d) (leads_auto g ha hp hc ho hu a p c o u)

null_leads : (g : Tok → Bool) → ((t : Tok) → is_key (codes "NULL") t ≡ true → g t ≡ false) → ((t : Tok) → is_key (codes "NOT") t ≡ true → g t ≡ false) → (n : Option Bool) → Leads g (grammar.nullable n)
null_leads g hn ht None = tt
null_leads g hn ht (Some true) = hn
null_leads g hn ht (Some false) = ht

-- a keyword other than those of NULL
no_null_key : (k : List ℕ) → bytes_eq (str_to_ascii_lowercase k) (str_to_ascii_lowercase (codes "NULL")) ≡ false → bytes_eq (str_to_ascii_lowercase k) (str_to_ascii_lowercase (codes "NOT")) ≡ false → (t : Tok) → is_key k t ≡ true → null_more t ≡ false
no_null_key k a b t h = or_false (is_key (codes "NULL") t) (is_key (codes "NOT") t) (key_other k (codes "NULL") t a h) (key_other k (codes "NOT") t b h)

other_key : (k l : List ℕ) → bytes_eq (str_to_ascii_lowercase k) (str_to_ascii_lowercase l) ≡ false → (t : Tok) → is_key k t ≡ true → is_key l t ≡ false
other_key k l apart t h = key_other k l t apart h

abbrev pub options_more : Tok → Bool
options_more t = null_more t || (is_key (codes "DEFAULT") t || (is_key (codes "AUTO_INCREMENT") t || (is_key (codes "PRIMARY") t || (is_key (codes "CHARACTER") t || (is_key (codes "COLLATE") t || is_key (codes "UNIQUE") t)))))

pub options_rule : (wide has : Bool) → Rule (λ k ts. options_at wide has ts) as_it_is (λ k o. FitsDefault wide o.default × (((has && o.primary) ≡ false) × FitsUnique wide o.unique)) grammar.options options_more
unfolding options_at
options_rule wide has =
    said_law
    (then_law nullable_rule (λ n.
    then_law (default_rule wide) (λ d.
    then_law auto_increment_rule (λ a.
    then_law (primary_rule has) (λ p.
    then_law charset_rule (λ c.
    then_law collation_rule (λ o.
    made_law (λ u. record { nullable = n; default = d; auto_increment = a; primary = p; charset = c; collation = o; unique = u }) (unique_rule wide))
    (λ y. given_leads (is_key (codes "COLLATE")) (Item.Key (codes "UNIQUE")) _ y (other_key (codes "UNIQUE") (codes "COLLATE") refl)))
    (λ y. leads_collation (is_key (codes "CHARACTER")) (other_key (codes "COLLATE") (codes "CHARACTER") refl) (other_key (codes "UNIQUE") (codes "CHARACTER") refl) y.0 y.1))
    (λ y. leads_charset (is_key (codes "PRIMARY")) (other_key (codes "CHARACTER") (codes "PRIMARY") refl) (other_key (codes "COLLATE") (codes "PRIMARY") refl) (other_key (codes "UNIQUE") (codes "PRIMARY") refl) y.0 y.1.0 y.1.1))
    (λ y. leads_primary (is_key (codes "AUTO_INCREMENT")) (other_key (codes "PRIMARY") (codes "AUTO_INCREMENT") refl) (other_key (codes "CHARACTER") (codes "AUTO_INCREMENT") refl) (other_key (codes "COLLATE") (codes "AUTO_INCREMENT") refl) (other_key (codes "UNIQUE") (codes "AUTO_INCREMENT") refl) y.0 y.1.0 y.1.1.0 y.1.1.1))
    (λ y. leads_auto (is_key (codes "DEFAULT")) (other_key (codes "AUTO_INCREMENT") (codes "DEFAULT") refl) (other_key (codes "PRIMARY") (codes "DEFAULT") refl) (other_key (codes "CHARACTER") (codes "DEFAULT") refl) (other_key (codes "COLLATE") (codes "DEFAULT") refl) (other_key (codes "UNIQUE") (codes "DEFAULT") refl)
    y.0 y.1.0 y.1.1.0 y.1.1.1.0 y.1.1.1.1))
    (λ y. leads_default null_more (no_null_key (codes "DEFAULT") refl refl) (no_null_key (codes "AUTO_INCREMENT") refl refl) (no_null_key (codes "PRIMARY") refl refl) (no_null_key (codes "CHARACTER") refl refl) (no_null_key (codes "COLLATE") refl refl)
    (no_null_key (codes "UNIQUE") refl refl) y.0 y.1.0 y.1.1.0 y.1.1.1.0 y.1.1.1.1.0 y.1.1.1.1.1))
    as_it_is (λ k o. FitsDefault wide o.default × (((has && o.primary) ≡ false) × FitsUnique wide o.unique)) grammar.options
    (λ x. record { nullable = x.0; default = x.1.0; auto_increment = x.1.1.0; primary = x.1.1.1.0; charset = x.1.1.1.1.0; collation = x.1.1.1.1.1.0; unique = x.1.1.1.1.1.1 }) (λ x. refl) (λ k x h. (h.1.0, (h.1.1.1.0, h.1.1.1.1.1.1))) (λ k x h. refl)
    (λ k o h. ((o.nullable, (o.default, (o.auto_increment, (o.primary, (o.charset, (o.collation, o.unique)))))), refl, (tt, (h.0, (tt, (h.1.0, (tt, (tt, h.1.1))))))))

pub leads_options : (g : Tok → Bool) → ((t : Tok) → is_key (codes "NULL") t ≡ true → g t ≡ false) → ((t : Tok) → is_key (codes "NOT") t ≡ true → g t ≡ false)
    → ((t : Tok) → is_key (codes "DEFAULT") t ≡ true → g t ≡ false) → ((t : Tok) → is_key (codes "AUTO_INCREMENT") t ≡ true → g t ≡ false) → ((t : Tok) → is_key (codes "PRIMARY") t ≡ true → g t ≡ false)
    → ((t : Tok) → is_key (codes "CHARACTER") t ≡ true → g t ≡ false) → ((t : Tok) → is_key (codes "COLLATE") t ≡ true → g t ≡ false) → ((t : Tok) → is_key (codes "UNIQUE") t ≡ true → g t ≡ false) → (o : ColumnOptions) → Leads g (grammar.options o)
leads_options g hn ht hd ha hp hc ho hu o =
    leads_both g (grammar.nullable o.nullable) (grammar.default o.default ++ (grammar.auto_increment o.auto_increment ++ (grammar.primary o.primary ++ (grammar.charset o.charset ++ (grammar.collation o.collation ++ grammar.unique o.unique)))))
    (null_leads g hn ht o.nullable) (leads_default g hd ha hp hc ho hu o.default o.auto_increment o.primary o.charset o.collation o.unique)
