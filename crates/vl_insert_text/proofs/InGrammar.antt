-- The statement of a text is what the text is in SQL's grammar.
use Rattle.std.proofs.Common.{◌≡◌, ◌∙◌, ◌+◌, ◌-◌, ◌*◌, ◌^◌, ◌≤◌, ap, sym, refl, subst, inl, ℕ, zero, suc, true, false, List, [], ◌∷◌, ◌++◌, All, map, length, length-append, Some, arith}
use Rattle.std.specs.Prelude.{codes}
use Rattle.std.specs.List.{list_all}
use Rattle.std.specs.Char.{is_ascii_digit, IsAsciiDigit}
use Rattle.std.proofs.lemmas.Bool.{lt-ltb, le-leb}
use Rattle.std.proofs.lemmas.List.Elements.{All-head, All-tail}
use Rattle.vl_token.specs.Tok.{Tok}
use Rattle.vl_token.specs.Tok.Tok.{Word, Number, Mark}
use Rattle.vl_token.specs.Lexical.{number_after, number_in, cut_on, cut_within, cut, tokens_in}
use Rattle.vl_grammar.specs.Terminal.{literal_of, number_of}
use Rattle.vl_grammar.proofs.Written.{number_again}
use Rattle.vl_values.specs.declared.value.Value.TheVariants.{Uint}
use Rattle.vl_sql.specs.declared.stmt.Stmt.{Stmt}
use Rattle.vl_sql.specs.Grammar.{IsStatement}
use Rattle.vl_model.specs.ScriptLine.{value_behind, IsNumber}
use Rattle.vl_model.specs.Taken.{insert_into_t1}
use Rattle.vl_model.proofs.Taking.{has_values_alone}
use Rattle.vl_insert_text.specs.Insert.{Says}
use Rattle.vl_insert_text.proofs.Grammar.{head}

-- ---- digits

digit_passes : (b : ℕ) → IsAsciiDigit b → is_ascii_digit b ≡ true
digit_passes b d = rw (le-leb 48 b (omega arith), le-leb b 57 (omega arith)) refl

digits_pass : (digits : List ℕ) → All IsAsciiDigit digits → list_all is_ascii_digit digits ≡ true
digits_pass [] each = refl
digits_pass (digit ∷ digits) each =
    rw (digit_passes digit (All-head IsAsciiDigit digit digits each), digits_pass digits (All-tail IsAsciiDigit digit digits each)) refl

-- both ways to read digits give one number
same_number : (n : ℕ) (digits : List ℕ) → number_after n digits ≡ value_behind n digits
same_number n [] = refl
same_number n (digit ∷ digits) = same_number (10 * n + (digit - 48)) digits

number_is : (digits : List ℕ) (n : ℕ) → IsNumber digits n → literal_of (Number false digits) ≡ Some (Uint n)
number_is digits n number =
    let same : number_in digits ≡ n = same_number 0 digits ∙ number.value in
    ap (λ (k : ℕ). number_of false k) same ∙ rw (lt-ltb n (2 ^ 64) number.fits) refl

-- ---- tokens of a text, in so many turns

tokens_within : ℕ → List ℕ → List Tok
tokens_within turns text = map (λ p. p.0) (cut_within turns text)

-- a number is one token
number_cut : (turns : ℕ) (digits rest : List ℕ) (b : ℕ) → 1 ≤ length digits → All IsAsciiDigit digits → is_ascii_digit b ≡ false
    → tokens_within (suc turns) (digits ++ b ∷ rest) ≡ Number false digits ∷ tokens_within turns (b ∷ rest)
unfolding tokens_within
number_cut turns [] rest b some each stop = absurd (omega arith)
number_cut turns (digit ∷ digits) rest b some each stop =
    ap (λ l. map (λ p. p.0) (cut_on (length ((digit ∷ digits) ++ b ∷ rest)) l (λ more. cut_within turns more)))
    (number_again digit digits (b ∷ rest) (digits_pass (digit ∷ digits) each) stop)

-- what stands before the two numbers
head_cut : (turns : ℕ) (rest : List ℕ)
    → tokens_within (suc (suc (suc (suc (suc (suc (suc (suc (suc (suc (suc (suc (suc turns))))))))))))) (head ++ rest)
    ≡ Word (codes "INSERT") ∷ Word (codes "INTO") ∷ Word (codes "t1") ∷ Mark 40 ∷ Word (codes "id") ∷ Mark 44 ∷ Word (codes "u") ∷ Mark 41 ∷ Word (codes "VALUES") ∷ Mark 40 ∷ tokens_within turns rest
unfolding tokens_within
head_cut turns rest = refl

comma_cut : (turns : ℕ) (rest : List ℕ) → tokens_within (suc turns) (44 ∷ rest) ≡ Mark 44 ∷ tokens_within turns rest
unfolding tokens_within
comma_cut turns rest = refl

end_cut : (turns : ℕ) → tokens_within (suc turns) (41 ∷ []) ≡ Mark 41 ∷ []
unfolding tokens_within
end_cut zero = refl
end_cut (suc turns) = refl

abbrev said_tokens : List ℕ → List ℕ → List Tok
said_tokens n m = Word (codes "INSERT") ∷ Word (codes "INTO") ∷ Word (codes "t1") ∷ Mark 40 ∷ Word (codes "id") ∷ Mark 44 ∷ Word (codes "u") ∷ Mark 41 ∷ Word (codes "VALUES") ∷ Mark 40 ∷ Number false n ∷ Mark 44 ∷ Number false m ∷ Mark 41 ∷ []

abbrev said : List ℕ → List ℕ → List ℕ
said n m = head ++ (n ++ 44 ∷ (m ++ 41 ∷ []))

text_cut : (turns : ℕ) (n m : List ℕ) → 1 ≤ length n → All IsAsciiDigit n → 1 ≤ length m → All IsAsciiDigit m
    → tokens_within (suc (suc (suc (suc (suc (suc (suc (suc (suc (suc (suc (suc (suc (suc (suc (suc (suc turns))))))))))))))))) (said n m) ≡ said_tokens n m
text_cut turns n m some_n each_n some_m each_m =
    let tail : tokens_within (suc (suc (suc (suc turns)))) (n ++ 44 ∷ (m ++ 41 ∷ [])) ≡ Number false n ∷ Mark 44 ∷ Number false m ∷ Mark 41 ∷ [] =
    number_cut (suc (suc (suc turns))) n (m ++ 41 ∷ []) 44 some_n each_n refl
    ∙ ap (λ ts. Number false n ∷ ts) (comma_cut (suc (suc turns)) (m ++ 41 ∷ [])
    ∙ ap (λ ts. Mark 44 ∷ ts) (number_cut (suc turns) m [] 41 some_m each_m refl ∙ ap (λ ts. Number false m ∷ ts) (end_cut turns))) in
    head_cut (suc (suc (suc (suc turns)))) (n ++ 44 ∷ (m ++ 41 ∷ []))
    ∙ ap (λ ts. Word (codes "INSERT") ∷ Word (codes "INTO") ∷ Word (codes "t1") ∷ Mark 40 ∷ Word (codes "id") ∷ Mark 44 ∷ Word (codes "u") ∷ Mark 41 ∷ Word (codes "VALUES") ∷ Mark 40 ∷ ts) tail

-- the text has turns enough
turns_are : (n m : List ℕ) → (turns : ℕ) × (length (said n m) ≡ suc (suc (suc (suc (suc (suc (suc (suc (suc (suc (suc (suc (suc (suc (suc (suc (suc turns)))))))))))))))))
turns_are n m =
    let behind : ℕ = length (n ++ 44 ∷ (m ++ 41 ∷ [])) in (11 + behind, length-append head (n ++ 44 ∷ (m ++ 41 ∷ [])) ∙ omega arith)

tokens_are : (n m : List ℕ) → 1 ≤ length n → All IsAsciiDigit n → 1 ≤ length m → All IsAsciiDigit m → tokens_in (said n m) ≡ said_tokens n m
unfolding cut tokens_within
tokens_are n m some_n each_n some_m each_m =
    let turns = turns_are n m in ap (λ k. tokens_within k (said n m)) turns.1 ∙ text_cut turns.0 n m some_n each_n some_m each_m

-- ---- the statement

said_is : (n m : List ℕ) (id u : ℕ) → IsNumber n id → IsNumber m u → IsStatement 0 (insert_into_t1 id u) (said_tokens n m)
said_is n m id u first second = (
  (tt, (refl, (refl, tt)), (tt, omega arith), (tt, tt)),
  inl (refl, (refl, (refl, (refl, (refl, (refl, (refl, (refl, (refl, (refl, (number_is n id first, (refl, (number_is m u second, (refl, tt)))))))))))))),
)

-- the statement that a text says is the one that the text is
pub in_grammar : (text : List ℕ) (stmt : Stmt) → Says text stmt → IsStatement 0 stmt (tokens_in text)
in_grammar text stmt (id, u, spells, values) =
    let n : List ℕ = spells.0 in
    let m : List ℕ = spells.1 in
    let first : IsNumber n id = spells.3 in
    let second : IsNumber m u = spells.4 in
    let tokens : tokens_in text ≡ said_tokens n m =
    ap tokens_in spells.2 ∙ tokens_are n m first.some first.each second.some second.each in
    subst (λ (s : Stmt). IsStatement 0 s (tokens_in text)) (sym (has_values_alone stmt id u values))
    (subst (λ (ts : List Tok). IsStatement 0 (insert_into_t1 id u) ts) (sym tokens) (said_is n m id u first second))
