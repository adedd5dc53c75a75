-- A text is a statement in at most one way: what stands before the comma and behind it is fixed.
use Rattle.std.proofs.Common.{◌≡◌, ◌∙◌, ◌≤◌, sym, refl, subst, ℕ, false, List, [], ◌∷◌, ◌++◌, All, ◌==◌, arith, append_assoc, eq-eqb, length, take}
use Rattle.std.specs.Prelude.{codes}
use Rattle.std.specs.Char.{IsAsciiDigit}
use Rattle.std.proofs.lemmas.Bool.{ne_eqb, false≢true}
use Rattle.std.proofs.lemmas.List.{append_cancel_left, append_cancel_right, take_all}
use Rattle.std.proofs.lemmas.List.Elements.{All-head, All-tail, All-weaker, All-contains, Contains-append_right}
use Rattle.vl_insert_text.specs.Insert.{Spells}
use Rattle.vl_model.specs.ScriptLine.{IsNumber}

abbrev pub HasNoComma : List ℕ → Type 0
HasNoComma = All (λ b. (b == 44) ≡ false)

-- what stands before the two numbers of a statement
abbrev pub head : List ℕ
head = codes "INSERT INTO t1(id,u) VALUES("

digit_no_comma : (b : ℕ) → IsAsciiDigit b → (b == 44) ≡ false
digit_no_comma b d = ne_eqb b 44 (λ e. omega arith)

pub number_no_comma : (digits : List ℕ) (n : ℕ) → IsNumber digits n → HasNoComma digits
number_no_comma digits n number =
    All-weaker IsAsciiDigit (λ b. (b == 44) ≡ false) digit_no_comma digits number.each

-- the first comma cuts a text in one way
pub cut_once : (xs ys others more : List ℕ) → xs ++ 44 ∷ ys ≡ others ++ 44 ∷ more → HasNoComma xs → HasNoComma others → (xs ≡ others) × (ys ≡ more)
cut_once [] ys [] more e p q = (refl, cc)
cut_once [] ys (z ∷ zs) more e p q =
    let same : z ≡ 44 = cc in
    absurd (false≢true (sym (All-head (λ b. (b == 44) ≡ false) z zs q) ∙ eq-eqb z 44 same))
cut_once (x ∷ xs) ys [] more e p q =
    let same : x ≡ 44 = cc in
    absurd (false≢true (sym (All-head (λ b. (b == 44) ≡ false) x xs p) ∙ eq-eqb x 44 same))
cut_once (x ∷ xs) ys (z ∷ zs) more e p q =
    let rest : xs ++ 44 ∷ ys ≡ zs ++ 44 ∷ more = cc in
    let first : x ≡ z = cc in
    let same : (xs ≡ zs) × (ys ≡ more) = cut_once xs ys zs more rest (All-tail (λ b. (b == 44) ≡ false) x xs p) (All-tail (λ b. (b == 44) ≡ false) z zs q) in
    (cc (first, same.0), same.1)

-- a statement begins so
pub begins_so : (text : List ℕ) (id u : ℕ) → Spells text id u → (rest : List ℕ) × (text ≡ head ++ rest)
begins_so text id u asks = (asks.0 ++ (codes "," ++ (asks.1 ++ codes ")")), asks.2)

-- behind that stand two numbers, and a bracket
pub rest_so : (text rest : List ℕ) (id u : ℕ) → text ≡ head ++ rest → (asks : Spells text id u) → rest ≡ (asks.0 ++ 44 ∷ asks.1) ++ codes ")"
rest_so text rest id u front asks =
    append_cancel_left head rest _ (sym front ∙ asks.2) ∙ sym (append_assoc asks.0 (44 ∷ asks.1) (codes ")"))

pub ends_so : (text rest : List ℕ) (id u : ℕ) → text ≡ head ++ rest → Spells text id u → (values : List ℕ) × (rest ≡ values ++ codes ")")
ends_so text rest id u front asks = (asks.0 ++ 44 ∷ asks.1, rest_so text rest id u front asks)

pub values_so : (text rest values : List ℕ) (id u : ℕ) → text ≡ head ++ rest → rest ≡ values ++ codes ")" → (asks : Spells text id u) → values ≡ asks.0 ++ 44 ∷ asks.1
values_so text rest values id u front end asks =
    append_cancel_right values (asks.0 ++ 44 ∷ asks.1) (codes ")") (sym end ∙ rest_so text rest id u front asks)

-- the numbers are those before and behind the first comma
pub numbers_so : (text rest values first second : List ℕ) (id u : ℕ) → text ≡ head ++ rest → rest ≡ values ++ codes ")" → values ≡ first ++ 44 ∷ second → HasNoComma first → Spells text id u
    → IsNumber first id × IsNumber second u
numbers_so text rest values first second id u front end cut plain asks =
    let same : (first ≡ asks.0) × (second ≡ asks.1) =
    cut_once first second asks.0 asks.1 (sym cut ∙ values_so text rest values id u front end asks) plain (number_no_comma asks.0 id asks.3) in
    (subst (λ (v : List ℕ). IsNumber v id) (sym same.0) asks.3, subst (λ (v : List ℕ). IsNumber v u) (sym same.1) asks.4)

-- the texts before and behind the comma
pub comma_none : (text : List ℕ) (i : ℕ) → length text ≤ i → HasNoComma (take i text) → (front back : List ℕ) → text ≡ front ++ 44 ∷ back → ⊥
comma_none text i at_end plain front back e =
    let whole : HasNoComma text = subst (λ (v : List ℕ). HasNoComma v) (take_all i text at_end) plain in
    let here : HasNoComma (front ++ 44 ∷ back) = subst (λ (v : List ℕ). HasNoComma v) e whole in
    false≢true (sym (All-contains (λ b. (b == 44) ≡ false) (front ++ 44 ∷ back) 44 here (Contains-append_right front (44 ∷ back) 44 (0, omega arith, refl))))
