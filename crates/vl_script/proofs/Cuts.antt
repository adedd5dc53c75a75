-- Words: the first space cuts a text in one way, and a skipped line shows at its first byte.
use Rattle.std.specs.declared.option.Option.{Option}
use Rattle.std.proofs.Common.{◌≡◌, ◌≢◌, ◌∙◌, ◌<◌, ◌≤◌, ◌↔◌, ap, sym, refl, subst, ℕ, false, true, List, [], ◌∷◌, ◌++◌, ◌==◌, nat_eq, IsTrue, arith, eq-eqb, length, take, get_or, Some, None, IfSome, IfNone, MatchOption, Bor}
use Rattle.std.proofs.lemmas.Bool.{eqb-true, false≢true}
use Rattle.std.proofs.lemmas.List.{append_cancel_left, take_all}
use Rattle.std.proofs.lemmas.List.Elements.{All-head, All-tail, All-contains, All-get_or, Contains-append_right}
use Rattle.vl_script.specs.Script.{HasNoSpace, IsSkipped, IsWord}
use Rattle.vl_script.specs.Script.IsSkipped.{Empty, Comment}

-- behind a front of the text
pub front_sides : (text front : List ℕ) (r : Option (Bor (List ℕ))) → MatchOption r ((rest : List ℕ) → text ≢ front ++ rest) (λ x. text ≡ front ++ x.now)
    → IfSome r (λ x. text ≡ front ++ x.now) × IfNone r ((rest : List ℕ) → text ≡ front ++ rest → ⊥)
front_sides text front None h = (tt, h)
front_sides text front (Some x) h = (h, tt)

-- a front has one rest
pub one_rest : (text front rest other : List ℕ) → text ≡ front ++ rest → text ≡ front ++ other → rest ≡ other
one_rest text front rest other e d = append_cancel_left front rest other (sym e ∙ d)

-- the first space cuts a text in one way
pub cut_once : (xs ys others more : List ℕ) → xs ++ 32 ∷ ys ≡ others ++ 32 ∷ more → HasNoSpace xs → HasNoSpace others → (xs ≡ others) × (ys ≡ more)
cut_once [] ys [] more e p q = (refl, cc)
cut_once [] ys (z ∷ zs) more e p q =
    let same : z ≡ 32 = cc in
    absurd (false≢true (sym (All-head (λ b. (b == 32) ≡ false) z zs q) ∙ eq-eqb z 32 same))
cut_once (x ∷ xs) ys [] more e p q =
    let same : x ≡ 32 = cc in
    absurd (false≢true (sym (All-head (λ b. (b == 32) ≡ false) x xs p) ∙ eq-eqb x 32 same))
cut_once (x ∷ xs) ys (z ∷ zs) more e p q =
    let rest : xs ++ 32 ∷ ys ≡ zs ++ 32 ∷ more = cc in
    let first : x ≡ z = cc in
    let same : (xs ≡ zs) × (ys ≡ more) = cut_once xs ys zs more rest (All-tail (λ b. (b == 32) ≡ false) x xs p) (All-tail (λ b. (b == 32) ≡ false) z zs q) in
    (cc (first, same.0), same.1)

-- nothing before the first space is no word
pub no_front_word : (xs ys others more : List ℕ) → xs ++ 32 ∷ ys ≡ others ++ 32 ∷ more → HasNoSpace xs → length xs ≡ 0 → IsWord others → ⊥
no_front_word xs ys others more e p short word =
    let same : (xs ≡ others) × (ys ≡ more) = cut_once xs ys others more e p word.plain in
    omega (arith, word.some, ap length same.0)

-- a text without a space is not cut
pub space_none : (text : List ℕ) (i : ℕ) → length text ≤ i → HasNoSpace (take i text) → (front back : List ℕ) → text ≡ front ++ 32 ∷ back → ⊥
space_none text i at_end plain front back e =
    let whole : HasNoSpace text = subst (λ (v : List ℕ). HasNoSpace v) (take_all i text at_end) plain in
    let here : HasNoSpace (front ++ 32 ∷ back) = subst (λ (v : List ℕ). HasNoSpace v) e whole in
    false≢true (sym (All-contains (λ b. (b == 32) ≡ false) (front ++ 32 ∷ back) 32 here (Contains-append_right front (32 ∷ back) 32 (0, omega arith, refl))))

-- an empty text is no word
pub empty_no_word : (text : List ℕ) → length text ≡ 0 → IsTrue false ↔ IsWord text
empty_no_word text short = (λ t. absurd (false≢true t), λ w. absurd (omega (arith, w.some)))

-- nor is one with a space
pub spaced_no_word : (text : List ℕ) (i : ℕ) → i < length text → get_or text i 0 ≡ 32 → IsTrue false ↔ IsWord text
spaced_no_word text i below space = (
  λ t. absurd (false≢true t),
  λ w. absurd (false≢true (sym (All-get_or (λ b. (b == 32) ≡ false) text i 0 below w.plain) ∙ eq-eqb (get_or text i 0) 32 space)),
)

-- another is
pub is_a_word : (text : List ℕ) (i : ℕ) → 1 ≤ length text → length text ≤ i → HasNoSpace (take i text) → IsTrue true ↔ IsWord text
is_a_word text i some at_end plain = (
  λ t. record { some = some; plain = subst (λ (v : List ℕ). HasNoSpace v) (take_all i text at_end) plain },
  λ w. refl,
)

-- the first byte of a skipped line that isn't empty
HasMark : List ℕ → Type 0
HasMark [] = Unit {0}
HasMark (b ∷ text) = b ≡ 35

skips_mark : (text : List ℕ) → IsSkipped text → HasMark text
unfolding HasMark
skips_mark _ Empty = tt
skips_mark _ (Comment text) = refl

skips_mark_is : (b : ℕ) (text : List ℕ) → IsSkipped (b ∷ text) → b ≡ 35
unfolding HasMark
skips_mark_is b text s = skips_mark (b ∷ text) s

-- an empty text is skipped
pub skips_empty : (text : List ℕ) → length text < 1 → IsTrue true ↔ IsSkipped text
skips_empty [] short = (λ t. Empty, λ s. refl)
skips_empty (b ∷ text) short = absurd (omega arith)

-- another is skipped exactly by its first byte
pub skips_first : (text : List ℕ) → 1 ≤ length text → IsTrue (nat_eq (get_or text 0 0) 35) ↔ IsSkipped text
skips_first [] long = absurd (omega arith)
skips_first (b ∷ text) long = (
  λ t. subst (λ (v : ℕ). IsSkipped (v ∷ text)) (sym (eqb-true b 35 t)) (Comment text),
  λ s. eq-eqb b 35 (skips_mark_is b text s),
)
