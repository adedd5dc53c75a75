-- The combinators as laws: each takes the laws of its parts, and gives that of the whole.
use Rattle.std.proofs.Common.{◌≡◌, ℕ, Bool, true, false, ◌||◌, List, [], ◌∷◌, ◌++◌, refl}
use Rattle.vl_token.specs.Tok.{Tok}
use Rattle.vl_grammar.specs.Item.{Item, IsA, Spells}
use Rattle.vl_grammar.specs.Lists.{HasSome}
use Rattle.vl_grammar.specs.Reading.{Read, starts}
use Rattle.vl_grammar.proofs.Spelling.{Leads, Heads, leads_never, starts_any}
use Rattle.vl_grammar.proofs.Rule.{Rule, Alive, never, then_at, then_rule, full_rule, made_at, made_rule, said, branch_at, branch_rule, either, either_fits, behind_at, behind_rule, IsLong}

pub then_law : {A B X Y : Type 0} {p : ℕ → List Tok → Read A} {v : X → A} {ok : ℕ → X → Type 0} {is : X → List Item} {g : Tok → Bool}
    {q : A → ℕ → List Tok → Read B} {w : A → Y → B} {ok' : A → ℕ → Y → Type 0} {js : Y → List Item} {h : Tok → Bool}
    → Rule p v ok is g → ((a : A) → Rule (q a) (w a) (ok' a) js h) → ((y : Y) → Leads g (js y))
    → Rule (then_at p q) (λ (z : X × Y). w (v z.0) z.1) (λ k z. ok k z.0 × ok' (v z.0) k z.1) (λ z. is z.0 ++ js z.1) (λ t. g t || h t)
then_law {p = p} {v = v} {ok = ok} {is = is} {g = g} {q = q} {w = w} {ok' = ok'} {js = js} {h = h} R Q follow = then_rule p v ok is g q w ok' js h R Q follow

-- the second isn't nothing
pub full_law : {A B X Y : Type 0} {p : ℕ → List Tok → Read A} {v : X → A} {ok : ℕ → X → Type 0} {is : X → List Item} {g : Tok → Bool}
    {q : A → ℕ → List Tok → Read B} {w : A → Y → B} {ok' : A → ℕ → Y → Type 0} {js : Y → List Item} {h : Tok → Bool}
    → Rule p v ok is g → ((a : A) → Rule (q a) (w a) (ok' a) js h) → ((y : Y) → Leads g (js y)) → ((y : Y) → HasSome (js y))
    → Rule (then_at p q) (λ (z : X × Y). w (v z.0) z.1) (λ k z. ok k z.0 × ok' (v z.0) k z.1) (λ z. is z.0 ++ js z.1) h
full_law {p = p} {v = v} {ok = ok} {is = is} {g = g} {q = q} {w = w} {ok' = ok'} {js = js} {h = h} R Q follow full = full_rule p v ok is g q w ok' js h R Q follow full

-- nothing goes on with the first
pub seq_law : {A B X Y : Type 0} {p : ℕ → List Tok → Read A} {v : X → A} {ok : ℕ → X → Type 0} {is : X → List Item}
    {q : A → ℕ → List Tok → Read B} {w : A → Y → B} {ok' : A → ℕ → Y → Type 0} {js : Y → List Item} {h : Tok → Bool}
    → Rule p v ok is never → ((a : A) → Rule (q a) (w a) (ok' a) js h)
    → Rule (then_at p q) (λ (z : X × Y). w (v z.0) z.1) (λ k z. ok k z.0 × ok' (v z.0) k z.1) (λ z. is z.0 ++ js z.1) h
seq_law {p = p} {v = v} {ok = ok} {is = is} {q = q} {w = w} {ok' = ok'} {js = js} {h = h} R Q = then_rule p v ok is never q w ok' js h R Q (λ y. leads_never (js y))

pub made_law : {A B X : Type 0} (f : A → B) {p : ℕ → List Tok → Read A} {v : X → A} {ok : ℕ → X → Type 0} {is : X → List Item} {g : Tok → Bool} → Rule p v ok is g → Rule (made_at f p) (λ x. f (v x)) ok is g
made_law f {p = p} {v = v} {ok = ok} {is = is} {g = g} R = made_rule f p v ok is g R

pub said_law : {A X Y : Type 0} {p : ℕ → List Tok → Read A} {v : X → A} {ok : ℕ → X → Type 0} {is : X → List Item} {g : Tok → Bool} → Rule p v ok is g
    → (w : Y → A) (ok' : ℕ → Y → Type 0) (js : Y → List Item) (to : X → Y) → ((x : X) → w (to x) ≡ v x) → ((k : ℕ) (x : X) → ok k x → ok' k (to x)) → ((k : ℕ) (x : X) → ok k x → js (to x) ≡ is x)
    → ((k : ℕ) (y : Y) → ok' k y → (x : X) × (to x ≡ y) × ok k x) → Rule p w ok' js g
said_law {p = p} {v = v} {ok = ok} {is = is} {g = g} R w ok' js to to_value to_fits to_items back = said p v ok is w ok' js g R to to_value to_fits to_items back

-- the second may be nothing
pub option_law : {A X Y : Type 0} (f : Tok → Bool) {p : ℕ → List Tok → Read A} {v : X → A} {ok : ℕ → X → Type 0} {is : X → List Item} {g : Tok → Bool}
    {q : ℕ → List Tok → Read A} {w : Y → A} {ok' : ℕ → Y → Type 0} {js : Y → List Item} {h : Tok → Bool}
    → Rule p v ok is g → Rule q w ok' js h → ((x : X) → Heads f (is x)) → ((y : Y) → Leads f (js y))
    → Rule (branch_at f p q) (either v w) (either_fits ok ok') (either is js) (λ t. f t || (g t || h t))
option_law f {p = p} {v = v} {ok = ok} {is = is} {g = g} {q = q} {w = w} {ok' = ok'} {js = js} {h = h} R Q heads tails =
    branch_rule f p v ok is g q w ok' js h (λ t. f t || (g t || h t)) R Q heads tails
    (λ rest s. (starts_any g h rest (starts_any f (λ t. g t || h t) rest s).1).0)
    (λ rest s. (starts_any g h rest (starts_any f (λ t. g t || h t) rest s).1).1)
    (λ y rest e s. (starts_any f (λ t. g t || h t) rest s).0)

-- neither is nothing
pub choice_law : {A X Y : Type 0} (f : Tok → Bool) {p : ℕ → List Tok → Read A} {v : X → A} {ok : ℕ → X → Type 0} {is : X → List Item} {g : Tok → Bool}
    {q : ℕ → List Tok → Read A} {w : Y → A} {ok' : ℕ → Y → Type 0} {js : Y → List Item} {h : Tok → Bool}
    → Rule p v ok is g → Rule q w ok' js h → ((x : X) → Heads f (is x)) → ((y : Y) → Leads f (js y)) → ((y : Y) → HasSome (js y))
    → Rule (branch_at f p q) (either v w) (either_fits ok ok') (either is js) (λ t. g t || h t)
choice_law {Y = Y} f {p = p} {v = v} {ok = ok} {is = is} {g = g} {q = q} {w = w} {ok' = ok'} {js = js} {h = h} R Q heads tails full =
    branch_rule f p v ok is g q w ok' js h (λ t. g t || h t) R Q heads tails
    (λ rest s. (starts_any g h rest s).0)
    (λ rest s. (starts_any g h rest s).1)
    (λ y rest e s. absurd (none (js y) e (full y)))
  where
    none : (is : List Item) → is ≡ [] → HasSome is → ⊥
    none [] e h = h
    none (i ∷ is) e h = cc

pub behind_law : {A X Y : Type 0} (f g : Tok → Bool) (c d : Item) {p : ℕ → List Tok → Read A} {v : X → A} {ok : ℕ → X → Type 0} {is : X → List Item} {g₁ : Tok → Bool}
    {q : ℕ → List Tok → Read A} {w : Y → A} {ok' : ℕ → Y → Type 0} {js : Y → List Item} {g₂ : Tok → Bool}
    → Rule p v ok is g₁ → Rule q w ok' js g₂ → ((t : Tok) → f t ≡ true → IsA c t) → ((t : Tok) → IsA c t → f t ≡ true) → ((t : Tok) → g t ≡ true → IsA d t) → ((t : Tok) → IsA d t → g t ≡ true)
    → ((y : Y) → IsLong (js y)) → ((y : Y) (t u : Tok) (more : List Tok) → Spells (js y) (t ∷ u ∷ more) → f t ≡ true → g u ≡ true → ⊥) → ((k : ℕ) (t : Tok) → f t ≡ true → Alive ok' js k (t ∷ []))
    → Rule (behind_at f g p q) (either v w) (either_fits ok ok') (either (λ x. c ∷ d ∷ is x) js) (λ t. g₁ t || g₂ t)
behind_law f g c d {p = p} {v = v} {ok = ok} {is = is} {g₁ = g₁} {q = q} {w = w} {ok' = ok'} {js = js} {g₂ = g₂} R Q to_f from_f to_g from_g long apart alone =
    behind_rule f g c d p v ok is g₁ q w ok' js g₂ R Q to_f from_f to_g from_g long apart alone

-- a reader that stops at more
pub stops_law : {A X : Type 0} {p : ℕ → List Tok → Read A} {v : X → A} {ok : ℕ → X → Type 0} {is : X → List Item} {g : Tok → Bool} → Rule p v ok is g
    → (h : Tok → Bool) → ((t : Tok) → h t ≡ false → g t ≡ false) → Rule p v ok is h
stops_law {p = p} {v = v} {is = is} {g = g} R h less = record {
  found = R.found;
  only = λ k x front rest fits s stops. R.only k x front rest fits s (starts_less rest stops);
  fault = R.fault;
  wide = R.wide;
  some = R.some;
}
  where
    starts_less : (ts : List Tok) → starts h ts ≡ false → starts g ts ≡ false
    starts_less [] e = refl
    starts_less (t ∷ ts) e = less t e
