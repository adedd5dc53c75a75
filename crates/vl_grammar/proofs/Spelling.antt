-- Items that are spelled one behind the other.
use Rattle.std.proofs.Common.{◌≡◌, ℕ, Bool, true, false, ◌||◌, List, [], ◌∷◌, ◌++◌, Result, Ok, Err, refl, ap, inl, inr, ◌⊎◌}
use Rattle.std.specs.List.{AllByRecursion}
use Rattle.vl_token.specs.Tok.{Tok}
use Rattle.vl_grammar.specs.Item.{Item, IsA, Spells}
use Rattle.vl_grammar.specs.Lists.{HasSome}
use Rattle.vl_grammar.specs.Reading.{Read, ◌>>=◌, starts}

pub spells_both : (is js : List Item) (x y : List Tok) → Spells is x → Spells js y → Spells (is ++ js) (x ++ y)
spells_both [] js [] y s u = u
spells_both [] js (t ∷ x) y s u = absurd s
spells_both (i ∷ is) js [] y s u = absurd s
spells_both (i ∷ is) js (t ∷ x) y s u = (s.0, spells_both is js x y s.1 u)

-- a spelling that falls into two
pub record Splits (is js : List Item) (f : List Tok) : Type 0 where
  pub front : List Tok
  pub back : List Tok
  pub parts : f ≡ front ++ back
  pub first : Spells is front
  pub then_ : Spells js back

pub spells_split : (is js : List Item) (f : List Tok) → Spells (is ++ js) f → Splits is js f
spells_split [] js f s = record { front = []; back = f; parts = refl; first = tt; then_ = s }
spells_split (i ∷ is) js [] s = absurd s
spells_split (i ∷ is) js (t ∷ f) s =
    let r = spells_split is js f s.1 in
    record { front = t ∷ r.front; back = r.back; parts = ap (λ (x : List Tok). t ∷ x) r.parts; first = (s.0, r.first); then_ = r.then_ }

pub all_both : {A : Type 0} (P : A → Type 0) (xs ys : List A) → AllByRecursion P xs → AllByRecursion P ys → AllByRecursion P (xs ++ ys)
all_both P [] ys p q = q
all_both P (x ∷ xs) ys p q = (p.0, all_both P xs ys p.1 q)

pub or_false : (a b : Bool) → a ≡ false → b ≡ false → (a || b) ≡ false
or_false a b p q = rw (p, q) refl

pub or_first : (a b : Bool) → (a || b) ≡ false → a ≡ false
or_first true b h = absurd cc
or_first false b h = refl

pub or_second : (a b : Bool) → (a || b) ≡ false → b ≡ false
or_second true b h = absurd cc
or_second false b h = h

-- no token that spells the first item passes the test
abbrev pub Leads : (Tok → Bool) → List Item → Type 0
Leads g [] = Unit {0}
Leads g (i ∷ is) = (t : Tok) → IsA i t → g t ≡ false

-- there is a first item, and each token that spells it passes the test
abbrev pub Heads : (Tok → Bool) → List Item → Type 0
Heads g [] = ⊥
Heads g (i ∷ is) = (t : Tok) → IsA i t → g t ≡ true

pub leads_both : (g : Tok → Bool) (xs ys : List Item) → Leads g xs → Leads g ys → Leads g (xs ++ ys)
leads_both g [] ys p q = q
leads_both g (i ∷ xs) ys p q = p

pub leads_any : (g h : Tok → Bool) (is : List Item) → Leads g is → Leads h is → Leads (λ t. g t || h t) is
leads_any g h [] p q = tt
leads_any g h (i ∷ is) p q = λ t s. or_false (g t) (h t) (p t s) (q t s)

-- what stands behind a test that no item here leads with
pub stops_before : (g : Tok → Bool) (is : List Item) (y rest : List Tok) → Leads g is → Spells is y → starts g rest ≡ false → starts g (y ++ rest) ≡ false
stops_before g [] [] rest p s h = h
stops_before g [] (t ∷ y) rest p s h = absurd s
stops_before g (i ∷ is) [] rest p s h = absurd s
stops_before g (i ∷ is) (t ∷ y) rest p s h = p t s.0

pub stops_full : (g : Tok → Bool) (is : List Item) (y rest : List Tok) → Leads g is → HasSome is → Spells is y → starts g (y ++ rest) ≡ false
stops_full g [] y rest p h s = absurd h
stops_full g (i ∷ is) [] rest p h s = absurd s
stops_full g (i ∷ is) (t ∷ y) rest p h s = p t s.0

pub leads_never : (is : List Item) → Leads (λ t. false) is
leads_never [] = tt
leads_never (i ∷ is) = λ t s. refl

pub starts_any : (g h : Tok → Bool) (ts : List Tok) → starts (λ t. g t || h t) ts ≡ false → (starts g ts ≡ false) × (starts h ts ≡ false)
starts_any g h [] e = (refl, refl)
starts_any g h (t ∷ ts) e = (or_first (g t) (h t) e, or_second (g t) (h t) e)

-- a result that is one
abbrev pub okay : {A : Type 0} → A → List Tok → Read A
okay a ts = Ok (a, ts)

abbrev value_or : {A : Type 0} → Read A → A → A
value_or (Ok x) d = x.0
value_or (Err n) d = d

abbrev rest_or : {A : Type 0} → Read A → List Tok → List Tok
rest_or (Ok x) d = x.1
rest_or (Err n) d = d

pub ok_parts : {A : Type 0} (a b : A) (r s : List Tok) → okay a r ≡ okay b s → (a ≡ b) × (r ≡ s)
ok_parts a b r s e = (ap (λ x. value_or x a) e, ap (λ x. rest_or x r) e)

pub record BindOk {A B : Type 0} (r : Result A ℕ) (f : A → Result B ℕ) (y : B) : Type 0 where
  pub value : A
  pub first : r ≡ Ok value
  pub then_ : f value ≡ Ok y

pub bind_ok : {A B : Type 0} (r : Result A ℕ) (f : A → Result B ℕ) (y : B) → (r >>= f) ≡ Ok y → BindOk r f y
bind_ok (Ok x) f y e = record { value = x; first = refl; then_ = e }
bind_ok (Err n) f y e = absurd cc

pub record BindErr {A B : Type 0} (r : Result A ℕ) (f : A → Result B ℕ) (n : ℕ) : Type 0 where
  pub value : A
  pub first : r ≡ Ok value
  pub then_ : f value ≡ Err n

abbrev fault_or : {B : Type 0} → Result B ℕ → ℕ → ℕ
fault_or (Ok x) d = d
fault_or (Err k) d = k

abbrev pub failed : {A : Type 0} → ℕ → Result A ℕ
failed n = Err n

pub err_is : {B : Type 0} (m n : ℕ) → failed {A = B} m ≡ failed n → m ≡ n
err_is m n e = ap (λ x. fault_or x m) e

pub bind_err : {A B : Type 0} (r : Result A ℕ) (f : A → Result B ℕ) (n : ℕ) → (r >>= f) ≡ Err n → (r ≡ Err n) ⊎ BindErr r f n
bind_err (Ok x) f n e = inr (record { value = x; first = refl; then_ = e })
bind_err (Err m) f n e = inl (ap (λ (k : ℕ). Err k) (err_is m n e))
