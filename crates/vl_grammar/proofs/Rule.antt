-- The law of a reader, and how the law of a rule is composed of those of its parts.
--
-- A language is given by witnesses: x stands for a value, may have to fit, and is spelled with items.
-- A reader has a slack k, by which each of its limits is above its own. Its law says that what it reads
-- is in its language, that all of its language is read, and that it fails at the first token that can't go on.
use Rattle.std.proofs.Common.{◌≡◌, ◌≤◌, ℕ, max, Bool, true, false, ◌||◌, List, [], ◌∷◌, ◌++◌, length, Option, Some, None, Ok, Err, refl, sym, ap, subst, ◌∙◌, inl, inr, ◌⊎◌, append_assoc, arith, if◌then◌else◌, cond}
use Rattle.std.specs.List.{AllByRecursion}
use Rattle.std.proofs.lemmas.List.{append-nil}
use Rattle.vl_token.specs.Tok.{Tok}
use Rattle.vl_token.specs.Lexical.{IsToken}
use Rattle.vl_grammar.specs.Item.{Item, IsA, Spells}
use Rattle.vl_grammar.specs.Lists.{HasSome}
use Rattle.vl_grammar.specs.Reading.{Read, ◌>>=◌, of_option, one, starts, behind, either_way}
use Rattle.vl_grammar.proofs.Spelling.{spells_both, spells_split, all_both, Leads, Heads, stops_before, stops_full, starts_any, okay, ok_parts, bind_ok, BindErr, bind_err, err_is}

-- a token that a text can have
abbrev pub IsReal : Tok → Type 0
IsReal t = IsToken t

abbrev pub first : List Tok → Option Tok
first [] = None
first (t ∷ ts) = Some t

pub same_first : (y r s : List Tok) → first r ≡ first s → first (y ++ r) ≡ first (y ++ s)
same_first [] r s e = e
same_first (t ∷ y) r s e = refl

starts_same : (f : Tok → Bool) (r s : List Tok) → first r ≡ first s → starts f r ≡ starts f s
starts_same f [] [] e = refl
starts_same f [] (u ∷ s) e = absurd cc
starts_same f (t ∷ r) [] e = absurd cc
starts_same f (t ∷ r) (u ∷ s) e = let h : t ≡ u = cc in ap f h

-- these tokens begin a member of the language
pub record Alive {X : Type 0} (ok : ℕ → X → Type 0) (items : X → List Item) (k : ℕ) (before : List Tok) : Type 0 where
  pub witness : X
  pub more : List Tok
  pub real : AllByRecursion IsReal more
  pub fits : ok k witness
  pub spelled : Spells (items witness) (before ++ more)

pub record Found {A X : Type 0} (p : ℕ → List Tok → Read A) (value : X → A) (ok : ℕ → X → Type 0) (items : X → List Item) (k : ℕ) (ts : List Tok) (a : A) (rest : List Tok) : Type 0 where
  pub witness : X
  pub front : List Tok
  pub parts : ts ≡ front ++ rest
  pub is : value witness ≡ a
  pub fits : ok k witness
  pub spelled : Spells (items witness) front
  -- whatever stands behind the next token
  pub local : (m : ℕ) (other : List Tok) → k ≤ m → first rest ≡ first other → p m (front ++ other) ≡ Ok (a, other)

-- one item too many: the last token leads past a limit
pub record Past {X : Type 0} (ok : ℕ → X → Type 0) (items : X → List Item) (k : ℕ) (before : List Tok) : Type 0 where
  pub front : List Tok
  pub last : Tok
  pub parts : before ≡ front ++ last ∷ []
  pub within : Alive ok items k front
  pub slack : ℕ
  pub beyond : Alive ok items slack before

-- these tokens begin a member, and no reader goes on with the next one, whatever its limits
pub record Off {A X : Type 0} (p : ℕ → List Tok → Read A) (ok : ℕ → X → Type 0) (items : X → List Item) (k : ℕ) (before rest : List Tok) : Type 0 where
  pub alive : Alive ok items k before
  pub local : (m : ℕ) (other : List Tok) → k ≤ m → first rest ≡ first other → p m (before ++ other) ≡ Err (length other)

pub record Over {A X : Type 0} (p : ℕ → List Tok → Read A) (ok : ℕ → X → Type 0) (items : X → List Item) (k : ℕ) (before : List Tok) : Type 0 where
  pub past : Past ok items k before
  pub local : (other : List Tok) → p k (before ++ other) ≡ Err (length other)

pub record Stuck {A X : Type 0} (p : ℕ → List Tok → Read A) (ok : ℕ → X → Type 0) (items : X → List Item) (k : ℕ) (ts : List Tok) (n : ℕ) : Type 0 where
  pub before : List Tok
  pub rest : List Tok
  pub parts : ts ≡ before ++ rest
  pub left : length rest ≡ n
  pub cause : Off p ok items k before rest ⊎ Over p ok items k before

pub record Rule {A X : Type 0} (p : ℕ → List Tok → Read A) (value : X → A) (ok : ℕ → X → Type 0) (items : X → List Item) (g : Tok → Bool) : Type 0 where
  pub found : (k : ℕ) (ts : List Tok) (a : A) (rest : List Tok) → p k ts ≡ Ok (a, rest) → Found p value ok items k ts a rest
  pub only : (k : ℕ) (x : X) (front rest : List Tok) → ok k x → Spells (items x) front → starts g rest ≡ false → p k (front ++ rest) ≡ Ok (value x, rest)
  pub fault : (k : ℕ) (ts : List Tok) (n : ℕ) → p k ts ≡ Err n → Stuck p ok items k ts n
  pub wide : (k m : ℕ) (x : X) → k ≤ m → ok k x → ok m x
  pub some : (k : ℕ) → Alive ok items k []

-- ---- one token

abbrev pub always : {X : Type 0} → ℕ → X → Type 0
always k x = Unit {0}

abbrev pub never : Tok → Bool
never t = false

abbrev pub as_it_is : {A : Type 0} → A → A
as_it_is a = a

one_ok : {A : Type 0} (o : Option A) (a : A) (ts rest : List Tok) (n : ℕ) → of_option o ts n ≡ Ok (a, rest) → (o ≡ Some a) × (ts ≡ rest)
one_ok None a ts rest n e = absurd cc
one_ok (Some b) a ts rest n e = let parts = ok_parts b a ts rest e in (ap (λ x. Some x) parts.0, parts.1)

one_err : {A : Type 0} (o : Option A) (ts : List Tok) (n m : ℕ) → of_option o ts n ≡ Err m → (o ≡ None) × (n ≡ m)
one_err None ts n m e = (refl, err_is n m e)
one_err (Some b) ts n m e = absurd cc

-- a token whose value meets Q
abbrev pub such : {A : Type 0} → (A → Type 0) → ℕ → A → Type 0
such Q k a = Q a

module _ {A : Type 0} (f : Tok → Option A) (item : A → Item) (Q : A → Type 0) (to : (a : A) (t : Tok) → f t ≡ Some a → IsA (item a) t × Q a) (back : (a : A) (t : Tok) → Q a → IsA (item a) t → f t ≡ Some a)
    (a₀ : A) (t₀ : Tok) (is₀ : IsA (item a₀) t₀) (q₀ : Q a₀) (real₀ : IsReal t₀) where
  abbrev pub one_item : A → List Item
  one_item a = item a ∷ []

  abbrev pub one_at : ℕ → List Tok → Read A
  one_at k ts = one f ts

  one_alive : (k : ℕ) → Alive (such Q) one_item k []
  one_alive k = record { witness = a₀; more = t₀ ∷ []; real = (real₀, tt); fits = q₀; spelled = (is₀, tt) }

  one_found : (k : ℕ) (ts : List Tok) (a : A) (rest : List Tok) → one f ts ≡ Ok (a, rest) → Found one_at as_it_is (such Q) one_item k ts a rest
  one_found k [] a rest e = absurd cc
  one_found k (t ∷ ts) a rest e =
      let o = one_ok (f t) a ts rest (length (t ∷ ts)) e in
      let s = to a t o.0 in record {
        witness = a;
        front = t ∷ [];
        parts = ap (λ (r : List Tok). t ∷ r) o.1;
        is = refl;
        fits = s.1;
        spelled = (s.0, tt);
        local = λ m other le same. rw o.0 refl;
      }

  one_only : (k : ℕ) (x : A) (front rest : List Tok) → Q x → Spells (item x ∷ []) front → starts never rest ≡ false → one f (front ++ rest) ≡ Ok (x, rest)
  one_only k x [] rest q s stops = absurd s
  one_only k x (t ∷ []) rest q s stops = rw (back x t q s.0) refl
  one_only k x (t ∷ u ∷ more) rest q s stops = absurd s.1

  one_nothing : (k m : ℕ) (other : List Tok) → k ≤ m → first [] ≡ first other → one f other ≡ Err (length other)
  one_nothing k m [] le same = refl
  one_nothing k m (t ∷ other) le same = absurd cc

  one_wrong : (k m : ℕ) (t : Tok) (ts other : List Tok) → f t ≡ None → k ≤ m → first (t ∷ ts) ≡ first other → one f other ≡ Err (length other)
  one_wrong k m t ts [] e le same = absurd cc
  one_wrong k m t ts (u ∷ other) e le same = let h : t ≡ u = cc in rw (← h, e) refl

  one_fault : (k : ℕ) (ts : List Tok) (n : ℕ) → one f ts ≡ Err n → Stuck one_at (such Q) one_item k ts n
  one_fault k [] n e = record { before = []; rest = []; parts = refl; left = err_is 0 n e; cause = inl (record { alive = one_alive k; local = λ m other le same. one_nothing k m other le same }) }
  one_fault k (t ∷ ts) n e =
      let o = one_err (f t) ts (length (t ∷ ts)) n e in
      record { before = []; rest = t ∷ ts; parts = refl; left = o.1; cause = inl (record { alive = one_alive k; local = λ m other le same. one_wrong k m t ts other o.0 le same }) }

  pub one_rule : Rule one_at as_it_is (such Q) one_item never
  one_rule = record { found = one_found; only = one_only; fault = one_fault; wide = λ k m x le q. q; some = one_alive }

-- ---- one part behind the other

abbrev pub then_at : {A B : Type 0} → (ℕ → List Tok → Read A) → (A → ℕ → List Tok → Read B) → ℕ → List Tok → Read B
then_at p q k ts = p k ts >>= λ x. q x.0 k x.1

module _ {A B X Y : Type 0} (p : ℕ → List Tok → Read A) (v : X → A) (ok : ℕ → X → Type 0) (is : X → List Item) (g : Tok → Bool)
    (q : A → ℕ → List Tok → Read B) (w : A → Y → B) (ok' : A → ℕ → Y → Type 0) (js : Y → List Item) (h : Tok → Bool) where
  abbrev pub both_value : (X × Y) → B
  both_value z = w (v z.0) z.1

  abbrev pub both_fit : ℕ → (X × Y) → Type 0
  both_fit k z = ok k z.0 × ok' (v z.0) k z.1

  abbrev pub both_items : (X × Y) → List Item
  both_items z = is z.0 ++ js z.1

  -- what begins the second part begins the whole, behind a first part
  alive_then : (k : ℕ) (x : X) (front before : List Tok) → ok k x → Spells (is x) front → Alive (ok' (v x)) js k before → Alive both_fit both_items k (front ++ before)
  alive_then k x front before fits s a = record {
    witness = (x, a.witness);
    more = a.more;
    real = a.real;
    fits = (fits, a.fits);
    spelled = subst (Spells (is x ++ js a.witness)) (sym (append_assoc front before a.more)) (spells_both (is x) (js a.witness) front (before ++ a.more) s a.spelled);
  }

  alive_first : (k : ℕ) (before : List Tok) (a : Alive ok is k before) → Alive (ok' (v a.witness)) js k [] → Alive both_fit both_items k before
  alive_first k before a b = record {
    witness = (a.witness, b.witness);
    more = a.more ++ b.more;
    real = all_both IsReal a.more b.more a.real b.real;
    fits = (a.fits, b.fits);
    spelled = subst (Spells (is a.witness ++ js b.witness)) (append_assoc before a.more b.more) (spells_both (is a.witness) (js b.witness) (before ++ a.more) b.more a.spelled b.spelled);
  }

  module _ (R : Rule p v ok is g) (Q : (a : A) → Rule (q a) (w a) (ok' a) js h) (follow : (y : Y) → Leads g (js y)) where
    then_found : (k : ℕ) (ts : List Tok) (b : B) (rest : List Tok) → then_at p q k ts ≡ Ok (b, rest) → Found (then_at p q) both_value both_fit both_items k ts b rest
    then_found k ts b rest e =
        let r = bind_ok (p k ts) (λ x. q x.0 k x.1) (b, rest) e in
        let f = R.found k ts r.value.0 r.value.1 r.first in
        let s = (Q r.value.0).found k r.value.1 b rest r.then_ in
        record {
          witness = (f.witness, s.witness);
          front = f.front ++ s.front;
          parts = f.parts ∙ ap (λ (t : List Tok). f.front ++ t) s.parts ∙ sym (append_assoc f.front s.front rest);
          is = ap (λ a. w a s.witness) f.is ∙ s.is;
          fits = (f.fits, subst (λ a. ok' a k s.witness) (sym f.is) s.fits);
          spelled = spells_both (is f.witness) (js s.witness) f.front s.front f.spelled s.spelled;
          local = λ m other le same.
              let here : p m (f.front ++ (s.front ++ other)) ≡ Ok (r.value.0, s.front ++ other) = f.local m (s.front ++ other) le (ap first s.parts ∙ same_first s.front rest other same) in
              rw (append_assoc f.front s.front other, here) (s.local m other le same);
        }

    then_only : (k : ℕ) (z : X × Y) (front rest : List Tok) → both_fit k z → Spells (both_items z) front → starts (λ t. g t || h t) rest ≡ false → then_at p q k (front ++ rest) ≡ Ok (both_value z, rest)
    then_only k z front rest fits s stops =
        let c = spells_split (is z.0) (js z.1) front s in
        let st = starts_any g h rest stops in
        let here : p k (c.front ++ (c.back ++ rest)) ≡ Ok (v z.0, c.back ++ rest) = R.only k z.0 c.front (c.back ++ rest) fits.0 c.first (stops_before g (js z.1) c.back rest (follow z.1) c.then_ st.0) in
        rw (c.parts, append_assoc c.front c.back rest, here) ((Q (v z.0)).only k z.1 c.back rest fits.1 c.then_ st.1)

    -- the first part fails
    then_fault_first : (k : ℕ) (ts : List Tok) (n : ℕ) → p k ts ≡ Err n → Stuck (then_at p q) both_fit both_items k ts n
    then_fault_first k ts n e =
        let s = R.fault k ts n e in record {
          before = s.before;
          rest = s.rest;
          parts = s.parts;
          left = s.left;
          cause = elim s.cause [
            | inl off ↦ inl (record {
              alive = alive_first k s.before off.alive (some_then off.alive.witness k);
              local = λ m other le same. rw (off.local m other le same) refl;
            })
            | inr over ↦ inr (record {
              past = record {
                front = over.past.front;
                last = over.past.last;
                parts = over.past.parts;
                within = alive_first k over.past.front over.past.within (some_then over.past.within.witness k);
                slack = over.past.slack;
                beyond = alive_first over.past.slack s.before over.past.beyond (some_then over.past.beyond.witness over.past.slack);
              };
              local = λ other. rw (over.local other) refl;
            })
          ];
        }
      where
        some_then : (x : X) (k : ℕ) → Alive (ok' (v x)) js k []
        some_then x k = (Q (v x)).some k

    -- the second part fails
    then_fault_second : (k : ℕ) (ts : List Tok) (n : ℕ) → BindErr (p k ts) (λ x. q x.0 k x.1) n → Stuck (then_at p q) both_fit both_items k ts n
    then_fault_second k ts n r =
        let f = R.found k ts r.value.0 r.value.1 r.first in
        let s = (Q r.value.0).fault k r.value.1 n r.then_ in
        record {
          before = f.front ++ s.before;
          rest = s.rest;
          parts = f.parts ∙ ap (λ (t : List Tok). f.front ++ t) s.parts ∙ sym (append_assoc f.front s.before s.rest);
          left = s.left;
          cause = elim s.cause [
            | inl off ↦ inl (record {
              alive = alive_then k f.witness f.front s.before f.fits f.spelled (there k s.before f.witness f.is off.alive);
              local = λ m other le same.
                  let here : p m (f.front ++ (s.before ++ other)) ≡ Ok (r.value.0, s.before ++ other) = f.local m (s.before ++ other) le (ap first s.parts ∙ same_first s.before s.rest other same) in
                  rw (append_assoc f.front s.before other, here) (off.local m other le same);
            })
            | inr over ↦ inr (record {
              past = record {
                front = f.front ++ over.past.front;
                last = over.past.last;
                parts = ap (λ (t : List Tok). f.front ++ t) over.past.parts ∙ sym (append_assoc f.front over.past.front (over.past.last ∷ []));
                within = alive_then k f.witness f.front over.past.front f.fits f.spelled (there k over.past.front f.witness f.is over.past.within);
                slack = max k over.past.slack;
                beyond = alive_then (max k over.past.slack) f.witness f.front s.before (R.wide k (max k over.past.slack) f.witness (omega arith) f.fits) f.spelled
                    (there (max k over.past.slack) s.before f.witness f.is (wider_alive over.past.slack (max k over.past.slack) s.before (omega arith) over.past.beyond));
              };
              local = λ other.
                  let same : first r.value.1 ≡ first (s.before ++ other) = ap first s.parts ∙ ap (λ (b : List Tok). first (b ++ s.rest)) over.past.parts ∙ ends_alike over.past.front over.past.last s.rest other ∙ sym (ap (λ (b : List Tok). first (b ++ other)) over.past.parts) in
                  let here : p k (f.front ++ (s.before ++ other)) ≡ Ok (r.value.0, s.before ++ other) = f.local k (s.before ++ other) (omega arith) same in
                  rw (append_assoc f.front s.before other, here) (over.local other);
            })
          ];
        }
      where
        there : (k : ℕ) (before : List Tok) (x : X) → v x ≡ r.value.0 → Alive (ok' r.value.0) js k before → Alive (ok' (v x)) js k before
        there k before x e a = subst (λ b. Alive (ok' b) js k before) (sym e) a

        wider_alive : (k m : ℕ) (before : List Tok) → k ≤ m → Alive (ok' r.value.0) js k before → Alive (ok' r.value.0) js m before
        wider_alive k m before le a = record { witness = a.witness; more = a.more; real = a.real; fits = (Q r.value.0).wide k m a.witness le a.fits; spelled = a.spelled }

        ends_alike : (front : List Tok) (last : Tok) (x y : List Tok) → first ((front ++ last ∷ []) ++ x) ≡ first ((front ++ last ∷ []) ++ y)
        ends_alike [] last x y = refl
        ends_alike (t ∷ front) last x y = refl

    pub then_rule : Rule (then_at p q) both_value both_fit both_items (λ t. g t || h t)
    then_rule = record {
      found = then_found;
      only = then_only;
      fault = λ k ts n e. elim (bind_err (p k ts) (λ x. q x.0 k x.1) n e) [ inl h ↦ then_fault_first k ts n h | inr r ↦ then_fault_second k ts n r ];
      wide = λ k m z le fits. (R.wide k m z.0 le fits.0, (Q (v z.0)).wide k m z.1 le fits.1);
      some = λ k. alive_first k [] (R.some k) ((Q (v (R.some k).witness)).some k);
    }

    -- where the second part isn't nothing, what goes on with the first doesn't go on with the whole
    full_only : ((y : Y) → HasSome (js y)) → (k : ℕ) (z : X × Y) (front rest : List Tok) → both_fit k z → Spells (both_items z) front → starts h rest ≡ false → then_at p q k (front ++ rest) ≡ Ok (both_value z, rest)
    full_only full k z front rest fits s stops =
        let c = spells_split (is z.0) (js z.1) front s in
        let here : p k (c.front ++ (c.back ++ rest)) ≡ Ok (v z.0, c.back ++ rest) = R.only k z.0 c.front (c.back ++ rest) fits.0 c.first (stops_full g (js z.1) c.back rest (follow z.1) (full z.1) c.then_) in
        rw (c.parts, append_assoc c.front c.back rest, here) ((Q (v z.0)).only k z.1 c.back rest fits.1 c.then_ stops)

    pub full_rule : ((y : Y) → HasSome (js y)) → Rule (then_at p q) both_value both_fit both_items h
    full_rule full = record { found = then_rule.found; only = full_only full; fault = then_rule.fault; wide = then_rule.wide; some = then_rule.some }

-- ---- a value made of another

abbrev pub made_at : {A B : Type 0} → (A → B) → (ℕ → List Tok → Read A) → ℕ → List Tok → Read B
made_at f p k ts = p k ts >>= λ x. Ok (f x.0, x.1)

module _ {A B X : Type 0} (f : A → B) (p : ℕ → List Tok → Read A) (v : X → A) (ok : ℕ → X → Type 0) (is : X → List Item) (g : Tok → Bool) (R : Rule p v ok is g) where
  made_found : (k : ℕ) (ts : List Tok) (b : B) (rest : List Tok) → made_at f p k ts ≡ Ok (b, rest) → Found (made_at f p) (λ x. f (v x)) ok is k ts b rest
  made_found k ts b rest e =
      let r = bind_ok (p k ts) (λ x. okay (f x.0) x.1) (b, rest) e in
      let parts = ok_parts (f r.value.0) b r.value.1 rest r.then_ in
      let l = R.found k ts r.value.0 r.value.1 r.first in
      record {
        witness = l.witness;
        front = l.front;
        parts = l.parts ∙ ap (λ (t : List Tok). l.front ++ t) parts.1;
        is = ap f l.is ∙ parts.0;
        fits = l.fits;
        spelled = l.spelled;
        local = λ m other le same. rw (l.local m other le (ap first parts.1 ∙ same)) (ap (λ b. okay b other) parts.0);
      }

  made_fault : (k : ℕ) (ts : List Tok) (n : ℕ) → made_at f p k ts ≡ Err n → Stuck (made_at f p) ok is k ts n
  made_fault k ts n e = elim (bind_err (p k ts) (λ x. okay (f x.0) x.1) n e) [ inl h ↦ fails h | inr r ↦ absurd (let h : okay (f r.value.0) r.value.1 ≡ Err n = r.then_ in cc) ]
    where
      fails : p k ts ≡ Err n → Stuck (made_at f p) ok is k ts n
      fails h =
          let s = R.fault k ts n h in record {
            before = s.before;
            rest = s.rest;
            parts = s.parts;
            left = s.left;
            cause = elim s.cause [
              | inl off ↦ inl (record { alive = off.alive; local = λ m other le same. rw (off.local m other le same) refl })
              | inr over ↦ inr (record { past = over.past; local = λ other. rw (over.local other) refl })
            ];
          }

  pub made_rule : Rule (made_at f p) (λ x. f (v x)) ok is g
  made_rule = record {
    found = made_found;
    only = λ k x front rest fits s stops. rw (R.only k x front rest fits s stops) refl;
    fault = made_fault;
    wide = R.wide;
    some = R.some;
  }

-- ---- a language in other words

module _ {A X Y : Type 0} (p : ℕ → List Tok → Read A) (v : X → A) (ok : ℕ → X → Type 0) (is : X → List Item) (w : Y → A) (ok' : ℕ → Y → Type 0) (js : Y → List Item) (g : Tok → Bool)
    (R : Rule p v ok is g) (to : X → Y) (to_value : (x : X) → w (to x) ≡ v x) (to_fits : (k : ℕ) (x : X) → ok k x → ok' k (to x)) (to_items : (k : ℕ) (x : X) → ok k x → js (to x) ≡ is x)
    (back : (k : ℕ) (y : Y) → ok' k y → (x : X) × (to x ≡ y) × ok k x) where
  to_alive : (k : ℕ) (before : List Tok) → Alive ok is k before → Alive ok' js k before
  to_alive k before a = record {
    witness = to a.witness;
    more = a.more;
    real = a.real;
    fits = to_fits k a.witness a.fits;
    spelled = subst (λ i. Spells i (before ++ a.more)) (sym (to_items k a.witness a.fits)) a.spelled;
  }

  said_only : (k : ℕ) (y : Y) (front rest : List Tok) → ok' k y → Spells (js y) front → starts g rest ≡ false → p k (front ++ rest) ≡ Ok (w y, rest)
  said_only k y front rest fits s stops =
      let b = back k y fits in
      let spelled : Spells (is b.0) front = subst (λ i. Spells i front) (ap js (sym b.1) ∙ to_items k b.0 b.2) s in
      R.only k b.0 front rest b.2 spelled stops ∙ ap (λ a. okay a rest) (sym (to_value b.0) ∙ ap w b.1)

  said_wide : (k m : ℕ) (y : Y) → k ≤ m → ok' k y → ok' m y
  said_wide k m y le fits = let b = back k y fits in subst (ok' m) b.1 (to_fits m b.0 (R.wide k m b.0 le b.2))

  said_fault : (k : ℕ) (ts : List Tok) (n : ℕ) → p k ts ≡ Err n → Stuck p ok' js k ts n
  said_fault k ts n e =
      let s = R.fault k ts n e in record {
        before = s.before;
        rest = s.rest;
        parts = s.parts;
        left = s.left;
        cause = elim s.cause [
          | inl off ↦ inl (record { alive = to_alive k s.before off.alive; local = off.local })
          | inr over ↦ inr (record {
            past = record {
              front = over.past.front;
              last = over.past.last;
              parts = over.past.parts;
              within = to_alive k over.past.front over.past.within;
              slack = over.past.slack;
              beyond = to_alive over.past.slack s.before over.past.beyond;
            };
            local = over.local;
          })
        ];
      }

  pub said : Rule p w ok' js g
  said = record {
    found = λ k ts a rest e.
        let f = R.found k ts a rest e in record {
          witness = to f.witness;
          front = f.front;
          parts = f.parts;
          is = to_value f.witness ∙ f.is;
          fits = to_fits k f.witness f.fits;
          spelled = subst (λ i. Spells i f.front) (sym (to_items k f.witness f.fits)) f.spelled;
          local = f.local;
        };
    only = said_only;
    fault = said_fault;
    wide = said_wide;
    some = λ k. to_alive k [] (R.some k);
  }

-- ---- one of two

abbrev pub branch_at : {A : Type 0} → (Tok → Bool) → (ℕ → List Tok → Read A) → (ℕ → List Tok → Read A) → ℕ → List Tok → Read A
branch_at f p q k ts = if starts f ts then p k ts else q k ts

abbrev pub either : {X Y Z : Type 0} → (X → Z) → (Y → Z) → (X ⊎ Y) → Z
either a b (inl x) = a x
either a b (inr y) = b y

abbrev pub either_fits : {X Y : Type 0} → (ℕ → X → Type 0) → (ℕ → Y → Type 0) → ℕ → (X ⊎ Y) → Type 0
either_fits a b k (inl x) = a k x
either_fits a b k (inr y) = b k y

heads_starts : (f : Tok → Bool) (is : List Item) (front rest : List Tok) → Heads f is → Spells is front → starts f (front ++ rest) ≡ true
heads_starts f [] front rest h s = absurd h
heads_starts f (i ∷ is) [] rest h s = absurd s
heads_starts f (i ∷ is) (t ∷ front) rest h s = h t s.0

module _ {A X Y : Type 0} (f : Tok → Bool) (p : ℕ → List Tok → Read A) (v : X → A) (ok : ℕ → X → Type 0) (is : X → List Item) (g : Tok → Bool)
    (q : ℕ → List Tok → Read A) (w : Y → A) (ok' : ℕ → Y → Type 0) (js : Y → List Item) (h : Tok → Bool) (either_g : Tok → Bool) where
  left_alive : (k : ℕ) (before : List Tok) → Alive ok is k before → Alive (either_fits ok ok') (either is js) k before
  left_alive k before a = record { witness = inl a.witness; more = a.more; real = a.real; fits = a.fits; spelled = a.spelled }

  right_alive : (k : ℕ) (before : List Tok) → Alive ok' js k before → Alive (either_fits ok ok') (either is js) k before
  right_alive k before a = record { witness = inr a.witness; more = a.more; real = a.real; fits = a.fits; spelled = a.spelled }

  branch_here : (k : ℕ) (ts : List Tok) (b : Bool) → starts f ts ≡ b → branch_at f p q k ts ≡ cond b (p k ts) (q k ts)
  branch_here k ts b e = ap (λ (c : Bool). cond c (p k ts) (q k ts)) e

  starts_alike : (ts front rest other : List Tok) (b : Bool) → ts ≡ front ++ rest → first rest ≡ first other → starts f ts ≡ b → starts f (front ++ other) ≡ b
  starts_alike ts front rest other b parts same e = sym (starts_same f (front ++ rest) (front ++ other) (same_first front rest other same)) ∙ ap (starts f) (sym parts) ∙ e

  module _ (R : Rule p v ok is g) (Q : Rule q w ok' js h) (heads : (x : X) → Heads f (is x)) (tails : (y : Y) → Leads f (js y))
      (stop_first : (rest : List Tok) → starts either_g rest ≡ false → starts g rest ≡ false)
      (stop_second : (rest : List Tok) → starts either_g rest ≡ false → starts h rest ≡ false)
      (stop_empty : (y : Y) (rest : List Tok) → js y ≡ [] → starts either_g rest ≡ false → starts f rest ≡ false) where
    second_starts : (y : Y) (is : List Item) (front rest : List Tok) → js y ≡ is → Leads f is → Spells is front → starts either_g rest ≡ false → starts f (front ++ rest) ≡ false
    second_starts y [] [] rest e l s stops = stop_empty y rest e stops
    second_starts y [] (t ∷ front) rest e l s stops = absurd s
    second_starts y (i ∷ is) [] rest e l s stops = absurd s
    second_starts y (i ∷ is) (t ∷ front) rest e l s stops = l t s.0

    branch_found : (k : ℕ) (ts : List Tok) (a : A) (rest : List Tok) (b : Bool) → starts f ts ≡ b → cond b (p k ts) (q k ts) ≡ Ok (a, rest) → Found (branch_at f p q) (either v w) (either_fits ok ok') (either is js) k ts a rest
    branch_found k ts a rest true e r =
        let l = R.found k ts a rest r in record {
          witness = inl l.witness;
          front = l.front;
          parts = l.parts;
          is = l.is;
          fits = l.fits;
          spelled = l.spelled;
          local = λ m other le same. branch_here m (l.front ++ other) true (starts_alike ts l.front rest other true l.parts same e) ∙ l.local m other le same;
        }
    branch_found k ts a rest false e r =
        let l = Q.found k ts a rest r in record {
          witness = inr l.witness;
          front = l.front;
          parts = l.parts;
          is = l.is;
          fits = l.fits;
          spelled = l.spelled;
          local = λ m other le same. branch_here m (l.front ++ other) false (starts_alike ts l.front rest other false l.parts same e) ∙ l.local m other le same;
        }

    branch_only : (k : ℕ) (z : X ⊎ Y) (front rest : List Tok) → either_fits ok ok' k z → Spells (either is js z) front → starts either_g rest ≡ false → branch_at f p q k (front ++ rest) ≡ Ok (either v w z, rest)
    branch_only k (inl x) front rest fits s stops = branch_here k (front ++ rest) true (heads_starts f (is x) front rest (heads x) s) ∙ R.only k x front rest fits s (stop_first rest stops)
    branch_only k (inr y) front rest fits s stops = branch_here k (front ++ rest) false (second_starts y (js y) front rest refl (tails y) s stops) ∙ Q.only k y front rest fits s (stop_second rest stops)

    over_alike : (ts before rest other : List Tok) (b : Bool) (front : List Tok) (last : Tok) → before ≡ front ++ last ∷ [] → ts ≡ before ++ rest → starts f ts ≡ b → starts f (before ++ other) ≡ b
    over_alike ts before rest other b [] last e parts h = ap (λ (x : List Tok). starts f (x ++ other)) e ∙ sym (ap (λ (x : List Tok). starts f (x ++ rest)) e) ∙ sym (ap (starts f) parts) ∙ h
    over_alike ts before rest other b (t ∷ front) last e parts h = ap (λ (x : List Tok). starts f (x ++ other)) e ∙ sym (ap (λ (x : List Tok). starts f (x ++ rest)) e) ∙ sym (ap (starts f) parts) ∙ h

    branch_fault : (k : ℕ) (ts : List Tok) (n : ℕ) (b : Bool) → starts f ts ≡ b → cond b (p k ts) (q k ts) ≡ Err n → Stuck (branch_at f p q) (either_fits ok ok') (either is js) k ts n
    branch_fault k ts n true e r =
        let s = R.fault k ts n r in record {
          before = s.before;
          rest = s.rest;
          parts = s.parts;
          left = s.left;
          cause = elim s.cause [
            | inl off ↦ inl (record {
              alive = left_alive k s.before off.alive;
              local = λ m other le same. branch_here m (s.before ++ other) true (starts_alike ts s.before s.rest other true s.parts same e) ∙ off.local m other le same;
            })
            | inr over ↦ inr (record {
              past = record { front = over.past.front; last = over.past.last; parts = over.past.parts; within = left_alive k over.past.front over.past.within; slack = over.past.slack; beyond = left_alive over.past.slack s.before over.past.beyond };
              local = λ other. branch_here k (s.before ++ other) true (over_alike ts s.before s.rest other true over.past.front over.past.last over.past.parts s.parts e) ∙ over.local other;
            })
          ];
        }
    branch_fault k ts n false e r =
        let s = Q.fault k ts n r in record {
          before = s.before;
          rest = s.rest;
          parts = s.parts;
          left = s.left;
          cause = elim s.cause [
            | inl off ↦ inl (record {
              alive = right_alive k s.before off.alive;
              local = λ m other le same. branch_here m (s.before ++ other) false (starts_alike ts s.before s.rest other false s.parts same e) ∙ off.local m other le same;
            })
            | inr over ↦ inr (record {
              past = record { front = over.past.front; last = over.past.last; parts = over.past.parts; within = right_alive k over.past.front over.past.within; slack = over.past.slack; beyond = right_alive over.past.slack s.before over.past.beyond };
              local = λ other. branch_here k (s.before ++ other) false (over_alike ts s.before s.rest other false over.past.front over.past.last over.past.parts s.parts e) ∙ over.local other;
            })
          ];
        }

    branch_wide : (k m : ℕ) (z : X ⊎ Y) → k ≤ m → either_fits ok ok' k z → either_fits ok ok' m z
    branch_wide k m (inl x) le fits = R.wide k m x le fits
    branch_wide k m (inr y) le fits = Q.wide k m y le fits

    pub branch_rule : Rule (branch_at f p q) (either v w) (either_fits ok ok') (either is js) either_g
    branch_rule = record {
      found = λ k ts a rest e. branch_found k ts a rest (starts f ts) refl e;
      only = branch_only;
      fault = λ k ts n e. branch_fault k ts n (starts f ts) refl e;
      wide = branch_wide;
      some = λ k. right_alive k [] (Q.some k);
    }

-- ---- nothing

abbrev pub here_at : {A : Type 0} → A → ℕ → List Tok → Read A
here_at v k ts = Ok (v, ts)

pub here_rule : {A : Type 0} (v : A) → Rule (here_at v) (λ (u : Unit {0}). v) always (λ u. []) never
here_rule {A = A} v = record {
  found = found;
  only = only;
  fault = λ k ts n e. absurd (let h : okay v ts ≡ Err n = e in cc);
  wide = λ k m x le fits. tt;
  some = λ k. record { witness = tt; more = []; real = tt; fits = tt; spelled = tt };
}
  where
    found : (k : ℕ) (ts : List Tok) (a : A) (rest : List Tok) → here_at v k ts ≡ Ok (a, rest) → Found (here_at v) (λ (u : Unit {0}). v) always (λ u. []) k ts a rest
    found k ts a rest e =
        let parts = ok_parts v a ts rest e in
        record { witness = tt; front = []; parts = parts.1; is = parts.0; fits = tt; spelled = tt; local = λ m other le same. ap (λ b. okay b other) parts.0 }

    only : (k : ℕ) (u : Unit {0}) (front rest : List Tok) → Unit {0} → Spells [] front → starts never rest ≡ false → here_at v k (front ++ rest) ≡ Ok (v, rest)
    only k u [] rest fits s stops = refl
    only k u (t ∷ front) rest fits s stops = absurd s

-- ---- two tokens that tell which of two it is

abbrev pub behind_at : {A : Type 0} → (Tok → Bool) → (Tok → Bool) → (ℕ → List Tok → Read A) → (ℕ → List Tok → Read A) → ℕ → List Tok → Read A
behind_at f g p q k ts = either_way (behind f g ts) (λ rest. p k rest) (q k ts)

-- f and g pass the first two tokens, or they don't
data Pair (f g : Tok → Bool) (ts : List Tok) : Type 0 where
  two : (t u : Tok) (rest : List Tok) → ts ≡ t ∷ u ∷ rest → f t ≡ true → g u ≡ true → Pair f g ts
  less : behind f g ts ≡ None → Pair f g ts

pair_of : (f g : Tok → Bool) (ts : List Tok) → Pair f g ts
pair_of f g [] = less refl
pair_of f g (t ∷ []) = less refl
pair_of f g (t ∷ u ∷ ts) = by (f t) (g u) refl refl
  where
    by : (a b : Bool) → f t ≡ a → g u ≡ b → Pair f g (t ∷ u ∷ ts)
    by true true d e = two t u ts refl d e
    by true false d e = less (rw (d, e) refl)
    by false b d e = less (rw d refl)

pub behind_two : (f g : Tok → Bool) (t u : Tok) (rest : List Tok) → f t ≡ true → g u ≡ true → behind f g (t ∷ u ∷ rest) ≡ Some rest
behind_two f g t u rest d e = rw (d, e) refl

-- no two such tokens: the first isn't, or the second
behind_none : (f g : Tok → Bool) (ts other : List Tok) → first ts ≡ first other → (t : Tok) → behind f g (t ∷ ts) ≡ None → behind f g (t ∷ other) ≡ None
behind_none f g [] [] e t h = refl
behind_none f g [] (u ∷ other) e t h = absurd cc
behind_none f g (u ∷ ts) [] e t h = absurd cc
behind_none f g (u ∷ ts) (v ∷ other) e t h = let same : u ≡ v = cc in by (f t) (g v) refl refl (subst (λ w. behind f g (t ∷ w ∷ ts) ≡ None) same h)
  where
    by : (a b : Bool) → f t ≡ a → g v ≡ b → behind f g (t ∷ v ∷ ts) ≡ None → behind f g (t ∷ v ∷ other) ≡ None
    by true true d e h = absurd (let two : Some ts ≡ None = sym (behind_two f g t v ts d e) ∙ h in cc)
    by true false d e h = rw (d, e) refl
    by false b d e h = rw d refl

abbrev pub IsLong : List Item → Type 0
IsLong [] = ⊥
IsLong (i ∷ []) = ⊥
IsLong (i ∷ j ∷ is) = Unit {0}

module _ {A X Y : Type 0} (f g : Tok → Bool) (c d : Item) (p : ℕ → List Tok → Read A) (v : X → A) (ok : ℕ → X → Type 0) (is : X → List Item) (g₁ : Tok → Bool)
    (q : ℕ → List Tok → Read A) (w : Y → A) (ok' : ℕ → Y → Type 0) (js : Y → List Item) (g₂ : Tok → Bool) where
  abbrev pub called_items : X → List Item
  called_items x = c ∷ d ∷ is x

  called_alive : (k : ℕ) (t u : Tok) (before : List Tok) → IsA c t → IsA d u → Alive ok is k before → Alive (either_fits ok ok') (either called_items js) k (t ∷ u ∷ before)
  called_alive k t u before s s' a = record { witness = inl a.witness; more = a.more; real = a.real; fits = a.fits; spelled = (s, (s', a.spelled)) }

  other_alive : (k : ℕ) (before : List Tok) → Alive ok' js k before → Alive (either_fits ok ok') (either called_items js) k before
  other_alive k before a = record { witness = inr a.witness; more = a.more; real = a.real; fits = a.fits; spelled = a.spelled }

  module _ (R : Rule p v ok is g₁) (Q : Rule q w ok' js g₂) (to_f : (t : Tok) → f t ≡ true → IsA c t) (from_f : (t : Tok) → IsA c t → f t ≡ true) (to_g : (t : Tok) → g t ≡ true → IsA d t) (from_g : (t : Tok) → IsA d t → g t ≡ true)
      (long : (y : Y) → IsLong (js y)) (apart : (y : Y) (t u : Tok) (more : List Tok) → Spells (js y) (t ∷ u ∷ more) → f t ≡ true → g u ≡ true → ⊥) (alone : (k : ℕ) (t : Tok) → f t ≡ true → Alive ok' js k (t ∷ [])) where
    behind_stays : (front rest other : List Tok) → first rest ≡ first other → (is : List Item) → IsLong is → Spells is front → behind f g (front ++ rest) ≡ None → behind f g (front ++ other) ≡ None
    behind_stays [] rest other same [] l s h = absurd l
    behind_stays [] rest other same (i ∷ is) l s h = absurd s
    behind_stays (t ∷ front) rest other same is l s h = behind_none f g (front ++ rest) (front ++ other) (same_first front rest other same) t h

    none_here : (k : ℕ) (ts : List Tok) → behind f g ts ≡ None → behind_at f g p q k ts ≡ q k ts
    none_here k ts h = rw h refl

    two_here : (k : ℕ) (t u : Tok) (rest : List Tok) → f t ≡ true → g u ≡ true → behind_at f g p q k (t ∷ u ∷ rest) ≡ p k rest
    two_here k t u rest a b = rw (behind_two f g t u rest a b) refl

    behind_found : (k : ℕ) (ts : List Tok) (a : A) (rest : List Tok) → Pair f g ts → behind_at f g p q k ts ≡ Ok (a, rest) → Found (behind_at f g p q) (either v w) (either_fits ok ok') (either called_items js) k ts a rest
    behind_found k ts a rest (two t u r e ft gu) h =
        let l = R.found k r a rest (sym (two_here k t u r ft gu) ∙ ap (behind_at f g p q k) (sym e) ∙ h) in record {
          witness = inl l.witness;
          front = t ∷ u ∷ l.front;
          parts = e ∙ ap (λ (x : List Tok). t ∷ u ∷ x) l.parts;
          is = l.is;
          fits = l.fits;
          spelled = (to_f t ft, (to_g u gu, l.spelled));
          local = λ m other le same. two_here m t u (l.front ++ other) ft gu ∙ l.local m other le same;
        }
    behind_found k ts a rest (less n) h =
        let l = Q.found k ts a rest (sym (none_here k ts n) ∙ h) in record {
          witness = inr l.witness;
          front = l.front;
          parts = l.parts;
          is = l.is;
          fits = l.fits;
          spelled = l.spelled;
          local = λ m other le same. none_here m (l.front ++ other) (behind_stays l.front rest other same (js l.witness) (long l.witness) l.spelled (ap (behind f g) (sym l.parts) ∙ n)) ∙ l.local m other le same;
        }

    not_two : (y : Y) (is : List Item) (front rest : List Tok) → js y ≡ is → IsLong is → Spells is front → behind f g (front ++ rest) ≡ None
    not_two y [] front rest e l s = absurd l
    not_two y (i ∷ []) front rest e l s = absurd l
    not_two y (i ∷ j ∷ is) [] rest e l s = absurd s
    not_two y (i ∷ j ∷ is) (t ∷ []) rest e l s = absurd s.1
    not_two y (i ∷ j ∷ is) (t ∷ u ∷ front) rest e l s = by (pair_of f g (t ∷ u ∷ (front ++ rest)))
      where
        by : Pair f g (t ∷ u ∷ (front ++ rest)) → behind f g (t ∷ u ∷ (front ++ rest)) ≡ None
        by (less n) = n
        by (two t' u' r e' ft gu) = let st : t ≡ t' = cc in let su : u ≡ u' = cc in absurd (apart y t u front (subst (λ i. Spells i (t ∷ u ∷ front)) (sym e) s) (ap f st ∙ ft) (ap g su ∙ gu))

    behind_only : (k : ℕ) (z : X ⊎ Y) (front rest : List Tok) → either_fits ok ok' k z → Spells (either called_items js z) front → starts (λ t. g₁ t || g₂ t) rest ≡ false → behind_at f g p q k (front ++ rest) ≡ Ok (either v w z, rest)
    behind_only k (inl x) [] rest fits s stops = absurd s
    behind_only k (inl x) (t ∷ []) rest fits s stops = absurd s.1
    behind_only k (inl x) (t ∷ u ∷ front) rest fits s stops = two_here k t u (front ++ rest) (from_f t s.0) (from_g u s.1.0) ∙ R.only k x front rest fits s.1.1 (starts_any g₁ g₂ rest stops).0
    behind_only k (inr y) front rest fits s stops = none_here k (front ++ rest) (not_two y (js y) front rest refl (long y) s) ∙ Q.only k y front rest fits s (starts_any g₁ g₂ rest stops).1

    -- a fault of the other reader at the first token isn't at a token that f passes
    not_first : (k : ℕ) (ts : List Tok) (off : Off q ok' js k [] ts) (t : Tok) → first ts ≡ Some t → f t ≡ true → ⊥
    not_first k ts off t e ft =
        let a = alone k t ft in
        let good : q k ((t ∷ a.more) ++ []) ≡ Ok (w a.witness, []) = Q.only k a.witness (t ∷ a.more) [] a.fits a.spelled refl in
        let bad : q k (t ∷ a.more) ≡ Err (length (t ∷ a.more)) = off.local k (t ∷ a.more) (omega arith) e in
        let same : (t ∷ a.more) ++ [] ≡ t ∷ a.more = append-nil (t ∷ a.more) in
        let clash : okay (w a.witness) [] ≡ Err (length (t ∷ a.more)) = sym good ∙ ap (q k) same ∙ bad in cc

    off_none : (k : ℕ) (ts before rest : List Tok) → ts ≡ before ++ rest → behind f g ts ≡ None → Off q ok' js k before rest → (other : List Tok) → first rest ≡ first other → behind f g (before ++ other) ≡ None
    off_none k ts [] rest parts n off other same = by (pair_of f g other)
      where
        by : Pair f g other → behind f g other ≡ None
        by (less m) = m
        by (two t u r e ft gu) = absurd (not_first k rest off t (same ∙ ap first e) ft)
    off_none k ts (t ∷ before) rest parts n off other same = behind_none f g (before ++ rest) (before ++ other) (same_first before rest other same) t (ap (behind f g) (sym parts) ∙ n)

    ends_same : (front : List Tok) (last : Tok) (x y : List Tok) → first ((front ++ last ∷ []) ++ x) ≡ first ((front ++ last ∷ []) ++ y)
    ends_same [] last x y = refl
    ends_same (t ∷ front) last x y = refl

    -- nor is a limit passed there
    not_over : (k : ℕ) (t : Tok) → f t ≡ true → ((other : List Tok) → q k (t ∷ other) ≡ Err (length other)) → ⊥
    not_over k t ft local =
        let a = alone k t ft in
        let good : q k ((t ∷ a.more) ++ []) ≡ Ok (w a.witness, []) = Q.only k a.witness (t ∷ a.more) [] a.fits a.spelled refl in
        let same : (t ∷ a.more) ++ [] ≡ t ∷ a.more = append-nil (t ∷ a.more) in
        let clash : okay (w a.witness) [] ≡ Err (length a.more) = sym good ∙ ap (q k) same ∙ local a.more in cc

    over_none : (ts rest other front : List Tok) (last : Tok) (k : ℕ) → ts ≡ (front ++ last ∷ []) ++ rest → behind f g ts ≡ None
        → ((other : List Tok) → q k ((front ++ last ∷ []) ++ other) ≡ Err (length other)) → behind f g ((front ++ last ∷ []) ++ other) ≡ None
    over_none ts rest other [] last k parts n local = by (pair_of f g (last ∷ other))
      where
        by : Pair f g (last ∷ other) → behind f g (last ∷ other) ≡ None
        by (less m) = m
        by (two t u r e ft gu) = let same : last ≡ t = cc in absurd (not_over k last (ap f same ∙ ft) local)
    over_none ts rest other (t ∷ front) last k parts n local = behind_none f g ((front ++ last ∷ []) ++ rest) ((front ++ last ∷ []) ++ other) (ends_same front last rest other) t (ap (behind f g) (sym parts) ∙ n)

    behind_fault : (k : ℕ) (ts : List Tok) (n : ℕ) → Pair f g ts → behind_at f g p q k ts ≡ Err n → Stuck (behind_at f g p q) (either_fits ok ok') (either called_items js) k ts n
    behind_fault k ts n (two t u r e ft gu) h =
        let s = R.fault k r n (sym (two_here k t u r ft gu) ∙ ap (behind_at f g p q k) (sym e) ∙ h) in record {
          before = t ∷ u ∷ s.before;
          rest = s.rest;
          parts = e ∙ ap (λ (x : List Tok). t ∷ u ∷ x) s.parts;
          left = s.left;
          cause = elim s.cause [
            | inl off ↦ inl (record {
              alive = called_alive k t u s.before (to_f t ft) (to_g u gu) off.alive;
              local = λ m other le same. two_here m t u (s.before ++ other) ft gu ∙ off.local m other le same;
            })
            | inr over ↦ inr (record {
              past = record {
                front = t ∷ u ∷ over.past.front;
                last = over.past.last;
                parts = ap (λ (x : List Tok). t ∷ u ∷ x) over.past.parts;
                within = called_alive k t u over.past.front (to_f t ft) (to_g u gu) over.past.within;
                slack = over.past.slack;
                beyond = called_alive over.past.slack t u s.before (to_f t ft) (to_g u gu) over.past.beyond;
              };
              local = λ other. two_here k t u (s.before ++ other) ft gu ∙ over.local other;
            })
          ];
        }
    behind_fault k ts n (less m) h =
        let s = Q.fault k ts n (sym (none_here k ts m) ∙ h) in record {
          before = s.before;
          rest = s.rest;
          parts = s.parts;
          left = s.left;
          cause = elim s.cause [
            | inl off ↦ inl (record {
              alive = other_alive k s.before off.alive;
              local = λ l other le same. none_here l (s.before ++ other) (off_none k ts s.before s.rest s.parts m off other same) ∙ off.local l other le same;
            })
            | inr over ↦ inr (record {
              past = record { front = over.past.front; last = over.past.last; parts = over.past.parts; within = other_alive k over.past.front over.past.within; slack = over.past.slack; beyond = other_alive over.past.slack s.before over.past.beyond };
              local = λ other.
                  let none : behind f g ((over.past.front ++ over.past.last ∷ []) ++ other) ≡ None =
                  over_none ts s.rest other over.past.front over.past.last k (s.parts ∙ ap (λ (b : List Tok). b ++ s.rest) over.past.parts) m
                  (λ o. ap (λ (b : List Tok). q k (b ++ o)) (sym over.past.parts) ∙ over.local o) in
                  none_here k (s.before ++ other) (ap (λ (b : List Tok). behind f g (b ++ other)) over.past.parts ∙ none) ∙ over.local other;
            })
          ];
        }

    behind_wide : (k m : ℕ) (z : X ⊎ Y) → k ≤ m → either_fits ok ok' k z → either_fits ok ok' m z
    behind_wide k m (inl x) le fits = R.wide k m x le fits
    behind_wide k m (inr y) le fits = Q.wide k m y le fits

    pub behind_rule : Rule (behind_at f g p q) (either v w) (either_fits ok ok') (either called_items js) (λ t. g₁ t || g₂ t)
    behind_rule = record {
      found = λ k ts a rest e. behind_found k ts a rest (pair_of f g ts) e;
      only = behind_only;
      fault = λ k ts n e. behind_fault k ts n (pair_of f g ts) e;
      wide = behind_wide;
      some = λ k. other_alive k [] (Q.some k);
    }
