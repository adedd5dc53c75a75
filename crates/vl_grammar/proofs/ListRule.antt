-- The law of a list: of its members, with a separator between two.
use Rattle.std.proofs.Common.{◌≡◌, ◌≤◌, ◌<◌, ◌+◌, ℕ, zero, suc, max, Bool, true, false, ◌||◌, List, [], ◌∷◌, ◌++◌, length, Some, None, Ok, Err, refl, sym, ap, subst, ◌∙◌, inl, inr, ◌⊎◌, append_assoc, arith}
use Rattle.std.specs.List.{AllByRecursion}
use Rattle.std.proofs.lemmas.List.{append-nil, length-append}
use Rattle.vl_token.specs.Tok.{Tok}
use Rattle.vl_grammar.specs.Item.{Item, IsA, Spells, joined}
use Rattle.vl_grammar.specs.Lists.{HasSome, UpTo, AllInTurn}
use Rattle.vl_grammar.specs.Reading.{Read, starts, behind_one, go_on, items}
use Rattle.vl_grammar.proofs.Loop.{items_step, items_none}
use Rattle.vl_grammar.proofs.Spelling.{spells_both, Splits, spells_split, starts_any, okay, ok_parts, bind_ok, bind_err, err_is}
use Rattle.vl_grammar.proofs.Rule.{IsReal, first, Alive, Found, Past, Stuck, Rule, as_it_is}

-- a separator is there, or not
pub data Sep (sep : Tok → Bool) (ts : List Tok) : Type 0 where
  there : (t : Tok) (rest : List Tok) → ts ≡ t ∷ rest → sep t ≡ true → Sep sep ts
  absent : starts sep ts ≡ false → Sep sep ts

pub sep_of : (sep : Tok → Bool) (ts : List Tok) → Sep sep ts
sep_of sep [] = absent refl
sep_of sep (t ∷ ts) = by (sep t) refl
  where
    by : (b : Bool) → sep t ≡ b → Sep sep (t ∷ ts)
    by true e = there t ts refl e
    by false e = absent e

behind_there : (sep : Tok → Bool) (t : Tok) (rest : List Tok) → sep t ≡ true → behind_one sep (t ∷ rest) ≡ Some rest
behind_there sep t rest e = rw e refl

behind_absent : (sep : Tok → Bool) (ts : List Tok) → starts sep ts ≡ false → behind_one sep ts ≡ None
behind_absent sep [] e = refl
behind_absent sep (t ∷ ts) e = rw e refl

starts_alike : (sep : Tok → Bool) (r s : List Tok) → first r ≡ first s → starts sep r ≡ false → starts sep s ≡ false
starts_alike sep [] [] e h = refl
starts_alike sep [] (t ∷ s) e h = absurd cc
starts_alike sep (t ∷ r) [] e h = absurd cc
starts_alike sep (t ∷ r) (u ∷ s) e h = let same : t ≡ u = cc in ap sep (sym same) ∙ h

-- the items of a list with one more in front
joined_more : {A : Type 0} (c : Item) (f : A → List Item) (a : A) (xs : List A) → HasSome xs → joined c f (a ∷ xs) ≡ f a ++ c ∷ joined c f xs
joined_more c f a [] h = absurd h
joined_more c f a (b ∷ xs) h = refl

module _ {A : Type 0} (item : List A → ℕ → List Tok → Read A) (P : ℕ → List A → A → Type 0) (it : A → List Item) (g : Tok → Bool) (sep : Tok → Bool) (c : Item) where
  -- the list of the slack k with limit n, behind the members before
  abbrev pub list_at : ℕ → ℕ → List A → List Tok → Read (List A)
  list_at k n before ts = items sep (λ b rest. item b k rest) n before ts

  pub record IsList (n k : ℕ) (before xs : List A) : Type 0 where
    pub some : HasSome xs
    pub within : length xs ≤ n
    pub each : AllInTurn (P k) before xs

  pub record ListAlive (n k : ℕ) (before : List A) (ts : List Tok) : Type 0 where
    pub xs : List A
    pub more : List Tok
    pub real : AllByRecursion IsReal more
    pub fits : IsList n k before xs
    pub spelled : Spells (joined c it xs) (ts ++ more)

  pub record ListFound (n k : ℕ) (before : List A) (ts : List Tok) (all : List A) (rest : List Tok) : Type 0 where
    pub xs : List A
    pub front : List Tok
    pub parts : ts ≡ front ++ rest
    pub is : before ++ xs ≡ all
    pub fits : IsList n k before xs
    pub spelled : Spells (joined c it xs) front
    pub local : (m n' : ℕ) (other : List Tok) → k ≤ m → n ≤ n' → first rest ≡ first other → list_at m n' before (front ++ other) ≡ Ok (all, other)

  module _ (R : (before : List A) → Rule (item before) as_it_is (λ k a. P k before a) it g) (is_sep : (t : Tok) → sep t ≡ true → IsA c t) (from_sep : (t : Tok) → IsA c t → sep t ≡ true)
      (free : (t : Tok) → sep t ≡ true → g t ≡ false) (full : (a : A) → HasSome (it a)) (sep₀ : Tok) (is_sep₀ : sep sep₀ ≡ true) (real₀ : IsReal sep₀) where
    ends_at : (k n : ℕ) (before : List A) (ts : List Tok) (a : A) (rest : List Tok) → item before k ts ≡ Ok (a, rest) → starts sep rest ≡ false → list_at k (suc n) before ts ≡ Ok (before ++ a ∷ [], rest)
    ends_at k n before ts a rest h s = items_step sep (λ b r. item b k r) n before ts ∙ rw (h, behind_absent sep rest s) refl

    goes_at : (k n : ℕ) (before : List A) (ts : List Tok) (a : A) (t : Tok) (rest : List Tok) → item before k ts ≡ Ok (a, t ∷ rest) → sep t ≡ true → list_at k (suc n) before ts ≡ list_at k n (before ++ a ∷ []) rest
    goes_at k n before ts a t rest h s = items_step sep (λ b r. item b k r) n before ts ∙ rw (h, behind_there sep t rest s) refl

    fails_at : (k n : ℕ) (before : List A) (ts : List Tok) (e : ℕ) → item before k ts ≡ Err e → list_at k (suc n) before ts ≡ Err e
    fails_at k n before ts e h = items_step sep (λ b r. item b k r) n before ts ∙ rw h refl

    one_more : (n k : ℕ) (before : List A) (a : A) (xs : List A) → P k before a → IsList n k (before ++ a ∷ []) xs → IsList (suc n) k before (a ∷ xs)
    one_more n k before a xs h l = record { some = tt; within = omega (arith, l.within); each = (h, l.each) }

    just_one : (n k : ℕ) (before : List A) (a : A) → P k before a → IsList (suc n) k before (a ∷ [])
    just_one n k before a h = record { some = tt; within = omega arith; each = (h, tt) }

    spelled_more : (a : A) (xs : List A) (front : List Tok) (t : Tok) (rest : List Tok) → HasSome xs → Spells (it a) front → sep t ≡ true → Spells (joined c it xs) rest → Spells (joined c it (a ∷ xs)) (front ++ t ∷ rest)
    spelled_more a xs front t rest h s st u = subst (λ is. Spells is (front ++ t ∷ rest)) (sym (joined_more c it a xs h)) (spells_both (it a) (c ∷ joined c it xs) front (t ∷ rest) s (is_sep t st, u))

    -- ---- what is read is a list

    list_found : (n k : ℕ) (before : List A) (ts : List Tok) (all : List A) (rest : List Tok) → list_at k n before ts ≡ Ok (all, rest) → ListFound n k before ts all rest
    list_found zero k before ts all rest e = absurd (let h : Err (length ts) ≡ okay all rest = sym (items_none sep (λ b r. item b k r) before ts) ∙ e in cc)
    list_found (suc n) k before ts all rest e =
        let r = bind_ok (item before k ts) (λ a. go_on sep (before ++ a.0 ∷ []) a.1 (λ more. items sep (λ b s. item b k s) n (before ++ a.0 ∷ []) more)) (all, rest) (sym (items_step sep (λ b r. item b k r) n before ts) ∙ e) in
        by (λ b next h. list_found n k b next all rest h) r.value.0 r.value.1 r.first (sep_of sep r.value.1)
      where
        by : ((b : List A) (next : List Tok) → list_at k n b next ≡ Ok (all, rest) → ListFound n k b next all rest) → (a : A) (behind : List Tok) → item before k ts ≡ Ok (a, behind) → Sep sep behind → ListFound (suc n) k before ts all rest
        by rec a behind h (absent s) =
            let l = (R before).found k ts a behind h in
            let parts = ok_parts (before ++ a ∷ []) all behind rest (sym (ends_at k n before ts a behind h s) ∙ e) in
            record {
              xs = a ∷ [];
              front = l.front;
              parts = l.parts ∙ ap (λ (x : List Tok). l.front ++ x) parts.1;
              is = parts.0;
              fits = just_one n k before a (subst (P k before) l.is l.fits);
              spelled = subst (λ b. Spells (it b) l.front) l.is l.spelled;
              local = λ m n' other le more same. last_one a behind l.front m n' other more (l.local m other le (ap first parts.1 ∙ same)) (starts_alike sep behind other (ap first parts.1 ∙ same) s) ∙ ap (λ xs. okay xs other) parts.0;
            }
          where
            last_one : (a : A) (behind front : List Tok) (m n' : ℕ) (other : List Tok) → suc n ≤ n' → item before m (front ++ other) ≡ Ok (a, other) → starts sep other ≡ false → list_at m n' before (front ++ other) ≡ Ok (before ++ a ∷ [], other)
            last_one a behind front m zero other more h s = absurd (omega arith)
            last_one a behind front m (suc n') other more h s = ends_at m n' before (front ++ other) a other h s
        by rec a behind h (there t next e' st) =
            let h' : item before k ts ≡ Ok (a, t ∷ next) = h ∙ ap (λ r. okay a r) e' in
            let l = (R before).found k ts a (t ∷ next) h' in
            let s = rec (before ++ a ∷ []) next (sym (goes_at k n before ts a t next h' st) ∙ e) in
            record {
              xs = a ∷ s.xs;
              front = l.front ++ t ∷ s.front;
              parts = l.parts ∙ ap (λ (x : List Tok). l.front ++ t ∷ x) s.parts ∙ sym (append_assoc l.front (t ∷ s.front) rest);
              is = sym (append_assoc before (a ∷ []) s.xs) ∙ s.is;
              fits = one_more n k before a s.xs (subst (P k before) l.is l.fits) s.fits;
              spelled = spelled_more a s.xs l.front t s.front s.fits.some (subst (λ b. Spells (it b) l.front) l.is l.spelled) st s.spelled;
              local = λ m n' other le more same. goes_again a t l.front s.front m n' other more
                  (λ x. l.local m (t ∷ x) le refl) st (λ n'' less. s.local m n'' other le less same);
            }
          where
            goes_again : (a : A) (t : Tok) (front back : List Tok) (m n' : ℕ) (other : List Tok) → suc n ≤ n' → ((x : List Tok) → item before m (front ++ t ∷ x) ≡ Ok (a, t ∷ x)) → sep t ≡ true
                → ((n'' : ℕ) → n ≤ n'' → list_at m n'' (before ++ a ∷ []) (back ++ other) ≡ Ok (all, other)) → list_at m n' before ((front ++ t ∷ back) ++ other) ≡ Ok (all, other)
            goes_again a t front back m zero other more h st rec = absurd (omega arith)
            goes_again a t front back m (suc n') other more h st rec =
                ap (list_at m (suc n') before) (append_assoc front (t ∷ back) other) ∙ goes_at m n' before (front ++ t ∷ (back ++ other)) a t (back ++ other) (h (back ++ other)) st ∙ rec n' (omega arith)

    -- ---- each list is read

    list_only : (n k : ℕ) (before xs : List A) (front rest : List Tok) → IsList n k before xs → Spells (joined c it xs) front → starts (λ t. sep t || g t) rest ≡ false → list_at k n before (front ++ rest) ≡ Ok (before ++ xs, rest)
    list_only n k before [] front rest l s stops = absurd l.some
    list_only zero k before (a ∷ xs) front rest l s stops = absurd (omega (arith, l.within))
    list_only (suc n) k before (a ∷ []) front rest l s stops =
        let st = starts_any sep g rest stops in
        ends_at k n before (front ++ rest) a rest ((R before).only k a front rest l.each.0 s st.1) st.0
    list_only (suc n) k before (a ∷ b ∷ xs) front rest l s stops = by (spells_split (it a) (c ∷ joined c it (b ∷ xs)) front s)
        (λ back h. list_only n k (before ++ a ∷ []) (b ∷ xs) back rest (record { some = tt; within = omega (arith, l.within); each = l.each.1 }) h stops)
      where
        by : Splits (it a) (c ∷ joined c it (b ∷ xs)) front → ((back : List Tok) → Spells (joined c it (b ∷ xs)) back → list_at k n (before ++ a ∷ []) (back ++ rest) ≡ Ok ((before ++ a ∷ []) ++ b ∷ xs, rest))
            → list_at k (suc n) before (front ++ rest) ≡ Ok (before ++ a ∷ b ∷ xs, rest)
        by z rec = parted z.front z.back z.parts z.first z.then_
          where
            parted : (x y : List Tok) → front ≡ x ++ y → Spells (it a) x → Spells (c ∷ joined c it (b ∷ xs)) y → list_at k (suc n) before (front ++ rest) ≡ Ok (before ++ a ∷ b ∷ xs, rest)
            parted x [] e s u = absurd u
            parted x (t ∷ y) e s u =
                let here : front ++ rest ≡ x ++ t ∷ (y ++ rest) = ap (λ (f : List Tok). f ++ rest) e ∙ append_assoc x (t ∷ y) rest in
                let st : sep t ≡ true = from_sep t u.0 in
                ap (list_at k (suc n) before) here
                ∙ goes_at k n before (x ++ t ∷ (y ++ rest)) a t (y ++ rest) ((R before).only k a x (t ∷ (y ++ rest)) l.each.0 s (free t st)) st
                ∙ rec y u.1 ∙ ap (λ all. okay all rest) (append_assoc before (a ∷ []) (b ∷ xs))

    -- ---- where reading fails

    turn_wide : (k m : ℕ) → k ≤ m → (before xs : List A) → AllInTurn (P k) before xs → AllInTurn (P m) before xs
    turn_wide k m le before [] h = tt
    turn_wide k m le before (a ∷ xs) h = ((R before).wide k m a le h.0, turn_wide k m le (before ++ a ∷ []) xs h.1)

    alive_wide : (n k n' m : ℕ) (before : List A) (ts : List Tok) → k ≤ m → n ≤ n' → ListAlive n k before ts → ListAlive n' m before ts
    alive_wide n k n' m before ts le more a = record {
      xs = a.xs;
      more = a.more;
      real = a.real;
      fits = record { some = a.fits.some; within = omega (arith, a.fits.within); each = turn_wide k m le before a.xs a.fits.each };
      spelled = a.spelled;
    }

    one_alive : (n k : ℕ) (before : List A) (ts : List Tok) → Alive (λ k a. P k before a) it k ts → ListAlive (suc n) k before ts
    one_alive n k before ts a = record { xs = a.witness ∷ []; more = a.more; real = a.real; fits = just_one n k before a.witness a.fits; spelled = a.spelled }

    more_alive : (n k : ℕ) (before : List A) (a : A) (front : List Tok) (t : Tok) (ts : List Tok) → P k before a → Spells (it a) front → sep t ≡ true → ListAlive n k (before ++ a ∷ []) ts → ListAlive (suc n) k before (front ++ t ∷ ts)
    more_alive n k before a front t ts h s st l = record {
      xs = a ∷ l.xs;
      more = l.more;
      real = l.real;
      fits = one_more n k before a l.xs h l.fits;
      spelled = subst (Spells (joined c it (a ∷ l.xs))) (sym (append_assoc front (t ∷ ts) l.more)) (spelled_more a l.xs front t (ts ++ l.more) l.fits.some s st l.spelled);
    }

    pub record ListPast (n k : ℕ) (before : List A) (ts : List Tok) : Type 0 where
      pub front : List Tok
      pub last : Tok
      pub parts : ts ≡ front ++ last ∷ []
      pub within : ListAlive n k before front
      pub most : ℕ
      pub slack : ℕ
      pub beyond : ListAlive most slack before ts

    pub record ListOff (n k : ℕ) (before : List A) (ts rest : List Tok) : Type 0 where
      pub alive : ListAlive n k before ts
      pub local : (m n' : ℕ) (other : List Tok) → k ≤ m → n ≤ n' → first rest ≡ first other → list_at m n' before (ts ++ other) ≡ Err (length other)

    -- a limit within a member
    pub record ListOver (n k : ℕ) (before : List A) (ts : List Tok) : Type 0 where
      pub past : ListPast n k before ts
      pub local : (n' : ℕ) (other : List Tok) → n ≤ n' → list_at k n' before (ts ++ other) ≡ Err (length other)

    -- the limit of this list
    pub record ListFull (n k : ℕ) (before : List A) (all ts : List Tok) : Type 0 where
      pub past : ListPast n k before ts
      pub local : (other : List Tok) → list_at k n before (ts ++ other) ≡ Err (length other)
      pub many : n < length all

    pub record ListStuck (n k : ℕ) (before : List A) (ts : List Tok) (e : ℕ) : Type 0 where
      pub front : List Tok
      pub rest : List Tok
      pub parts : ts ≡ front ++ rest
      pub left : length rest ≡ e
      pub cause : ListOff n k before front rest ⊎ (ListOver n k before front ⊎ ListFull n k before ts front)

    more_past : (n k : ℕ) (before : List A) (a : A) (front : List Tok) (t : Tok) (ts : List Tok) → P k before a → Spells (it a) front → sep t ≡ true → ListPast n k (before ++ a ∷ []) ts → ListPast (suc n) k before (front ++ t ∷ ts)
    more_past n k before a front t ts h s st l = record {
      front = front ++ t ∷ l.front;
      last = l.last;
      parts = ap (λ (x : List Tok). front ++ t ∷ x) l.parts ∙ sym (append_assoc front (t ∷ l.front) (l.last ∷ []));
      within = more_alive n k before a front t l.front h s st l.within;
      most = suc l.most;
      slack = max k l.slack;
      beyond = more_alive l.most (max k l.slack) before a front t ts ((R before).wide k (max k l.slack) a (omega arith) h) s st (alive_wide l.most l.slack l.most (max k l.slack) (before ++ a ∷ []) ts (omega arith) (omega arith) l.beyond);
    }

    long_front : (a : A) (front : List Tok) → Spells (it a) front → 1 ≤ length front
    long_front a front s = by (it a) (full a) front s
      where
        by : (is : List Item) → HasSome is → (front : List Tok) → Spells is front → 1 ≤ length front
        by [] h front s = absurd h
        by (i ∷ is) h [] s = absurd s
        by (i ∷ is) h (t ∷ front) s = omega arith

    -- the step of a text that goes on behind a separator
    again_err : (k n : ℕ) (before : List A) (a : A) (front : List Tok) (t : Tok) (ts other : List Tok) → ((x : List Tok) → item before k (front ++ t ∷ x) ≡ Ok (a, t ∷ x)) → sep t ≡ true
        → list_at k n (before ++ a ∷ []) (ts ++ other) ≡ Err (length other) → list_at k (suc n) before ((front ++ t ∷ ts) ++ other) ≡ Err (length other)
    again_err k n before a front t ts other h st r =
        ap (list_at k (suc n) before) (append_assoc front (t ∷ ts) other) ∙ goes_at k n before (front ++ t ∷ (ts ++ other)) a t (ts ++ other) (h (ts ++ other)) st ∙ r

    item_stuck : (n k : ℕ) (before : List A) (ts : List Tok) (e : ℕ) → Stuck (item before) (λ k a. P k before a) it k ts e → ListStuck (suc n) k before ts e
    item_stuck n k before ts e s = record {
      front = s.before;
      rest = s.rest;
      parts = s.parts;
      left = s.left;
      cause = elim s.cause [
        | inl off ↦ inl (record { alive = one_alive n k before s.before off.alive; local = λ m n' other le more same. at_least m n' (s.before ++ other) (length other) more (off.local m other le same) })
        | inr over ↦ inr (inl (record {
          past = record { front = over.past.front; last = over.past.last; parts = over.past.parts; within = one_alive n k before over.past.front over.past.within; most = 1; slack = over.past.slack; beyond = one_alive 0 over.past.slack before s.before over.past.beyond };
          local = λ n' other more. at_least k n' (s.before ++ other) (length other) more (over.local other);
        }))
      ];
    }
      where
        at_least : (m n' : ℕ) (x : List Tok) (e : ℕ) → suc n ≤ n' → item before m x ≡ Err e → list_at m n' before x ≡ Err e
        at_least m zero x e more h = absurd (omega arith)
        at_least m (suc n') x e more h = fails_at m n' before x e h

    full_here : (k : ℕ) (before : List A) (ts : List Tok) (e : ℕ) (a : A) (t : Tok) (next : List Tok) → Found (item before) as_it_is (λ k a. P k before a) it k ts a (t ∷ next) → sep t ≡ true → length next ≡ e → ListStuck 1 k before ts e
    full_here k before ts e a t next l st h = record {
      front = l.front ++ t ∷ [];
      rest = next;
      parts = l.parts ∙ sym (append_assoc l.front (t ∷ []) next);
      left = h;
      cause = inr (inr (record {
        past = record {
          front = l.front;
          last = t;
          parts = refl;
          within = one_alive 0 k before l.front (record { witness = l.witness; more = []; real = tt; fits = l.fits; spelled = subst (Spells (it l.witness)) (sym (append-nil l.front)) l.spelled });
          most = 2;
          slack = k;
          beyond = more_alive 1 k before l.witness l.front t [] l.fits l.spelled st (one_alive 0 k (before ++ l.witness ∷ []) [] ((R (before ++ l.witness ∷ [])).some k));
        };
        local = λ other. again_err k 0 before a l.front t [] other (λ x. l.local k (t ∷ x) (omega arith) refl) st (items_none sep (λ b r. item b k r) (before ++ a ∷ []) other);
        many = omega (arith, long_front l.witness l.front l.spelled, ap length l.parts, length-append l.front (t ∷ next));
      }));
    }

    rest_stuck : (n k : ℕ) (before : List A) (ts : List Tok) (e : ℕ) (a : A) (t : Tok) (next : List Tok) → Found (item before) as_it_is (λ k a. P k before a) it k ts a (t ∷ next) → sep t ≡ true → ListStuck n k (before ++ a ∷ []) next e → ListStuck (suc n) k before ts e
    rest_stuck n k before ts e a t next l st s =
        let fits : P k before a = subst (P k before) l.is l.fits in
        let spelled : Spells (it a) l.front = subst (λ b. Spells (it b) l.front) l.is l.spelled in
        record {
          front = l.front ++ t ∷ s.front;
          rest = s.rest;
          parts = l.parts ∙ ap (λ (x : List Tok). l.front ++ t ∷ x) s.parts ∙ sym (append_assoc l.front (t ∷ s.front) s.rest);
          left = s.left;
          cause = elim s.cause [
            | inl off ↦ inl (record {
              alive = more_alive n k before a l.front t s.front fits spelled st off.alive;
              local = λ m n' other le more same. down m n' (l.front ++ t ∷ s.front) other more (λ n'' less. again_err m n'' before a l.front t s.front other (λ x. l.local m (t ∷ x) le refl) st (off.local m n'' other le less same));
            })
            | inr (inl over) ↦ inr (inl (record {
              past = more_past n k before a l.front t s.front fits spelled st over.past;
              local = λ n' other more. down k n' (l.front ++ t ∷ s.front) other more (λ n'' less. again_err k n'' before a l.front t s.front other (λ x. l.local k (t ∷ x) (omega arith) refl) st (over.local n'' other less));
            }))
            | inr (inr over) ↦ inr (inr (record {
              past = more_past n k before a l.front t s.front fits spelled st over.past;
              local = λ other. again_err k n before a l.front t s.front other (λ x. l.local k (t ∷ x) (omega arith) refl) st (over.local other);
              many = omega (arith, over.many, ap length l.parts, length-append l.front (t ∷ next));
            }))
          ];
        }
      where
        down : (m n' : ℕ) (x other : List Tok) → suc n ≤ n' → ((n'' : ℕ) → n ≤ n'' → list_at m (suc n'') before (x ++ other) ≡ Err (length other)) → list_at m n' before (x ++ other) ≡ Err (length other)
        down m zero x other more h = absurd (omega arith)
        down m (suc n') x other more h = h n' (omega arith)

    -- a turn that fails: at its member, or behind it
    turn_fault : (n k : ℕ) (before : List A) (ts : List Tok) (e : ℕ) → list_at k (suc n) before ts ≡ Err e
        → ((a : A) (t : Tok) (next : List Tok) → Found (item before) as_it_is (λ k a. P k before a) it k ts a (t ∷ next) → sep t ≡ true → list_at k n (before ++ a ∷ []) next ≡ Err e → ListStuck (suc n) k before ts e)
        → ListStuck (suc n) k before ts e
    turn_fault n k before ts e h rec =
        elim (bind_err (item before k ts) (λ a. go_on sep (before ++ a.0 ∷ []) a.1 (λ more. items sep (λ b s. item b k s) n (before ++ a.0 ∷ []) more)) e (sym (items_step sep (λ b r. item b k r) n before ts) ∙ h)) [
          | inl f ↦ item_stuck n k before ts e ((R before).fault k ts e f)
          | inr r ↦ behind_it r.value.0 r.value.1 r.first (sep_of sep r.value.1)
        ]
      where
        behind_it : (a : A) (behind : List Tok) → item before k ts ≡ Ok (a, behind) → Sep sep behind → ListStuck (suc n) k before ts e
        behind_it a behind f (absent s) = absurd (let clash : okay (before ++ a ∷ []) behind ≡ Err e = sym (ends_at k n before ts a behind f s) ∙ h in cc)
        behind_it a behind f (there t next e' st) =
            let f' : item before k ts ≡ Ok (a, t ∷ next) = f ∙ ap (λ r. okay a r) e' in
            rec a t next ((R before).found k ts a (t ∷ next) f') st (sym (goes_at k n before ts a t next f' st) ∙ h)

    list_fault : (n k : ℕ) (before : List A) (ts : List Tok) (e : ℕ) → list_at k (suc n) before ts ≡ Err e → ListStuck (suc n) k before ts e
    list_fault zero k before ts e h =
        turn_fault 0 k before ts e h (λ a t next l st r. full_here k before ts e a t next l st (err_is (length next) e (sym (items_none sep (λ b r. item b k r) (before ++ a ∷ []) next) ∙ r)))
    list_fault (suc n) k before ts e h =
        turn_fault (suc n) k before ts e h (λ a t next l st r. rest_stuck (suc n) k before ts e a t next l st (list_fault n k (before ++ a ∷ []) next e r))

    -- ---- a list with a limit, and one without

    abbrev pub limited_at : ℕ → ℕ → List Tok → Read (List A)
    limited_at most k ts = list_at k (most + k) [] ts

    abbrev pub is_limited : ℕ → ℕ → List A → Type 0
    is_limited most k xs = UpTo (most + k) xs × AllInTurn (P k) [] xs

    limited_alive : (most k n k' : ℕ) (ts : List Tok) → n ≤ most + k' → k ≤ k' → ListAlive n k [] ts → Alive (is_limited most) (joined c it) k' ts
    limited_alive most k n k' ts le lek a = record {
      witness = a.xs;
      more = a.more;
      real = a.real;
      fits = ((a.fits.some, omega (arith, a.fits.within)), turn_wide k k' lek [] a.xs a.fits.each);
      spelled = a.spelled;
    }

    limited_past : (most k n : ℕ) (ts : List Tok) → n ≤ most + k → ListPast n k [] ts → Past (is_limited most) (joined c it) k ts
    limited_past most k n ts le p = record {
      front = p.front;
      last = p.last;
      parts = p.parts;
      within = limited_alive most k n k p.front le (omega arith) p.within;
      slack = max p.slack p.most;
      beyond = limited_alive most p.slack p.most (max p.slack p.most) ts (omega arith) (omega arith) p.beyond;
    }

    limited_stuck : (most k n : ℕ) (ts : List Tok) (e : ℕ) → most + k ≡ n → ListStuck n k [] ts e → Stuck (limited_at most) (is_limited most) (joined c it) k ts e
    limited_stuck most k n ts e lim s = record {
      before = s.front;
      rest = s.rest;
      parts = s.parts;
      left = s.left;
      cause = elim s.cause [
        | inl off ↦ inl (record { alive = limited_alive most k n k s.front (omega arith) (omega arith) off.alive; local = λ m other le same. off.local m (most + m) other le (omega arith) same })
        | inr (inl over) ↦ inr (record { past = limited_past most k n s.front (omega arith) over.past; local = λ other. over.local (most + k) other (omega arith) })
        | inr (inr over) ↦ inr (record { past = limited_past most k n s.front (omega arith) over.past; local = λ other. ap (λ (l : ℕ). list_at k l [] (s.front ++ other)) lim ∙ over.local other })
      ];
    }

    pub limited_rule : (most : ℕ) → 0 < most → Rule (limited_at most) as_it_is (is_limited most) (joined c it) (λ t. sep t || g t)
    limited_rule most pos = record {
      found = λ k ts all rest e.
          let l = list_found (most + k) k [] ts all rest e in record {
            witness = l.xs;
            front = l.front;
            parts = l.parts;
            is = l.is;
            fits = ((l.fits.some, l.fits.within), l.fits.each);
            spelled = l.spelled;
            local = λ m other le same. l.local m (most + m) other le (omega arith) same;
          };
      only = λ k xs front rest fits s stops. list_only (most + k) k [] xs front rest (record { some = fits.0.0; within = fits.0.1; each = fits.1 }) s stops;
      fault = λ k ts e h. by k ts e (most + k) refl h;
      wide = λ k m xs le fits. ((fits.0.0, omega (arith, fits.0.1)), turn_wide k m le [] xs fits.1);
      some = λ k. limited_alive most k 1 k [] (omega arith) (omega arith) (one_alive 0 k [] [] ((R []).some k));
    }
      where
        by : (k : ℕ) (ts : List Tok) (e n : ℕ) → most + k ≡ n → list_at k n [] ts ≡ Err e → Stuck (limited_at most) (is_limited most) (joined c it) k ts e
        by k ts e zero lim h = absurd (omega arith)
        by k ts e (suc n) lim h = limited_stuck most k (suc n) ts e lim (list_fault n k [] ts e h)

    -- ---- without a limit: as many turns as tokens are enough

    abbrev pub any_at : ℕ → List Tok → Read (List A)
    any_at k ts = list_at k (length ts) [] ts

    abbrev pub is_any : ℕ → List A → Type 0
    is_any k xs = HasSome xs × AllInTurn (P k) [] xs

    empty_parts : (x y : List Tok) → [] ≡ x ++ y → (x ≡ []) × (y ≡ [])
    empty_parts [] y e = (refl, sym e)
    empty_parts (t ∷ x) y e = absurd cc

    nothing_here : (k : ℕ) (before : List A) → item before k [] ≡ Err 0
    nothing_here k before = by (item before k []) refl
      where
        by : (r : Read A) → item before k [] ≡ r → item before k [] ≡ Err 0
        by (Ok x) h =
            let l = (R before).found k [] x.0 x.1 h in
            let front : l.front ≡ [] = (empty_parts l.front x.1 l.parts).0 in
            let long : 1 ≤ length l.front = long_front l.witness l.front l.spelled in
            absurd (omega (arith, ap length front))
        by (Err n) h =
            let s = (R before).fault k [] n h in
            let rest : s.rest ≡ [] = (empty_parts s.before s.rest s.parts).1 in
            h ∙ ap (λ (m : ℕ). Err m) (sym s.left ∙ ap length rest)

    enough : (k n n' : ℕ) (before : List A) (ts : List Tok) → length ts ≤ n → length ts ≤ n' → list_at k n before ts ≡ list_at k n' before ts
    enough k zero zero before ts h h' = refl
    enough k zero (suc n') before [] h h' = items_none sep (λ b r. item b k r) before [] ∙ sym (fails_at k n' before [] 0 (nothing_here k before))
    enough k zero (suc n') before (t ∷ ts) h h' = absurd (omega arith)
    enough k (suc n) zero before [] h h' = fails_at k n before [] 0 (nothing_here k before) ∙ sym (items_none sep (λ b r. item b k r) before [])
    enough k (suc n) zero before (t ∷ ts) h h' = absurd (omega arith)
    enough k (suc n) (suc n') before ts h h' = by (λ b next l l'. enough k n n' b next l l') (item before k ts) refl
      where
        on : ((b : List A) (next : List Tok) → length next ≤ n → length next ≤ n' → list_at k n b next ≡ list_at k n' b next) → (a : A) (behind : List Tok) → item before k ts ≡ Ok (a, behind) → Sep sep behind → list_at k (suc n) before ts ≡ list_at k (suc n') before ts
        on rec a behind e (absent s) = ends_at k n before ts a behind e s ∙ sym (ends_at k n' before ts a behind e s)
        on rec a behind e (there t next e' st) =
            let e'' : item before k ts ≡ Ok (a, t ∷ next) = e ∙ ap (λ r. okay a r) e' in
            let l = (R before).found k ts a (t ∷ next) e'' in
            let short : suc (length next) ≤ length ts = omega (arith, ap length l.parts, length-append l.front (t ∷ next)) in
            goes_at k n before ts a t next e'' st ∙ rec (before ++ a ∷ []) next (omega arith) (omega arith) ∙ sym (goes_at k n' before ts a t next e'' st)

        by : ((b : List A) (next : List Tok) → length next ≤ n → length next ≤ n' → list_at k n b next ≡ list_at k n' b next) → (r : Read A) → item before k ts ≡ r → list_at k (suc n) before ts ≡ list_at k (suc n') before ts
        by rec (Ok x) e = on rec x.0 x.1 e (sep_of sep x.1)
        by rec (Err m) e = fails_at k n before ts m e ∙ sym (fails_at k n' before ts m e)

    any_as : (k n : ℕ) (ts : List Tok) (r : Read (List A)) → ((n' : ℕ) → n ≤ n' → list_at k n' [] ts ≡ r) → any_at k ts ≡ r
    any_as k n ts r h = enough k (length ts) (max n (length ts)) [] ts (omega arith) (omega arith) ∙ h (max n (length ts)) (omega arith)

    short_list : (xs : List A) (front : List Tok) → Spells (joined c it xs) front → length xs ≤ length front
    short_list [] front s = omega arith
    short_list (a ∷ []) front s = omega (arith, long_front a front s)
    short_list (a ∷ b ∷ xs) front s = by (spells_split (it a) (c ∷ joined c it (b ∷ xs)) front s) (λ back h. short_list (b ∷ xs) back h)
      where
        parted : ((back : List Tok) → Spells (joined c it (b ∷ xs)) back → length (b ∷ xs) ≤ length back) → (x y : List Tok) → front ≡ x ++ y → Spells (it a) x → Spells (c ∷ joined c it (b ∷ xs)) y → length (a ∷ b ∷ xs) ≤ length front
        parted rec x [] e s u = absurd u
        parted rec x (t ∷ y) e s u = omega (arith, rec y u.1, long_front a x s, ap length e, length-append x (t ∷ y))

        by : Splits (it a) (c ∷ joined c it (b ∷ xs)) front → ((back : List Tok) → Spells (joined c it (b ∷ xs)) back → length (b ∷ xs) ≤ length back) → length (a ∷ b ∷ xs) ≤ length front
        by z rec = parted rec z.front z.back z.parts z.first z.then_

    any_alive : (n k k' : ℕ) (ts : List Tok) → k ≤ k' → ListAlive n k [] ts → Alive is_any (joined c it) k' ts
    any_alive n k k' ts le a = record { witness = a.xs; more = a.more; real = a.real; fits = (a.fits.some, turn_wide k k' le [] a.xs a.fits.each); spelled = a.spelled }

    any_past : (n k : ℕ) (ts : List Tok) → ListPast n k [] ts → Past is_any (joined c it) k ts
    any_past n k ts p = record { front = p.front; last = p.last; parts = p.parts; within = any_alive n k k p.front (omega arith) p.within; slack = p.slack; beyond = any_alive p.most p.slack p.slack ts (omega arith) p.beyond }

    any_stuck : (k : ℕ) (ts : List Tok) (e : ℕ) → ListStuck (length ts) k [] ts e → Stuck any_at is_any (joined c it) k ts e
    any_stuck k ts e s = record {
      before = s.front;
      rest = s.rest;
      parts = s.parts;
      left = s.left;
      cause = elim s.cause [
        | inl off ↦ inl (record { alive = any_alive (length ts) k k s.front (omega arith) off.alive; local = λ m other le same. any_as m (length ts) (s.front ++ other) (Err (length other)) (λ n' more. off.local m n' other le more same) })
        | inr (inl over) ↦ inr (record { past = any_past (length ts) k s.front over.past; local = λ other. any_as k (length ts) (s.front ++ other) (Err (length other)) (λ n' more. over.local n' other more) })
        | inr (inr over) ↦ absurd (omega (arith, over.many))
      ];
    }

    any_fault : (k : ℕ) (ts : List Tok) (e : ℕ) → any_at k ts ≡ Err e → Stuck any_at is_any (joined c it) k ts e
    any_fault k [] e h = record {
      before = [];
      rest = [];
      parts = refl;
      left = err_is 0 e (sym (items_none sep (λ b r. item b k r) [] []) ∙ h);
      cause = inl (record { alive = any_alive 1 k k [] (omega arith) (one_alive 0 k [] [] ((R []).some k)); local = nothing });
    }
      where
        nothing : (m : ℕ) (other : List Tok) → k ≤ m → first [] ≡ first other → any_at m other ≡ Err (length other)
        nothing m [] le same = items_none sep (λ b r. item b m r) [] []
        nothing m (t ∷ other) le same = absurd cc
    any_fault k (t ∷ ts) e h = any_stuck k (t ∷ ts) e (list_fault (length ts) k [] (t ∷ ts) e h)

    pub any_rule : Rule any_at as_it_is is_any (joined c it) (λ t. sep t || g t)
    any_rule = record {
      found = λ k ts all rest e.
          let l = list_found (length ts) k [] ts all rest e in record {
            witness = l.xs;
            front = l.front;
            parts = l.parts;
            is = l.is;
            fits = (l.fits.some, l.fits.each);
            spelled = l.spelled;
            local = λ m other le same. any_as m (length ts) (l.front ++ other) (okay all other) (λ n' more. l.local m n' other le more same);
          };
      only = λ k xs front rest fits s stops.
          list_only (length (front ++ rest)) k [] xs front rest (record { some = fits.0; within = omega (arith, short_list xs front s, length-append front rest); each = fits.1 }) s stops;
      fault = any_fault;
      wide = λ k m xs le fits. (fits.0, turn_wide k m le [] xs fits.1);
      some = λ k. any_alive 1 k k [] (omega arith) (one_alive 0 k [] [] ((R []).some k));
    }
