-- Taking several keys in turn, and letting go of the fresh ones.
use Rattle.std.proofs.Common.{◌≡◌, eq-eqb, nat_eq, ℕ, ◌||◌, ◌==◌, ◌⊎◌, Bool, true, false, if◌then◌else◌, List, [], ◌∷◌, ◌++◌, Option, None, Some, IsTrue, true≢false, refl, sym, ap, subst, ◌∙◌, inl, inr, ⊎_elim}
use Rattle.std.specs.Option.{is_some, option_eq}
use Rattle.std.proofs.lemmas.Bool.{cases_Bool, eqb-true}
use Rattle.std.proofs.lemmas.Cmp.{eq_by_cmp_equiv}
use Rattle.std.proofs.lemmas.List.Folds.{list_any-append}
use Rattle.std.proofs.lemmas.Option.{none-some}
use Rattle.vl_values.specs.declared.key.Key.{Key}
use Rattle.vl_values.specs.Keyed.{InKeyOrder, is_key, is_among_keys}
use Rattle.vl_values.proofs.KeyOrder.{is_key-true, is_key-same, key_cmp_total}
use Rattle.vl_locks.specs.Locks.{holder_of, other_than, with_holder}
use Rattle.vl_locks.specs.Take.{with_all}
use Rattle.vl_locks.specs.Taking.{Noted, IsOldBut, HasTaken}

turned : (a b : Key) → is_key a b ≡ is_key b a
turned a b = (eq_by_cmp_equiv key_cmp_total).symm a b

-- ---- a key among keys

among_either : (keys more : List Key) (key : Key) → is_among_keys (keys ++ more) key ≡ (is_among_keys keys key || is_among_keys more key)
among_either keys more key = list_any-append (is_key key) keys more

or_left : (a b : Bool) → a ≡ true → (a || b) ≡ true
or_left true b h = refl
or_left false b h = absurd (true≢false (sym h))

or_right : (a b : Bool) → b ≡ true → (a || b) ≡ true
or_right true b h = refl
or_right false b h = h

or_cases : (a b : Bool) → (a || b) ≡ true → (a ≡ true) ⊎ (b ≡ true)
or_cases true b h = inl refl
or_cases false b h = inr h

one_key : (key other : Key) → is_among_keys (key ∷ []) other ≡ true → is_key other key ≡ true
one_key key other h = ⊎_elim (λ same. same) (λ none. absurd (true≢false (sym none))) (or_cases (is_key other key) false h)

-- of keys with one more, a member is an old one or that one
pub among_cases : (keys : List Key) (key other : Key) → is_among_keys (keys ++ key ∷ []) other ≡ true → (is_among_keys keys other ≡ true) ⊎ (other ≡ key)
among_cases keys key other h =
    ⊎_elim (λ old. inl old) (λ one. inr (is_key-true other key (one_key key other one)))
    (or_cases (is_among_keys keys other) (is_among_keys (key ∷ []) other) (sym (among_either keys (key ∷ []) other) ∙ h))

among_old : (keys : List Key) (key other : Key) → is_among_keys keys other ≡ true → is_among_keys (keys ++ key ∷ []) other ≡ true
among_old keys key other h = among_either keys (key ∷ []) other ∙ or_left (is_among_keys keys other) (is_among_keys (key ∷ []) other) h

among_new : (keys : List Key) (key other : Key) → other ≡ key → is_among_keys (keys ++ key ∷ []) other ≡ true
among_new keys key other same =
    among_either keys (key ∷ []) other
    ∙ or_right (is_among_keys keys other) (is_among_keys (key ∷ []) other) (or_left (is_key other key) false (ap (λ (k : Key). is_key k key) same ∙ is_key-same key))

-- of a key and others, a member that isn't that key is one of the others
among_rest : (key other : Key) (rest : List Key) → is_key key other ≡ false → is_among_keys (key ∷ rest) other ≡ true → is_among_keys rest other ≡ true
among_rest key other rest apart h = ⊎_elim (λ same. absurd (true≢false (sym same ∙ turned other key ∙ apart))) (λ there. there) (or_cases (is_key other key) (is_among_keys rest other) h)

-- ---- letting go

module _ (old : List (Key × ℕ)) (key : Key) (rest : List Key) (conn : ℕ) (now : List (Key × ℕ)) (before : IsOldBut old (key ∷ rest) conn now) where
  let_go_at : (new : List (Key × ℕ)) (other : Key) → holder_of new other ≡ with_holder (holder_of now) key None other → holder_of old key ≡ None → (b : Bool) → is_key key other ≡ b
      → (holder_of new other ≡ holder_of old other) ⊎ ((holder_of new other ≡ Some conn) × IsTrue (is_among_keys rest other))
  let_go_at new other is free true one =
      inl (is ∙ ap (λ (b : Bool). if b then None else holder_of now other) one ∙ sym free ∙ ap (holder_of old) (is_key-true key other one))
  let_go_at new other is free false one =
      let stays : holder_of new other ≡ holder_of now other = is ∙ ap (λ (b : Bool). if b then None else holder_of now other) one in
      ⊎_elim (λ same. inl (stays ∙ same)) (λ mine. inr (stays ∙ mine.0, among_rest key other rest one mine.1)) (before.each other)

  pub let_go : (new : List (Key × ℕ)) → ((other : Key) → holder_of new other ≡ with_holder (holder_of now) key None other) → holder_of old key ≡ None → IsOldBut old rest conn new
  let_go new is free = record { each = λ other. let_go_at new other (is other) free (is_key key other) refl }

  not_mine_at : (holder_of now key ≡ Some conn → ⊥) → (other : Key) → (b : Bool) → is_key key other ≡ b → (holder_of now other ≡ holder_of old other) ⊎ ((holder_of now other ≡ Some conn) × IsTrue (is_among_keys rest other))
  not_mine_at not other true one =
      ⊎_elim (λ same. inl same) (λ mine. absurd (not (ap (holder_of now) (is_key-true key other one) ∙ mine.0))) (before.each other)
  not_mine_at not other false one = ⊎_elim (λ same. inl same) (λ mine. inr (mine.0, among_rest key other rest one mine.1)) (before.each other)

  pub not_mine : (holder_of now key ≡ Some conn → ⊥) → IsOldBut old rest conn now
  not_mine not = record { each = λ other. not_mine_at not other (is_key key other) refl }

-- with no fresh key left all is as before
pub all_old : (old : List (Key × ℕ)) (conn : ℕ) (new : List (Key × ℕ)) → IsOldBut old [] conn new → (key : Key) → holder_of new key ≡ holder_of old key
all_old old conn new left key = ⊎_elim (λ same. same) (λ mine. absurd (true≢false (sym mine.1))) (left.each key)

-- ---- taking

pub nothing_taken : (old : List (Key × ℕ)) (conn : ℕ) → InKeyOrder old → HasTaken old [] conn old []
nothing_taken old conn order =
    record {
      others = record { each = λ key. inl refl };
      free = λ key h. absurd (true≢false (sym h));
      taken = λ key h. absurd (true≢false (sym h));
      inside = λ key h. h;
      order = order;
    }

module _ (old : List (Key × ℕ)) (keys : List Key) (conn : ℕ) (now : List (Key × ℕ)) (fresh : List Key) (had : HasTaken old keys conn now fresh) (key : Key) (new : List (Key × ℕ)) where
  has_key_by : ((other : Key) → holder_of new other ≡ with_holder (holder_of now) key (Some conn) other) → (other : Key) → other ≡ key → holder_of new other ≡ Some conn
  has_key_by is other same = is other ∙ ap (λ (b : Bool). if b then Some conn else holder_of now other) (ap (is_key key) same ∙ is_key-same key)

  keeps_by : ((other : Key) → holder_of new other ≡ with_holder (holder_of now) key (Some conn) other) → (other : Key) → (b : Bool) → is_key key other ≡ b → holder_of now other ≡ Some conn → holder_of new other ≡ Some conn
  keeps_by is other true one mine = is other ∙ ap (λ (b : Bool). if b then Some conn else holder_of now other) one
  keeps_by is other false one mine = is other ∙ ap (λ (b : Bool). if b then Some conn else holder_of now other) one ∙ mine

  taken_more : ((other : Key) → holder_of new other ≡ with_holder (holder_of now) key (Some conn) other) → (other : Key) → is_among_keys (keys ++ key ∷ []) other ≡ true → holder_of new other ≡ Some conn
  taken_more is other h =
      ⊎_elim (λ there. keeps_by is other (is_key key other) refl (had.taken other there)) (λ same. has_key_by is other same) (among_cases keys key other h)

  -- the key was the connection's already
  again_at : ((other : Key) → holder_of new other ≡ with_holder (holder_of now) key (Some conn) other) → holder_of now key ≡ Some conn → (other : Key) → (b : Bool) → is_key key other ≡ b → holder_of new other ≡ holder_of now other
  again_at is mine other true one = is other ∙ ap (λ (b : Bool). if b then Some conn else holder_of now other) one ∙ sym mine ∙ ap (holder_of now) (is_key-true key other one)
  again_at is mine other false one = is other ∙ ap (λ (b : Bool). if b then Some conn else holder_of now other) one

  again : ((other : Key) → holder_of new other ≡ with_holder (holder_of now) key (Some conn) other) → holder_of now key ≡ Some conn → InKeyOrder new → HasTaken old (keys ++ key ∷ []) conn new fresh
  again is mine order =
      record {
        others = record {
          each = λ other.
              let same = again_at is mine other (is_key key other) refl in
              ⊎_elim (λ kept. inl (same ∙ kept)) (λ both. inr (same ∙ both.0, both.1)) (had.others.each other);
        };
        free = had.free;
        taken = λ other h. taken_more is other h;
        inside = λ other h. among_old keys key other (had.inside other h);
        order = order;
      }

  -- nobody had it
  first_at : ((other : Key) → holder_of new other ≡ with_holder (holder_of now) key (Some conn) other) → (other : Key) → (b : Bool) → is_key key other ≡ b
      → (holder_of new other ≡ holder_of old other) ⊎ ((holder_of new other ≡ Some conn) × IsTrue (is_among_keys (fresh ++ key ∷ []) other))
  first_at is other true one = let same = sym (is_key-true key other one) in inr (has_key_by is other same, among_new fresh key other same)
  first_at is other false one =
      let stays : holder_of new other ≡ holder_of now other = is other ∙ ap (λ (b : Bool). if b then Some conn else holder_of now other) one in
      ⊎_elim (λ kept. inl (stays ∙ kept)) (λ both. inr (stays ∙ both.0, among_old fresh key other both.1)) (had.others.each other)

  was_free : holder_of now key ≡ None → holder_of old key ≡ None
  was_free none = ⊎_elim (λ kept. sym kept ∙ none) (λ both. absurd (none-some conn (sym none ∙ both.0))) (had.others.each key)

  first : ((other : Key) → holder_of new other ≡ with_holder (holder_of now) key (Some conn) other) → holder_of now key ≡ None → InKeyOrder new → HasTaken old (keys ++ key ∷ []) conn new (fresh ++ key ∷ [])
  first is none order =
      record {
        others = record { each = λ other. first_at is other (is_key key other) refl };
        free = λ other h. ⊎_elim (λ there. had.free other there) (λ same. ap (holder_of old) same ∙ was_free none) (among_cases fresh key other h);
        taken = λ other h. taken_more is other h;
        inside = λ other h. ⊎_elim (λ there. among_old keys key other (had.inside other there)) (λ same. among_new keys key other same) (among_cases fresh key other h);
        order = order;
      }

  pub has_taken_more : (noted : List Key) → Noted now fresh key conn new noted → InKeyOrder new → HasTaken old (keys ++ key ∷ []) conn new noted
  has_taken_more noted n order =
      ⊎_elim
      (λ mine. subst (HasTaken old (keys ++ key ∷ []) conn new) (sym mine.1) (again n.holders mine.0 order))
      (λ none. subst (HasTaken old (keys ++ key ∷ []) conn new) (sym none.1) (first n.holders none.0 order))
      n.adds

taken_at : (old : List (Key × ℕ)) (keys : List Key) (conn : ℕ) (new : List (Key × ℕ)) (fresh : List Key) → HasTaken old keys conn new fresh → (other : Key) → (b : Bool) → is_among_keys keys other ≡ b
    → holder_of new other ≡ (if b then Some conn else holder_of old other)
taken_at old keys conn new fresh had other true is = had.taken other is
taken_at old keys conn new fresh had other false is =
    ⊎_elim (λ kept. kept) (λ both. absurd (true≢false (sym (had.inside other both.1) ∙ is))) (had.others.each other)

pub all_taken : (old : List (Key × ℕ)) (keys : List Key) (conn : ℕ) (new : List (Key × ℕ)) (fresh : List Key) → HasTaken old keys conn new fresh → (other : Key) → holder_of new other ≡ with_all (holder_of old) keys conn other
all_taken old keys conn new fresh had other = taken_at old keys conn new fresh had other (is_among_keys keys other) refl

-- a holder that is no other is this connection
pub mine_from : (conn : ℕ) (holder : Option ℕ) → other_than conn holder ≡ None → is_some holder ≡ true → holder ≡ Some conn
mine_from conn None free some = absurd (true≢false (sym some))
mine_from conn (Some h) free some =
    ⊎_elim
    (λ same. ap Some (eqb-true h conn same))
    (λ other. absurd (none-some h (sym free ∙ ap (λ (b : Bool). if b then None else Some h) other)))
    (cases_Bool (h == conn))

-- what the test of a holder says where it fails
pub not_by_test : (conn : ℕ) (holder : Option ℕ) → option_eq nat_eq holder (Some conn) ≡ false → holder ≡ Some conn → ⊥
not_by_test conn holder off is = true≢false (sym (eq-eqb conn conn refl) ∙ sym (ap (λ (o : Option ℕ). option_eq nat_eq o (Some conn)) is) ∙ off)
