-- Lists of entries in the order of their keys: after an insert, a write, a removal and a selection, and their members.
use Rattle.std.proofs.Common.{◌≡◌, ℕ, zero, suc, ◌<◌, ◌≤◌, Bool, true, false, cond, List, [], ◌∷◌, Option, None, Some, length, get_or, set, refl, sym, ap, subst, ◌∙◌, ⊎_elim, arith}
use Rattle.std.specs.declared.cmp.Ordering.{Ordering}
use Rattle.std.specs.declared.cmp.Ordering.TheVariants.{Less, Equal, Greater}
use Rattle.std.specs.BTreeMap.{is_at}
use Rattle.std.specs.Cmp.{IsTotalOrder}
use Rattle.std.specs.List.{AllByRecursion, AllWithin, Contains, cons_option, filter, filter_map, insert, remove, slice_get}
use Rattle.std.specs.List.Sorted.{IsStrictlySortedBy}
use Rattle.std.specs.Map.{keys_of, lookup, remove_entry, set_value}
use Rattle.std.specs.Option.{option_and_then, option_map, is_some}
use Rattle.std.specs.Ordering.{eq_by_cmp, is_eq, ordering_reverse}
use Rattle.std.proofs.lemmas.Bool.{cases_Bool, cond-true, cond-false}
use Rattle.std.proofs.lemmas.Cmp.{eq_by_cmp_equiv, tied_itself}
use Rattle.std.proofs.lemmas.Map.{lookup-none, none_passes_from_lookup, lookup-insert, lookup-set_value, lookup-remove_entry, keys-set_value}
use Rattle.std.proofs.lemmas.Map.Entries.{lookup_head, lookup_tail, lookup_at_gap, none_below_head, lookup_from_place, none_past_head, place_from_lookup}
use Rattle.std.proofs.lemmas.Map.Keys.{sorted_head, sorted_tail, IsDistinct-from_sorted}
use Rattle.std.proofs.lemmas.Map.Lookups.{CmpEqualImpliesEq}
use Rattle.std.proofs.lemmas.Option.{none-some, same_Some, get_or_from_slice_get, slice_get-get_or, slice_get_within}

-- what a function of the entries gives, each value at its key
abbrev pub select : {K X B : Type 0} → (K × X → Option B) → List (K × X) → List (K × B)
select {K} {X} {B} g entries = filter_map (λ e. option_map {T = B} {U = K × B} (λ b. (e.0, b)) (g e)) entries

abbrev cons_at : {K B : Type 0} → K → Option B → List (K × B) → List (K × B)
cons_at {K} {B} k b rest = cons_option (option_map {T = B} {U = K × B} (λ v. (k, v)) b) rest

equal_from_test : (r : Ordering) → is_eq r ≡ true → r ≡ Equal
equal_from_test Less h = cc
equal_from_test Equal h = refl
equal_from_test Greater h = cc

module _ {K : Type 0} (P : K → Type 0) where
  all_weaker : (Q : K → Type 0) → ((k : K) → P k → Q k) → (ks : List K) → AllByRecursion P ks → AllByRecursion Q ks
  all_weaker Q w [] a = tt
  all_weaker Q w (k ∷ ks) a = (w k a.0, all_weaker Q w ks a.1)

  module _ {X : Type 0} where
    all_at : (es : List (K × X)) (i : ℕ) (d : K × X) → i < length es → AllByRecursion P (keys_of es) → P (get_or es i d).0
    all_at [] i d within a = absurd (omega arith)
    all_at (e ∷ es) zero d within a = a.0
    all_at (e ∷ es) (suc i) d within a = all_at es i d (omega arith) a.1

    all-insert : (es : List (K × X)) (i : ℕ) (k : K) (v : X) → P k → AllByRecursion P (keys_of es) → AllByRecursion P (keys_of (insert es i (k, v)))
    all-insert [] zero k v one a = (one, tt)
    all-insert [] (suc i) k v one a = (one, tt)
    all-insert (e ∷ es) zero k v one a = (one, a)
    all-insert (e ∷ es) (suc i) k v one a = (a.0, all-insert es i k v one a.1)

    all-remove_entry : (test : K → Bool) (es : List (K × X)) → AllByRecursion P (keys_of es) → AllByRecursion P (keys_of (remove_entry test es))
    all-remove_entry test [] a = tt
    all-remove_entry test (e ∷ es) a =
        elim (test e.0) as (λ b. AllByRecursion P (keys_of (cond b es (e ∷ remove_entry test es)))) [ true ↦ a.1 | false ↦ (a.0, all-remove_entry test es a.1) ]

    all-filter : (p : K × X → Bool) (es : List (K × X)) → AllByRecursion P (keys_of es) → AllByRecursion P (keys_of (filter p es))
    all-filter p [] a = tt
    all-filter p (e ∷ es) a =
        elim (p e) as (λ b. AllByRecursion P (keys_of (cond b (e ∷ filter p es) (filter p es)))) [ true ↦ (a.0, all-filter p es a.1) | false ↦ all-filter p es a.1 ]

    all-select : {B : Type 0} (g : K × X → Option B) (es : List (K × X)) → AllByRecursion P (keys_of es) → AllByRecursion P (keys_of (select g es))
    all-select g [] a = tt
    all-select g (e ∷ es) a =
        elim (g e) as (λ o. AllByRecursion P (keys_of (cons_at e.0 o (select g es)))) [ None ↦ all-select g es a.1 | Some b ↦ (a.0, all-select g es a.1) ]

module _ {K : Type 0} {R : K → K → Ordering} (o : IsTotalOrder R) where
  sorted_nil : IsStrictlySortedBy R []
  unfolding IsStrictlySortedBy
  sorted_nil = tt

  turned : (x y : K) → R x y ≡ Greater → R y x ≡ Less
  turned x y h = o.antisymm y x ∙ ap ordering_reverse h

  turned_back : (x y : K) → R x y ≡ Less → R y x ≡ Greater
  turned_back x y h = o.antisymm y x ∙ ap ordering_reverse h

  same_test : (k x y : K) → is_eq (R k x) ≡ true → is_eq (R k y) ≡ eq_by_cmp R x y
  same_test k x y h = (eq_by_cmp_equiv o).congr k x y h

module _ {K X : Type 0} {R : K → K → Ordering} (o : IsTotalOrder R) where
  sorted_cons : (e : K × X) (es : List (K × X)) → AllByRecursion (λ k. R e.0 k ≡ Less) (keys_of es) → IsStrictlySortedBy R (keys_of es) → IsStrictlySortedBy R (keys_of (e ∷ es))
  unfolding IsStrictlySortedBy
  sorted_cons e es above s = (above, s)

  -- ---- a new entry at its place

  pub sorted-insert : (es : List (K × X)) (i : ℕ) (k : K) (v : X) → IsStrictlySortedBy R (keys_of es) → i ≤ length es
      → AllWithin (λ e. R e.0 k ≡ Less) es 0 i → AllWithin (λ e. R e.0 k ≡ Greater) es i (length es) → IsStrictlySortedBy R (keys_of (insert es i (k, v)))
  sorted-insert [] zero k v s le below above = sorted_cons (k, v) [] tt (sorted_nil o)
  sorted-insert [] (suc i) k v s le below above = absurd (omega arith)
  sorted-insert (e ∷ es) zero k v s le below above =
      let first : R k e.0 ≡ Less = turned o e.0 k (above 0 e (omega arith) (omega arith)) in
      sorted_cons (k, v) (e ∷ es) (first, all_weaker (λ y. R e.0 y ≡ Less) (λ y. R k y ≡ Less) (λ y h. o.trans k e.0 y first h) (keys_of es) (sorted_head R e.0 (keys_of es) s)) s
  sorted-insert (e ∷ es) (suc i) k v s le below above =
      let first : R e.0 k ≡ Less = below 0 e (omega arith) (omega arith) in
      sorted_cons e (insert es i (k, v)) (all-insert (λ y. R e.0 y ≡ Less) es i k v first (sorted_head R e.0 (keys_of es) s))
      (sorted-insert es i k v (sorted_tail R e.0 (keys_of es) s) (omega arith) (λ j d l h. below (suc j) d (omega arith) (omega arith)) (λ j d l h. above (suc j) d (omega arith) (omega arith)))

  pub none_at_gap : (es : List (K × X)) (i : ℕ) (k : K) → IsStrictlySortedBy R (keys_of es) → i ≤ length es
      → AllWithin (λ e. R e.0 k ≡ Less) es 0 i → AllWithin (λ e. R e.0 k ≡ Greater) es i (length es) → lookup (is_at (R k)) es ≡ None
  none_at_gap es i k s le below above =
      lookup_at_gap o k es i s
      (λ j e h g. turned_back o e.0 k (subst (λ (x : K × X). R x.0 k ≡ Less) (get_or_from_slice_get es j e e g) (below j e (omega arith) h)))
      (λ e g. turned o e.0 k (subst (λ (x : K × X). R x.0 k ≡ Greater) (get_or_from_slice_get es i e e g) (above i e (omega arith) (slice_get_within es i e g))))

  pub lookup-insert_at : (es : List (K × X)) (i : ℕ) (k : K) (v : X) (q : K) → IsStrictlySortedBy R (keys_of es) → i ≤ length es
      → AllWithin (λ e. R e.0 k ≡ Less) es 0 i → AllWithin (λ e. R e.0 k ≡ Greater) es i (length es)
      → lookup (is_at (R q)) (insert es i (k, v)) ≡ cond (is_at (R k) q) (Some v) (lookup (is_at (R q)) es)
  lookup-insert_at es i k v q s le below above =
      lookup-insert {eq = eq_by_cmp R} (eq_by_cmp_equiv o) k v q es i (none_passes_from_lookup (is_at (R k)) es (none_at_gap es i k s le below above))

  -- ---- the entry at a place

  pub lookup-place : (es : List (K × X)) (i : ℕ) (d : K × X) → IsStrictlySortedBy R (keys_of es) → i < length es → lookup (is_at (R (get_or es i d).0)) es ≡ Some (get_or es i d).1
  lookup-place es i d s within =
      lookup_from_place {eq = eq_by_cmp R} (eq_by_cmp_equiv o) es i (get_or es i d).0 (get_or es i d).1 (IsDistinct-from_sorted R (keys_of es) s) (slice_get-get_or es i d within)

  set-set_value : (es : List (K × X)) (i : ℕ) (v : X) (d : K × X) → IsStrictlySortedBy R (keys_of es) → i < length es
      → set es i ((get_or es i d).0, v) ≡ set_value (is_at (R (get_or es i d).0)) es v
  set-set_value [] i v d s within = absurd (omega arith)
  set-set_value (e ∷ es) zero v d s within = sym (cond-true _ _ _ (ap is_eq (tied_itself o e.0)))
  set-set_value (e ∷ es) (suc i) v d s within =
      let apart : is_eq (R (get_or es i d).0 e.0) ≡ false = ap is_eq (turned_back o e.0 (get_or es i d).0 (all_at (λ y. R e.0 y ≡ Less) es i d (omega arith) (sorted_head R e.0 (keys_of es) s))) in
      ap (λ l. e ∷ l) (set-set_value es i v d (sorted_tail R e.0 (keys_of es) s) (omega arith)) ∙ sym (cond-false _ _ _ apart)

  pub lookup-set_at : (es : List (K × X)) (i : ℕ) (v : X) (d : K × X) (q : K) → IsStrictlySortedBy R (keys_of es) → i < length es
      → lookup (is_at (R q)) (set es i ((get_or es i d).0, v)) ≡ cond (is_at (R (get_or es i d).0) q) (Some v) (lookup (is_at (R q)) es)
  lookup-set_at es i v d q s within =
      let k = (get_or es i d).0 in
      ap (lookup (is_at (R q))) (set-set_value es i v d s within)
      ∙ lookup-set_value {eq = eq_by_cmp R} (eq_by_cmp_equiv o) (is_at (R k)) (same_test o k) q v es (ap is_some (lookup-place es i d s within))

  pub sorted-set_at : (es : List (K × X)) (i : ℕ) (v : X) (d : K × X) → IsStrictlySortedBy R (keys_of es) → i < length es → IsStrictlySortedBy R (keys_of (set es i ((get_or es i d).0, v)))
  sorted-set_at es i v d s within =
      subst (IsStrictlySortedBy R) (sym (ap keys_of (set-set_value es i v d s within) ∙ keys-set_value (is_at (R (get_or es i d).0)) es v)) s

  remove-remove_entry : (es : List (K × X)) (i : ℕ) (d : K × X) → IsStrictlySortedBy R (keys_of es) → i < length es
      → remove es i ≡ remove_entry (is_at (R (get_or es i d).0)) es
  remove-remove_entry [] i d s within = absurd (omega arith)
  remove-remove_entry (e ∷ es) zero d s within = sym (cond-true _ _ _ (ap is_eq (tied_itself o e.0)))
  remove-remove_entry (e ∷ es) (suc i) d s within =
      let apart : is_eq (R (get_or es i d).0 e.0) ≡ false = ap is_eq (turned_back o e.0 (get_or es i d).0 (all_at (λ y. R e.0 y ≡ Less) es i d (omega arith) (sorted_head R e.0 (keys_of es) s))) in
      ap (λ l. e ∷ l) (remove-remove_entry es i d (sorted_tail R e.0 (keys_of es) s) (omega arith)) ∙ sym (cond-false _ _ _ apart)

  sorted-remove_entry : (test : K → Bool) (es : List (K × X)) → IsStrictlySortedBy R (keys_of es) → IsStrictlySortedBy R (keys_of (remove_entry test es))
  sorted-remove_entry test [] s = s
  sorted-remove_entry test (e ∷ es) s =
      let rest = sorted_tail R e.0 (keys_of es) s in
      elim (test e.0) as (λ b. IsStrictlySortedBy R (keys_of (cond b es (e ∷ remove_entry test es)))) [
        | true ↦ rest
        | false ↦ sorted_cons e (remove_entry test es) (all-remove_entry (λ y. R e.0 y ≡ Less) test es (sorted_head R e.0 (keys_of es) s)) (sorted-remove_entry test es rest)
      ]

  pub sorted-remove_at : (es : List (K × X)) (i : ℕ) (d : K × X) → IsStrictlySortedBy R (keys_of es) → i < length es → IsStrictlySortedBy R (keys_of (remove es i))
  sorted-remove_at es i d s within =
      subst (λ (l : List (K × X)). IsStrictlySortedBy R (keys_of l)) (sym (remove-remove_entry es i d s within)) (sorted-remove_entry (is_at (R (get_or es i d).0)) es s)

  pub lookup-remove_at : (es : List (K × X)) (i : ℕ) (d : K × X) (q : K) → IsStrictlySortedBy R (keys_of es) → i < length es
      → lookup (is_at (R q)) (remove es i) ≡ cond (is_at (R (get_or es i d).0) q) None (lookup (is_at (R q)) es)
  lookup-remove_at es i d q s within =
      let k = (get_or es i d).0 in
      ap (lookup (is_at (R q))) (remove-remove_entry es i d s within)
      ∙ lookup-remove_entry {eq = eq_by_cmp R} (eq_by_cmp_equiv o) (is_at (R k)) (same_test o k) q es (IsDistinct-from_sorted R (keys_of es) s)

  -- ---- some of the entries

  pub sorted-filter : (p : K × X → Bool) (es : List (K × X)) → IsStrictlySortedBy R (keys_of es) → IsStrictlySortedBy R (keys_of (filter p es))
  sorted-filter p [] s = s
  sorted-filter p (e ∷ es) s =
      let rest = sorted-filter p es (sorted_tail R e.0 (keys_of es) s) in
      elim (p e) as (λ b. IsStrictlySortedBy R (keys_of (cond b (e ∷ filter p es) (filter p es)))) [
        | true ↦ sorted_cons e (filter p es) (all-filter (λ y. R e.0 y ≡ Less) p es (sorted_head R e.0 (keys_of es) s)) rest
        | false ↦ rest
      ]

module _ {K X B : Type 0} {R : K → K → Ordering} (o : IsTotalOrder R) (g : K × X → Option B) where
  pub sorted-select : (es : List (K × X)) → IsStrictlySortedBy R (keys_of es) → IsStrictlySortedBy R (keys_of (select g es))
  sorted-select [] s = sorted_nil o
  sorted-select (e ∷ es) s =
      let rest = sorted-select es (sorted_tail R e.0 (keys_of es) s) in
      elim (g e) as (λ b. IsStrictlySortedBy R (keys_of (cons_at e.0 b (select g es)))) [
        | None ↦ rest
        | Some b ↦ sorted_cons {X = B} o (e.0, b) (select g es) (all-select (λ y. R e.0 y ≡ Less) g es (sorted_head R e.0 (keys_of es) s)) rest
      ]

  module _ (exact : CmpEqualImpliesEq R) (q : K) where
    given : (e : K × X) (es : List (K × X)) (b : Option B) → g e ≡ b → (lookup (is_at (R q)) es ≡ None → lookup (is_at (R q)) (select g es) ≡ None) → is_at (R q) e.0 ≡ true → lookup (is_at (R q)) es ≡ None
        → lookup (is_at (R q)) (cons_at e.0 b (select g es)) ≡ b
    given e es None h rest same none = rest none
    given e es (Some b) h rest same none = cond-true _ _ _ same

    passed : (e : K × X) (es : List (K × X)) (b : Option B) → is_at (R q) e.0 ≡ false → lookup (is_at (R q)) (cons_at e.0 b (select g es)) ≡ lookup (is_at (R q)) (select g es)
    passed e es None other = refl
    passed e es (Some b) other = cond-false _ _ _ other

    -- at a key it has what the function gives of the entry there
    pub lookup-select : (es : List (K × X)) → IsStrictlySortedBy R (keys_of es) → lookup (is_at (R q)) (select g es) ≡ option_and_then (λ x. g (q, x)) (lookup (is_at (R q)) es)
    lookup-select [] s = refl
    lookup-select (e ∷ es) s =
        let rest = lookup-select es (sorted_tail R e.0 (keys_of es) s) in
        ⊎_elim
        (λ same.
        let key : e.0 ≡ q = sym (exact q e.0 (equal_from_test (R q e.0) same)) in
        let none = lookup-none (is_at (R q)) es (none_past_head {eq = eq_by_cmp R} (eq_by_cmp_equiv o) q e es (IsDistinct-from_sorted R (keys_of (e ∷ es)) s) same) in
        given e es (g e) refl (λ n. rest ∙ ap (option_and_then (λ x. g (q, x))) n) same none
        ∙ ap (λ k. g (k, e.1)) key
        ∙ sym (ap (option_and_then (λ x. g (q, x))) (lookup_head (is_at (R q)) e es same)))
        (λ other. passed e es (g e) other ∙ rest ∙ sym (ap (option_and_then (λ x. g (q, x))) (lookup_tail (is_at (R q)) e es other)))
        (cases_Bool (is_at (R q) e.0))

-- ---- members

module _ {K X : Type 0} {R : K → K → Ordering} (o : IsTotalOrder R) (exact : CmpEqualImpliesEq R) (es : List (K × X)) where
  pub Contains-from_lookup : (p : K × X) → lookup (is_at (R p.0)) es ≡ Some p.1 → Contains es p
  Contains-from_lookup p h =
      let place = place_from_lookup (is_at (R p.0)) es p.1 h in
      let key : p.0 ≡ place.1 = exact p.0 place.1 (equal_from_test (R p.0 place.1) place.3) in
      let at : slice_get es place.0 ≡ Some p = place.2 ∙ ap (λ k. Some (k, p.1)) (sym key) in
      (place.0, slice_get_within es place.0 p at, get_or_from_slice_get es place.0 p p at)

  pub lookup-contains : (p : K × X) → IsStrictlySortedBy R (keys_of es) → Contains es p → lookup (is_at (R p.0)) es ≡ Some p.1
  lookup-contains p s (i, within, is) =
      subst (λ (e : K × X). lookup (is_at (R e.0)) es ≡ Some e.1) is (lookup-place o es i p s within)

-- ---- two lists that have the same at each key

module _ {K X : Type 0} {R : K → K → Ordering} (o : IsTotalOrder R) (exact : CmpEqualImpliesEq R) where
  first_has : (e : K × X) (es : List (K × X)) → lookup (is_at (R e.0)) (e ∷ es) ≡ Some e.1
  first_has e es = lookup_head (is_at (R e.0)) e es (ap is_eq (tied_itself o e.0))

  clash : (e f : K × X) (es fs : List (K × X)) → IsStrictlySortedBy R (keys_of (f ∷ fs)) → ((q : K) → lookup (is_at (R q)) (e ∷ es) ≡ lookup (is_at (R q)) (f ∷ fs)) → R e.0 f.0 ≡ Less → ⊥
  clash e f es fs s same less =
      none-some e.1 (sym (lookup-none (is_at (R e.0)) (f ∷ fs) (none_below_head o e.0 f fs s less)) ∙ sym (same e.0) ∙ first_has e es)

  no_first : (e : K × X) (es : List (K × X)) (q : K) → IsStrictlySortedBy R (keys_of (e ∷ es)) → is_at (R q) e.0 ≡ true → lookup (is_at (R q)) es ≡ None
  no_first e es q s same = lookup-none (is_at (R q)) es (none_past_head {eq = eq_by_cmp R} (eq_by_cmp_equiv o) q e es (IsDistinct-from_sorted R (keys_of (e ∷ es)) s) same)

  by_order : (e f : K × X) (es fs : List (K × X)) → IsStrictlySortedBy R (keys_of (e ∷ es)) → IsStrictlySortedBy R (keys_of (f ∷ fs))
      → ((q : K) → lookup (is_at (R q)) (e ∷ es) ≡ lookup (is_at (R q)) (f ∷ fs)) → (((q : K) → lookup (is_at (R q)) es ≡ lookup (is_at (R q)) fs) → es ≡ fs) → (r : Ordering) → R e.0 f.0 ≡ r → e ∷ es ≡ f ∷ fs
  by_order e f es fs s t same rest Less is = absurd (clash e f es fs t same is)
  by_order e f es fs s t same rest Greater is = absurd (clash f e fs es s (λ q. sym (same q)) (turned o e.0 f.0 is))
  by_order e f es fs s t same rest Equal is =
      let key : e.0 ≡ f.0 = exact e.0 f.0 is in
      let value : e.1 ≡ f.1 = same_Some e.1 f.1 (sym (first_has e es) ∙ same e.0 ∙ lookup_head (is_at (R e.0)) f fs (ap is_eq is)) in
      let tails : es ≡ fs =
      rest (λ q. ⊎_elim
      (λ at. no_first e es q s at ∙ sym (no_first f fs q t (ap (λ (k : K). is_at (R q) k) (sym key) ∙ at)))
      (λ off. sym (lookup_tail (is_at (R q)) e es off) ∙ same q ∙ lookup_tail (is_at (R q)) f fs (ap (λ (k : K). is_at (R q) k) (sym key) ∙ off))
      (cases_Bool (is_at (R q) e.0))) in
      ap (λ (k : K). (k, e.1) ∷ es) key ∙ ap (λ (v : X). (f.0, v) ∷ es) value ∙ ap (λ (l : List (K × X)). f ∷ l) tails

  pub same_lookups : (es fs : List (K × X)) → IsStrictlySortedBy R (keys_of es) → IsStrictlySortedBy R (keys_of fs) → ((q : K) → lookup (is_at (R q)) es ≡ lookup (is_at (R q)) fs) → es ≡ fs
  same_lookups [] [] s t same = refl
  same_lookups [] (f ∷ fs) s t same = absurd (none-some f.1 (same f.0 ∙ first_has f fs))
  same_lookups (e ∷ es) [] s t same = absurd (none-some e.1 (sym (same e.0) ∙ first_has e es))
  same_lookups (e ∷ es) (f ∷ fs) s t same =
      by_order e f es fs s t same (same_lookups es fs (sorted_tail R e.0 (keys_of es) s) (sorted_tail R f.0 (keys_of fs) t)) (R e.0 f.0) refl
