-- Values in ascending order, each once: a list of such values is known by its members.
use Rattle.std.proofs.Common.{◌≡◌, ℕ, ◌+◌, ◌<◌, ◌⊎◌, inl, inr, Bool, true, false, cond, List, [], ◌∷◌, ◌++◌, length, get_or, Some, refl, sym, ap, ◌∙◌, subst, arith}
use Rattle.std.specs.Prelude.{Contains, filter, find, fold, not}
use Rattle.std.specs.List.{AllPairs, dedup}
use Rattle.std.specs.List.Sorted.{IsPermutation, IsSorted, IsStrictlySortedBy}
use Rattle.std.specs.Ordering.{eq_by_cmp, is_eq, ordering_reverse}
use Rattle.std.specs.declared.cmp.Ordering.{Ordering}
use Rattle.std.specs.declared.cmp.Ordering.TheVariants.{Less, Equal, Greater}
use Rattle.std.proofs.lemmas.Cmp.{eq_by_cmp_equiv, tied_itself}
use Rattle.std.proofs.lemmas.List.Elements.{All-contains, All-from_recursion, Contains-append_left, Contains-append_right, Contains-append_cases, Contains-get_or, Contains-push, Contains-push_cases}
use Rattle.std.proofs.lemmas.List.Kept.{AllPairs-cons, Contains-dedup, Contains-from_dedup, IsStrictlySortedBy-dedup}
use Rattle.std.proofs.lemmas.List.Sorted.{Contains-permutation, IsPermutation-sym}
use Rattle.std.proofs.lemmas.Option.{same_Some}
use Rattle.vl_values.specs.declared.value.Value.{Value}
use Rattle.vl_values.specs.Order.{value_cmp_total}
use Rattle.vl_values.specs.Value.{is_null, value_cmp}
use Rattle.vl_values.proofs.KeyOrder.{value_cmp_exact}
use Rattle.vl_plan.specs.Planned.{in_order, placed, placed_by}

-- ---- members

pub here : {X : Type 0} (x : X) (xs : List X) → Contains (x ∷ xs) x
here x xs = Contains-append_left (x ∷ []) xs x (Contains-push [] x)

pub there : {X : Type 0} (x : X) (xs : List X) (w : X) → Contains xs w → Contains (x ∷ xs) w
there x xs w h = Contains-append_right (x ∷ []) xs w h

pub no_member : {X : Type 0} (w : X) → Contains [] w → ⊥
no_member w h = omega (arith, h.1)

only_member : {X : Type 0} (x w : X) → Contains (x ∷ []) w → x ≡ w
only_member x w h = elim (Contains-push_cases [] x w h) [ inl g ↦ absurd (no_member w g) | inr e ↦ e ]

pub split_member : {X : Type 0} (x : X) (xs : List X) (w : X) → Contains (x ∷ xs) w → (x ≡ w) ⊎ Contains xs w
split_member x xs w h = elim (Contains-append_cases (x ∷ []) xs w h) [ inl g ↦ inl (only_member x w g) | inr g ↦ inr g ]

-- what is found passes, and is one of them
found_by : {X : Type 0} (p : X → Bool) (b : Bool) (x : X) (xs : List X) (a : X) → p x ≡ b → (find p xs ≡ Some a → (p a ≡ true) × Contains xs a)
    → cond b (Some x) (find p xs) ≡ Some a → (p a ≡ true) × Contains (x ∷ xs) a
found_by {X} p true x xs a is rest e =
    let same = same_Some x a e in (subst (λ (it : X). p it ≡ true) same is, subst (λ (it : X). Contains (x ∷ xs) it) same (here x xs))
found_by p false x xs a is rest e = let found = rest e in (found.0, there x xs a found.1)

pub found_in : {X : Type 0} (p : X → Bool) (xs : List X) (a : X) → find p xs ≡ Some a → (p a ≡ true) × Contains xs a
found_in p [] a e = cc
found_in p (x ∷ xs) a e = found_by p (p x) x xs a refl (found_in p xs a) e

-- ---- ascending lists

abbrev pub IsAscending : List Value → Type 0
IsAscending [] = Unit {0}
IsAscending (x ∷ xs) = ((w : Value) → Contains xs w → value_cmp x w ≡ Less) × IsAscending xs

pub ascending_from_sorted : (xs : List Value) → IsStrictlySortedBy value_cmp xs → IsAscending xs
unfolding IsStrictlySortedBy
ascending_from_sorted [] h = tt
ascending_from_sorted (x ∷ xs) h = (λ w c. All-contains (λ y. value_cmp x y ≡ Less) xs w (All-from_recursion (λ y. value_cmp x y ≡ Less) xs h.0) c, ascending_from_sorted xs h.1)

pub pairs_ascending : (xs : List Value) → IsAscending xs → AllPairs (λ one other. value_cmp one other ≡ Less) xs
pairs_ascending [] h = λ i j d before within. absurd (omega (arith, within))
pairs_ascending (x ∷ xs) h =
    AllPairs-cons (λ one other. value_cmp one other ≡ Less) x xs (λ k d lt. h.0 (get_or xs k d) (Contains-get_or xs k d lt)) (pairs_ascending xs h.1)

never_itself : (x w : Value) → x ≡ w → value_cmp x w ≡ Less → ⊥
never_itself x w e h =
    let tied : value_cmp x x ≡ Equal = tied_itself value_cmp_total x in
    let less : value_cmp x x ≡ Less = subst (λ (y : Value). value_cmp x y ≡ Less) (sym e) h in
    cc (tied, less)

never_both : (x y : Value) → value_cmp x y ≡ Less → value_cmp y x ≡ Less → ⊥
never_both x y h g =
    let turned : value_cmp x y ≡ ordering_reverse (value_cmp y x) = value_cmp_total.antisymm x y in
    let greater : value_cmp x y ≡ Greater = turned ∙ ap ordering_reverse g in
    cc (h, greater)

same_first : (x y : Value) (xs ys : List Value) → IsAscending (x ∷ xs) → IsAscending (y ∷ ys) → (y ≡ x) ⊎ Contains ys x → (x ≡ y) ⊎ Contains xs y → x ≡ y
same_first x y xs ys a b (inl e) other = sym e
same_first x y xs ys a b (inr h) (inl e) = e
same_first x y xs ys a b (inr h) (inr g) = absurd (never_both x y (a.0 y g) (b.0 x h))

rest_of : (x y : Value) (xs ys : List Value) (w : Value) → IsAscending (x ∷ xs) → x ≡ y → Contains xs w → (y ≡ w) ⊎ Contains ys w → Contains ys w
rest_of x y xs ys w a e h (inl f) = absurd (never_itself x w (e ∙ f) (a.0 w h))
rest_of x y xs ys w a e h (inr g) = g

-- two ascending lists with the same members are one
pub same_ascending : (xs ys : List Value) → IsAscending xs → IsAscending ys → ((w : Value) → Contains xs w → Contains ys w) → ((w : Value) → Contains ys w → Contains xs w) → xs ≡ ys
same_ascending [] [] a b to from = refl
same_ascending [] (y ∷ ys) a b to from = absurd (no_member y (from y (here y ys)))
same_ascending (x ∷ xs) [] a b to from = absurd (no_member x (to x (here x xs)))
same_ascending (x ∷ xs) (y ∷ ys) a b to from =
    let first : x ≡ y = same_first x y xs ys a b (split_member y ys x (to x (here x xs))) (split_member x xs y (from y (here y ys))) in
    let rest : xs ≡ ys =
    same_ascending xs ys a.1 b.1 (λ w h. rest_of x y xs ys w a first h (split_member y ys w (to w (there x xs w h))))
    (λ w h. rest_of y x ys xs w b (sym first) h (split_member x xs w (from w (there y ys w h)))) in
    λ i. first i ∷ rest i

-- ---- a value at its place

placed_has_by : (o : Ordering) (v x : Value) (xs more : List Value) → value_cmp v x ≡ o → Contains more v → Contains (placed_by o v x xs more) v
placed_has_by Less v x xs more e h = here v (x ∷ xs)
placed_has_by Equal v x xs more e h = subst (λ (w : Value). Contains (x ∷ xs) w) (sym (value_cmp_exact v x e)) (here x xs)
placed_has_by Greater v x xs more e h = there x more v h

placed_has : (v : Value) (xs : List Value) → Contains (placed v xs) v
placed_has v [] = here v []
placed_has v (x ∷ xs) = placed_has_by (value_cmp v x) v x xs (placed v xs) refl (placed_has v xs)

kept_in_greater : (x w : Value) (xs more : List Value) → (Contains xs w → Contains more w) → (x ≡ w) ⊎ Contains xs w → Contains (x ∷ more) w
kept_in_greater x w xs more keep (inl e) = subst (λ (u : Value). Contains (x ∷ more) u) e (here x more)
kept_in_greater x w xs more keep (inr h) = there x more w (keep h)

placed_keeps_by : (o : Ordering) (v x w : Value) (xs more : List Value) → (Contains xs w → Contains more w) → Contains (x ∷ xs) w → Contains (placed_by o v x xs more) w
placed_keeps_by Less v x w xs more keep h = there v (x ∷ xs) w h
placed_keeps_by Equal v x w xs more keep h = h
placed_keeps_by Greater v x w xs more keep h = kept_in_greater x w xs more keep (split_member x xs w h)

placed_keeps : (v : Value) (xs : List Value) (w : Value) → Contains xs w → Contains (placed v xs) w
placed_keeps v [] w h = absurd (no_member w h)
placed_keeps v (x ∷ xs) w h = placed_keeps_by (value_cmp v x) v x w xs (placed v xs) (placed_keeps v xs w) h

from_greater : (v x w : Value) (xs more : List Value) → (Contains more w → (v ≡ w) ⊎ Contains xs w) → (x ≡ w) ⊎ Contains more w → (v ≡ w) ⊎ Contains (x ∷ xs) w
from_greater v x w xs more from (inl e) = inr (subst (λ (u : Value). Contains (x ∷ xs) u) e (here x xs))
from_greater v x w xs more from (inr h) = elim (from h) [ inl e ↦ inl e | inr g ↦ inr (there x xs w g) ]

placed_from_by : (o : Ordering) (v x w : Value) (xs more : List Value) → (Contains more w → (v ≡ w) ⊎ Contains xs w) → Contains (placed_by o v x xs more) w → (v ≡ w) ⊎ Contains (x ∷ xs) w
placed_from_by Less v x w xs more from h = split_member v (x ∷ xs) w h
placed_from_by Equal v x w xs more from h = inr h
placed_from_by Greater v x w xs more from h = from_greater v x w xs more from (split_member x more w h)

placed_from : (v : Value) (xs : List Value) (w : Value) → Contains (placed v xs) w → (v ≡ w) ⊎ Contains xs w
placed_from v [] w h = inl (only_member v w h)
placed_from v (x ∷ xs) w h = placed_from_by (value_cmp v x) v x w xs (placed v xs) (placed_from v xs w) h

below_first : (v x w : Value) (xs : List Value) → IsAscending (x ∷ xs) → value_cmp v x ≡ Less → (x ≡ w) ⊎ Contains xs w → value_cmp v w ≡ Less
below_first v x w xs a e (inl f) = subst (λ (u : Value). value_cmp v u ≡ Less) f e
below_first v x w xs a e (inr h) = value_cmp_total.trans v x w e (a.0 w h)

above_first : (v x w : Value) (xs : List Value) → IsAscending (x ∷ xs) → value_cmp v x ≡ Greater → (v ≡ w) ⊎ Contains xs w → value_cmp x w ≡ Less
above_first v x w xs a e (inl f) = subst (λ (u : Value). value_cmp x u ≡ Less) f (value_cmp_total.antisymm x v ∙ ap ordering_reverse e)
above_first v x w xs a e (inr h) = a.0 w h

placed_ascending_by : (o : Ordering) (v x : Value) (xs : List Value) → value_cmp v x ≡ o → IsAscending (x ∷ xs) → IsAscending (placed v xs) → IsAscending (placed_by o v x xs (placed v xs))
placed_ascending_by Less v x xs e a p = (λ w h. below_first v x w xs a e (split_member x xs w h), a)
placed_ascending_by Equal v x xs e a p = a
placed_ascending_by Greater v x xs e a p = (λ w h. above_first v x w xs a e (placed_from v xs w h), p)

placed_ascending : (v : Value) (xs : List Value) → IsAscending xs → IsAscending (placed v xs)
placed_ascending v [] a = (λ w h. absurd (no_member w h), tt)
placed_ascending v (x ∷ xs) a = placed_ascending_by (value_cmp v x) v x xs refl a (placed_ascending v xs a.1)

-- ---- all values at their places

abbrev all_placed : List Value → List Value → List Value
all_placed before values = fold (λ (done : List Value) (value : Value). placed value done) before values

all_ascending : (before values : List Value) → IsAscending before → IsAscending (all_placed before values)
all_ascending before [] a = a
all_ascending before (v ∷ values) a = all_ascending (placed v before) values (placed_ascending v before a)

all_keep : (before values : List Value) (w : Value) → Contains before w → Contains (all_placed before values) w
all_keep before [] w h = h
all_keep before (v ∷ values) w h = all_keep (placed v before) values w (placed_keeps v before w h)

all_have_by : (before : List Value) (v w : Value) (values : List Value) → (Contains values w → Contains (all_placed (placed v before) values) w) → (v ≡ w) ⊎ Contains values w
    → Contains (all_placed (placed v before) values) w
all_have_by before v w values rest (inl e) = all_keep (placed v before) values w (subst (λ (u : Value). Contains (placed v before) u) e (placed_has v before))
all_have_by before v w values rest (inr h) = rest h

all_have : (before values : List Value) (w : Value) → Contains values w → Contains (all_placed before values) w
all_have before [] w h = absurd (no_member w h)
all_have before (v ∷ values) w h = all_have_by before v w values (all_have (placed v before) values w) (split_member v values w h)

all_from_by : (before : List Value) (v w : Value) (values : List Value) → Contains (placed v before) w ⊎ Contains values w → Contains before w ⊎ Contains (v ∷ values) w
all_from_by before v w values (inl h) =
    elim (placed_from v before w h) [ inl e ↦ inr (subst (λ (u : Value). Contains (v ∷ values) u) e (here v values)) | inr g ↦ inl g ]
all_from_by before v w values (inr h) = inr (there v values w h)

all_from : (before values : List Value) (w : Value) → Contains (all_placed before values) w → Contains before w ⊎ Contains values w
all_from before [] w h = inl h
all_from before (v ∷ values) w h = all_from_by before v w values (all_from (placed v before) values w h)

-- ---- in order

abbrev without_null : List Value → List Value
without_null values = filter (λ (value : Value). not (is_null value)) values

pub in_order_ascending : (values : List Value) → IsAscending (in_order values)
in_order_ascending values = all_ascending [] (without_null values) tt

pub in_order_from : (values : List Value) (w : Value) → Contains (in_order values) w → Contains (filter (λ (value : Value). not (is_null value)) values) w
in_order_from values w h = elim (all_from [] (without_null values) w h) [ inl g ↦ absurd (no_member w g) | inr g ↦ g ]

-- an ascending list of the same members other than NULL
pub is_in_order : (values sorted : List Value) → IsAscending sorted
    → ((w : Value) → Contains (filter (λ (value : Value). not (is_null value)) values) w → Contains sorted w)
    → ((w : Value) → Contains sorted w → Contains (filter (λ (value : Value). not (is_null value)) values) w)
    → sorted ≡ in_order values
is_in_order values sorted a to from =
    same_ascending sorted (in_order values) a (in_order_ascending values) (λ w h. all_have [] (without_null values) w (from w h)) (λ w h. to w (in_order_from values w h))

is_tied : (o : Ordering) → is_eq o ≡ true → o ≡ Equal
is_tied Less e = cc
is_tied Equal e = refl
is_tied Greater e = cc

-- so is what a sort leaves of them, each once
pub sorted_in_order : (values kept sorted final : List Value) → kept ≡ filter (λ (value : Value). not (is_null value)) values
    → IsPermutation kept sorted → IsSorted value_cmp sorted → final ≡ dedup (eq_by_cmp value_cmp) sorted → final ≡ in_order values
sorted_in_order values kept sorted final without moved rises once =
    once
    ∙ is_in_order values (dedup (eq_by_cmp value_cmp) sorted)
    (ascending_from_sorted (dedup (eq_by_cmp value_cmp) sorted) (IsStrictlySortedBy-dedup value_cmp_total (λ x y. refl) sorted rises))
    (λ w h. Contains-dedup (eq_by_cmp_equiv value_cmp_total) (λ x y e. value_cmp_exact x y (is_tied (value_cmp x y) e)) sorted w
    (Contains-permutation kept sorted w moved (subst (λ (vs : List Value). Contains vs w) (sym without) h)))
    (λ w h. subst (λ (vs : List Value). Contains vs w) without
    (Contains-permutation sorted kept w (IsPermutation-sym kept sorted moved) (Contains-from_dedup (eq_by_cmp value_cmp) sorted w h)))
