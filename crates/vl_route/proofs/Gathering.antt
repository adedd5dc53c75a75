-- Loops that gather what a function gives of the items.
use Rattle.std.proofs.Common.{◌≡◌, ℕ, zero, suc, ◌+◌, ◌<◌, List, [], ◌∷◌, ◌++◌, length, get_or, take, Option, Some, None, refl, sym, ap, ◌∙◌, subst, arith}
use Rattle.std.specs.List.{cons_option, filter_map, range_with_len, slice_get}
use Rattle.std.proofs.lemmas.List.{append-nil, take_more}
use Rattle.std.proofs.lemmas.List.Elements.{filter_map-append}
use Rattle.std.proofs.lemmas.Option.{slice_get-get_or}
use Rattle.vl_catalog.specs.declared.table.Table.{Table}

-- ---- items that are read by their places

pub take_some : {A B : Type 0} (h : A → Option B) (xs : List A) (i : ℕ) (x : A) (y : B) (made new : List B) → i < length xs → x ≡ get_or xs i x → h x ≡ Some y → made ≡ filter_map h (take i xs)
    → new ≡ made ++ y ∷ [] → new ≡ filter_map h (take (i + 1) xs)
take_some h xs i x y made new within is gives far pushed =
    pushed ∙ ap (λ zs. zs ++ y ∷ []) far
    ∙ sym (ap (filter_map h) (take_more xs i x within) ∙ filter_map-append h (take i xs) (get_or xs i x ∷ []) ∙ ap (λ z. filter_map h (take i xs) ++ filter_map h (z ∷ [])) (sym is) ∙ ap (λ o. filter_map h (take i xs) ++ cons_option o []) gives)

pub take_none : {A B : Type 0} (h : A → Option B) (xs : List A) (i : ℕ) (x : A) (made : List B) → i < length xs → x ≡ get_or xs i x → h x ≡ None → made ≡ filter_map h (take i xs) → made ≡ filter_map h (take (i + 1) xs)
take_none h xs i x made within is gives far =
    far
    ∙ sym (ap (filter_map h) (take_more xs i x within) ∙ filter_map-append h (take i xs) (get_or xs i x ∷ []) ∙ ap (λ z. filter_map h (take i xs) ++ filter_map h (z ∷ [])) (sym is) ∙ ap (λ o. filter_map h (take i xs) ++ cons_option o []) gives ∙ append-nil (filter_map h (take i xs)))

-- ---- the shards of a keyspace

range_suc : (a n : ℕ) → range_with_len a (suc n) ≡ range_with_len a n ++ (a + n) ∷ []
range_suc a zero = let e : a ≡ a + 0 = omega arith in ap (λ k. k ∷ []) e
range_suc a (suc n) = let e : (a + 1) + n ≡ a + suc n = omega arith in ap (λ zs. a ∷ zs) (range_suc (a + 1) n ∙ ap (λ k. range_with_len (a + 1) n ++ k ∷ []) e)

pub range_more : (a n : ℕ) → range_with_len a (n + 1) ≡ range_with_len a n ++ (a + n) ∷ []
range_more a n = let e : n + 1 ≡ suc n = omega arith in ap (range_with_len a) e ∙ range_suc a n

-- ---- an element that was looked up

pub given_at : (xs ys : List Table) (n : ℕ) (table : Table) → xs ≡ ys → n < length xs → table ≡ get_or xs n table → slice_get ys n ≡ Some table
given_at xs ys n table same within is = subst (λ (zs : List Table). slice_get zs n ≡ Some table) same (slice_get-get_or xs n table within ∙ ap (λ (t : Table). Some t) (sym is))
