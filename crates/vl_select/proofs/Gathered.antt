-- Columns that are gathered one after the other.
use Rattle.std.proofs.Common.{◌≡◌, ℕ, zero, suc, ◌+◌, ◌<◌, List, [], ◌∷◌, ◌++◌, length, get_or, take, Option, sym, ap, ◌∙◌, arith}
use Rattle.std.specs.List.{cons_option, filter_map, range_with_len}
use Rattle.std.proofs.lemmas.List.{take_more}
use Rattle.std.proofs.lemmas.List.Elements.{filter_map-append}

-- what is gathered of the items before, and of one more
pub gathered_more : {A B : Type 0} (h : A → Option B) (xs : List A) (x : A) (made new : List B) → made ≡ filter_map h xs → new ≡ made ++ cons_option (h x) [] → new ≡ filter_map h (xs ++ x ∷ [])
gathered_more h xs x made new far added = added ∙ ap (λ zs. zs ++ cons_option (h x) []) far ∙ sym (filter_map-append h xs (x ∷ []))

range_suc : (a n : ℕ) → range_with_len a (suc n) ≡ range_with_len a n ++ (a + n) ∷ []
range_suc a zero = let e : a ≡ a + 0 = omega arith in ap (λ k. k ∷ []) e
range_suc a (suc n) = let e : (a + 1) + n ≡ a + suc n = omega arith in ap (λ zs. a ∷ zs) (range_suc (a + 1) n ∙ ap (λ k. range_with_len (a + 1) n ++ k ∷ []) e)

pub range_more : (n : ℕ) → range_with_len 0 (n + 1) ≡ range_with_len 0 n ++ n ∷ []
range_more n = let e : n + 1 ≡ suc n = omega arith in let z : 0 + n ≡ n = omega arith in ap (range_with_len 0) e ∙ range_suc 0 n ∙ ap (λ k. range_with_len 0 n ++ k ∷ []) z

pub taken_more : (xs : List ℕ) (i : ℕ) → i < length xs → take (i + 1) xs ≡ take i xs ++ get_or xs i 0 ∷ []
taken_more xs i within = take_more xs i 0 within
