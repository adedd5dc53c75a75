-- What is found by one lookup after the other, and the list of all of it in order.
use Rattle.std.proofs.Common.{◌≡◌, ℕ, zero, suc, ◌+◌, ◌<◌, ◌⊎◌, inl, inr, false, List, [], ◌∷◌, ◌++◌, length, take, get_or, refl, sym, ap, subst, ◌∙◌, ⊎_elim, arith}
use Rattle.std.specs.BTreeMap.{BTreeMap, is_at, keys}
use Rattle.std.specs.List.{Contains}
use Rattle.std.specs.List.Sorted.{IsStrictlySortedBy}
use Rattle.std.specs.Map.{lookup}
use Rattle.std.specs.Option.{is_some}
use Rattle.std.specs.Ordering.{eq_by_cmp}
use Rattle.std.proofs.lemmas.Bool.{both_ways, true≢false}
use Rattle.std.proofs.lemmas.Cmp.{eq_by_cmp_equiv}
use Rattle.std.proofs.lemmas.List.{take_more}
use Rattle.std.proofs.lemmas.Map.Made.{is_some-lookup}
use Rattle.std.proofs.lemmas.Map.Views.{Contains-from_any, list_any-from_Contains}
use Rattle.vl_catalog.specs.declared.catalog.Catalog.{Catalog}
use Rattle.vl_catalog.specs.declared.lookup.Lookup.{Lookup}
use Rattle.vl_model.specs.Tables.{Pair, Tables}
use Rattle.vl_audit.specs.declared.found.Found.{Found}
use Rattle.vl_audit.specs.Audit.{AreThose, BySome, IsDoubled, found_cmp, pair_of}
use Rattle.vl_audit.specs.Finding.{Adds, ByThese, Has, StandsSo}
use Rattle.vl_audit.proofs.Adding.{equal_from, found_cmp_exact, found_cmp_total}
use Rattle.vl_audit.proofs.Given.{in_tail}

-- ---- members of a list with one more

module _ {X : Type 0} where
  in_append : (xs : List X) (x y : X) → Contains (xs ++ x ∷ []) y → Contains xs y ⊎ (x ≡ y)
  in_append [] x y (zero, within, is) = inr is
  in_append [] x y (suc k, within, is) = absurd (omega arith)
  in_append (z ∷ xs) x y (zero, within, is) = inl (zero, omega arith, is)
  in_append (z ∷ xs) x y (suc k, within, is) = ⊎_elim (λ inside. inl (in_tail z y xs inside)) (λ last. inr last) (in_append xs x y (k, omega arith, is))

  in_front : (xs : List X) (x y : X) → Contains xs y → Contains (xs ++ x ∷ []) y
  in_front [] x y (k, within, is) = absurd (omega arith)
  in_front (z ∷ xs) x y (zero, within, is) = (zero, omega arith, is)
  in_front (z ∷ xs) x y (suc k, within, is) = in_tail z y (xs ++ x ∷ []) (in_front xs x y (k, omega arith, is))

  at_last : (xs : List X) (x : X) → Contains (xs ++ x ∷ []) x
  at_last [] x = (zero, omega arith, refl)
  at_last (z ∷ xs) x = in_tail z x (xs ++ x ∷ []) (at_last xs x)

-- ---- lookup after lookup

module _ (tables : Tables) (P : Lookup → Pair → Type 0) where
  nothing : (f : Found) → ByThese tables P [] f → ⊥
  nothing f (stands, (by, (k, within, is), so)) = omega arith

  pub by_none : (map : BTreeMap Found (Unit {0})) → Adds (ByThese tables P []) map map
  by_none map f = record { 0 = λ h. inl h; 1 = λ h. ⊎_elim (λ x. x) (λ so. absurd (nothing f so)) h }

  pub by_one_more : (lookups : List Lookup) (i : ℕ) (item : Lookup) (start old new : BTreeMap Found (Unit {0})) → i < length lookups → item ≡ get_or lookups i item
      → Adds (StandsSo tables (P item)) old new → Adds (ByThese tables P (take i lookups)) start old → Adds (ByThese tables P (take (i + 1) lookups)) start new
  by_one_more lookups i item start old new within is adds before =
      let longer : take (i + 1) lookups ≡ take i lookups ++ item ∷ [] =
      take_more lookups i item within ∙ ap (λ (x : Lookup). take i lookups ++ x ∷ []) (sym is) in
      subst (λ (l : List Lookup). Adds (ByThese tables P l) start new) (sym longer)
      (λ f. record {
        0 = λ h. ⊎_elim
            (λ had. ⊎_elim (λ first. inl first) (λ so. inr (so.0, (so.1.0, in_front (take i lookups) item so.1.0 so.1.1, so.1.2))) ((before f).0 had))
            (λ so. inr (so.0, (item, at_last (take i lookups) item, so.1)))
            ((adds f).0 h);
        1 = λ h. (adds f).1 (⊎_elim
            (λ first. inl ((before f).1 (inl first)))
            (λ so. ⊎_elim
            (λ inside. inl ((before f).1 (inr (so.0, (so.1.0, inside, so.1.2)))))
            (λ last. inr (so.0, subst (λ (l : Lookup). P l (pair_of f)) (sym last) so.1.2))
            (in_append (take i lookups) item so.1.0 so.1.1))
            h);
      })

-- ---- the list

has_key : (map : BTreeMap Found (Unit {0})) (f : Found) → Has map f → Contains (keys map) f
has_key map f h =
    Contains-from_any {eq = eq_by_cmp found_cmp} (λ x y same. found_cmp_exact x y (equal_from (found_cmp x y) same)) f (keys map)
    (sym (is_some-lookup (is_at (found_cmp f)) map.entries) ∙ h)

key_had : (map : BTreeMap Found (Unit {0})) (f : Found) → Contains (keys map) f → Has map f
key_had map f h =
    is_some-lookup (is_at (found_cmp f)) map.entries ∙ list_any-from_Contains {eq = eq_by_cmp found_cmp} (eq_by_cmp_equiv found_cmp_total) f (keys map) h

none_had : (map : BTreeMap Found (Unit {0})) (f : Found) → map.entries ≡ [] → Has map f → ⊥
none_had map f empty h = true≢false (sym h ∙ ap (λ es. is_some (lookup (is_at (found_cmp f)) es)) empty)

pub all_listed : (catalog : Catalog) (tables : Tables) (P : Lookup → Pair → Type 0) (start map : BTreeMap Found (Unit {0})) (lookups : List Lookup) (list : List Found) → start.entries ≡ []
    → lookups ≡ catalog.lookups → Adds (ByThese tables P lookups) start map → list ≡ keys map → IsStrictlySortedBy found_cmp list → AreThose (BySome catalog tables P) list
all_listed catalog tables P start map lookups list empty same adds are sorted =
    let adds_all : Adds (ByThese tables P catalog.lookups) start map = subst (λ (l : List Lookup). Adds (ByThese tables P l) start map) same adds in
    record {
      those = λ f. record {
        0 = λ h. ⊎_elim (λ had. absurd (none_had start f empty had)) (λ so. so) ((adds_all f).0 (key_had map f (subst (λ (l : List Found). Contains l f) are h)));
        1 = λ so. subst (λ (l : List Found). Contains l f) (sym are) (has_key map f ((adds_all f).1 (inr so)));
      };
      order = sorted;
    }

-- ---- a lookup that isn't unique finds none

pub none_doubled : (tables : Tables) (lookup : Lookup) (map : BTreeMap Found (Unit {0})) → lookup.unique ≡ false → Adds (StandsSo tables (IsDoubled tables lookup)) map map
none_doubled tables lookup map off f = record { 0 = λ h. inl h; 1 = λ h. ⊎_elim (λ x. x) (λ so. absurd (both_ways lookup.unique off so.1.unique)) h }
