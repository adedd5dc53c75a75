-- What comes to the map of found rows where the rows that pass a test are gathered, and which rows pass.
use Rattle.std.proofs.Common.{◌≡◌, ℕ, ◌+◌, Bool, true, false, ◌⊎◌, inl, inr, Option, None, Some, refl, sym, ap, subst, ◌∙◌, ⊎_elim, zero-add}
use Rattle.std.specs.declared.cmp.Ordering.{Ordering}
use Rattle.std.specs.declared.cmp.Ordering.TheVariants.{Less, Equal, Greater}
use Rattle.std.specs.BTreeMap.{BTreeMap, get, is_at}
use Rattle.std.specs.Option.{is_some, option_map, option_or}
use Rattle.std.specs.Ordering.{is_eq}
use Rattle.std.proofs.lemmas.Bool.{and_from, and_parts, both_ways, cases_Bool, cond-true, cond-false, false_from_ne_true, not-true, not_from_false, true≢false}
use Rattle.std.proofs.lemmas.Cmp.{nat_cmp_total, on_total, then_total, tied_itself}
use Rattle.std.proofs.lemmas.Map.Lookups.{CmpEqualImpliesEq, exact_unsigned}
use Rattle.std.proofs.lemmas.Option.{none-some, same_Some}
use Rattle.std.specs.Cmp.{IsTotalOrder}
use Rattle.std.specs.Ordering.{ordering_then}
use Rattle.vl_values.proofs.KeyOrder.{key_cmp_exact, key_cmp_total, row_cmp_exact, value_cmp_exact}
use Rattle.vl_values.specs.Order.{row_cmp_total, value_cmp_total}
use Rattle.vl_catalog.specs.declared.catalog.Catalog.{Catalog}
use Rattle.vl_catalog.specs.declared.lookup.Lookup.{Lookup}
use Rattle.vl_model.specs.Tables.{Pair, Stands, Tables, table_of}
use Rattle.vl_model.specs.Entries.{IsRow, is_lookup_table}
use Rattle.vl_model.specs.Sound.{IsOrphan}
use Rattle.vl_audit.specs.declared.found.Found.{Found}
use Rattle.vl_audit.specs.declared.mapping.Mapping.{Mapping}
use Rattle.vl_audit.specs.Audit.{IsMissing, found_cmp, mapping_cmp, pair_of}
use Rattle.vl_audit.specs.Finding.{Adds, Has, StandsSo}
use Rattle.vl_audit.specs.Gathering.{first_given, given_from}
use Rattle.vl_audit.specs.Giving.{alone, found_where, is_met, is_unmet, is_unneeded, needed, said}
use Rattle.vl_audit.specs.Mapping.{entry_mapping, row_mapping}
use Rattle.vl_audit.proofs.Given.{row_that_gives, seen}
use Rattle.vl_audit.proofs.Needing.{agree_from, indexed_from, indexed_is, needs_from, served, serves}

-- ---- the orders tell apart what differs

both_equal : (a b : Ordering) → ordering_then a b ≡ Equal → (a ≡ Equal) × (b ≡ Equal)
both_equal Less b e = cc
both_equal Equal b e = (refl, e)
both_equal Greater b e = cc

pub equal_from : (o : Ordering) → is_eq o ≡ true → o ≡ Equal
equal_from Less e = cc
equal_from Equal e = refl
equal_from Greater e = cc

pub found_cmp_exact : CmpEqualImpliesEq found_cmp
found_cmp_exact a b e =
    let first = both_equal _ _ e in
    let rest = both_equal _ _ first.1 in
    let shard = exact_unsigned a.shard b.shard first.0 in
    let key = key_cmp_exact a.key b.key rest.0 in
    let row = row_cmp_exact a.row b.row rest.1 in
    λ i. record { shard = shard i; key = key i; row = row i }

pub found_cmp_total : IsTotalOrder found_cmp
found_cmp_total = then_total (on_total (λ f. f.shard) nat_cmp_total) (then_total (on_total (λ f. f.key) key_cmp_total) (on_total (λ f. f.row) row_cmp_total))

pub mapping_cmp_exact : CmpEqualImpliesEq mapping_cmp
mapping_cmp_exact a b e =
    let both = both_equal _ _ e in
    let values = row_cmp_exact a.values b.values both.0 in
    let ksid = value_cmp_exact a.ksid b.ksid both.1 in
    λ i. record { values = values i; ksid = ksid i }

pub mapping_cmp_total : IsTotalOrder mapping_cmp
mapping_cmp_total = then_total (on_total (λ m. m.values) row_cmp_total) (on_total (λ m. m.ksid) value_cmp_total)

-- ---- rows that pass a test

pub some_is : {X : Type 0} (o : Option X) → is_some o ≡ true → (x : X) × (o ≡ Some x)
some_is None h = absurd (true≢false (sym h))
some_is (Some x) h = (x, refl)

abbrev pub both : Found → Unit {0} → Option (Found × Unit {0})
both f v = Some (f, v)

first_part : (f g : Found) (v w : Unit {0}) → both f v ≡ both g w → f ≡ g
first_part f g v w h = ap (λ (p : Found × Unit {0}). p.0) (same_Some (f, v) (g, w) h)

cases_or : {X : Type 0} (a b : Option X) (P Q : Type 0) → (is_some a ≡ true → P) → (is_some b ≡ true → Q) → is_some (option_or a b) ≡ true → P ⊎ Q
cases_or None b P Q f g h = inr (g h)
cases_or (Some x) b P Q f g h = inl (f refl)

or_left : {X : Type 0} (a b : Option X) → is_some a ≡ true → is_some (option_or a b) ≡ true
or_left None b h = absurd (true≢false (sym h))
or_left (Some x) b h = refl

or_right : {X : Type 0} (a b : Option X) → is_some b ≡ true → is_some (option_or a b) ≡ true
or_right None b h = h
or_right (Some x) b h = refl

module _ (test : Pair → Bool) (tables : Tables) where
  abbrev pub passing : ℕ → Pair → Option (Found × Unit {0})
  passing shard pair = found_where (test pair) shard pair

  abbrev found_at : ℕ → Pair → Found
  found_at shard pair = record { shard = shard; key = pair.0; row = pair.1 }

  passed : (shard : ℕ) (pair : Pair) (f : Found) (v : Unit {0}) → passing shard pair ≡ Some (f, v) → (test pair ≡ true) × (found_at shard pair ≡ f)
  passed shard pair f v h =
      ⊎_elim
      (λ is. (is, first_part (found_at shard pair) f tt v (sym (cond-true (test pair) _ _ is) ∙ h)))
      (λ off. absurd (none-some (f, v) (sym (cond-false (test pair) _ _ off) ∙ h)))
      (cases_Bool (test pair))

  stands_at : (shard : ℕ) (pair : Pair) → Stands tables shard pair → Stands tables (0 + shard) pair
  stands_at shard pair stands = subst (λ (s : ℕ). Stands tables s pair) (sym (zero-add shard)) stands

  passes : (f : Found) → test (pair_of f) ≡ true → passing (0 + f.shard) (pair_of f) ≡ both f tt
  passes f is = cond-true (test (pair_of f)) _ _ is ∙ ap (λ (s : ℕ). both (record { shard = s; key = f.key; row = f.row }) tt) (zero-add f.shard)

  abbrev pub all_passing : Found → Option (Unit {0})
  all_passing f = first_given found_cmp (given_from passing 0 tables) f

  stands_from : (P : Pair → Type 0) → ((shard : ℕ) (pair : Pair) → Stands tables shard pair → test pair ≡ true → P pair) → (f : Found) → is_some (all_passing f) ≡ true → StandsSo tables P f
  stands_from P means f h =
      let got = some_is (all_passing f) h in
      let at = row_that_gives (is_at (found_cmp f)) passing 0 tables got.0 got.1 in
      let pass = passed (0 + at.0) at.1 at.2 got.0 at.4 in
      let same : found_at (0 + at.0) at.1 ≡ f = pass.1 ∙ sym (found_cmp_exact f at.2 (equal_from (found_cmp f at.2) at.5)) in
      let there : StandsSo tables P (found_at (0 + at.0) at.1) = (stands_at at.0 at.1 at.3, means at.0 at.1 at.3 pass.0) in
      subst (StandsSo tables P) same there

  seen_from : (P : Pair → Type 0) → ((shard : ℕ) (pair : Pair) → Stands tables shard pair → P pair → test pair ≡ true) → (f : Found) → StandsSo tables P f → is_some (all_passing f) ≡ true
  seen_from P means f (stands, so) =
      seen (is_at (found_cmp f)) passing 0 tables f.shard (pair_of f) f tt stands (passes f (means f.shard (pair_of f) stands so)) (ap is_eq (tied_itself found_cmp_total f))

  pub adds : (P : Pair → Type 0) → ((shard : ℕ) (pair : Pair) → Stands tables shard pair → test pair ≡ true → P pair)
      → ((shard : ℕ) (pair : Pair) → Stands tables shard pair → P pair → test pair ≡ true)
      → (old new : BTreeMap Found (Unit {0})) → ((f : Found) → get found_cmp new f ≡ option_or (get found_cmp old f) (all_passing f))
      → Adds (StandsSo tables P) old new
  adds P means passes_if old new gathered f = record {
    0 = λ h. cases_or (get found_cmp old f) (all_passing f) (Has old f) (StandsSo tables P f) (λ x. x) (stands_from P means f) (sym (ap is_some (gathered f)) ∙ h);
    1 = λ h. ap is_some (gathered f) ∙ ⊎_elim (or_left (get found_cmp old f) (all_passing f)) (λ so. or_right (get found_cmp old f) (all_passing f) (seen_from P passes_if f so)) h;
  }

-- ---- which mappings an ordered map has

alone_from : {K : Type 0} (o : Option K) (k : K) (v : Unit {0}) → option_map {T = K} {U = K × Unit {0}} alone o ≡ Some (k, v) → o ≡ Some k
alone_from None k v h = absurd (none-some (k, v) h)
alone_from {K} (Some x) k v h = ap Some (ap (λ (p : K × Unit {0}). p.0) (same_Some (x, tt) (k, v) h))

alone_of : {K : Type 0} (o : Option K) (k : K) → o ≡ Some k → option_map {T = K} {U = K × Unit {0}} alone o ≡ Some (k, tt)
alone_of o k h = ap (option_map alone) h

module _ (catalog : Catalog) (lookup : Lookup) (tables : Tables) (map : BTreeMap Mapping (Unit {0})) where
  abbrev pub has : Mapping → Bool
  has mapping = is_some (get mapping_cmp map mapping)

  met_some : (o p : Option Mapping) → o ≡ p → is_met has p ≡ true → (m : Mapping) × (o ≡ Some m) × (has m ≡ true)
  met_some o None is h = absurd (true≢false (sym h))
  met_some o (Some m) is h = (m, is, h)

  -- the entries
  module _ (said_by : (m : Mapping) → get mapping_cmp map m ≡ first_given mapping_cmp (given_from (λ shard pair. said lookup pair) 0 tables) m) where
    entry_of : (m : Mapping) → has m ≡ true → (shard : ℕ) × (entry : Pair) × Stands tables shard entry × (entry_mapping lookup entry ≡ Some m)
    entry_of m h =
        let got = some_is (get mapping_cmp map m) h in
        let at = row_that_gives (is_at (mapping_cmp m)) (λ shard pair. said lookup pair) 0 tables got.0 (sym (said_by m) ∙ got.1) in
        let key : at.2 ≡ m = sym (mapping_cmp_exact m at.2 (equal_from (mapping_cmp m at.2) at.5)) in
        (at.0, at.1, at.3, alone_from (entry_mapping lookup at.1) at.2 got.0 at.4 ∙ ap Some key)

    entry_met : (m : Mapping) (shard : ℕ) (entry : Pair) → Stands tables shard entry → entry_mapping lookup entry ≡ Some m → has m ≡ true
    entry_met m shard entry stands is =
        ap is_some (said_by m)
        ∙ seen (is_at (mapping_cmp m)) (λ shard pair. said lookup pair) 0 tables shard entry m tt stands (alone_of (entry_mapping lookup entry) m is) (ap is_eq (tied_itself mapping_cmp_total m))

    pub missing_from : (shard : ℕ) (row : Pair) → Stands tables shard row → is_unmet has catalog lookup row ≡ true → IsMissing catalog tables lookup row
    missing_from shard row stands h =
        let parts = and_parts _ _ h in
        let rest = and_parts _ _ parts.1 in
        let off = not-true _ rest.1 in
        record {
          plain = not-true _ parts.0;
          indexed = indexed_from lookup row rest.0;
          unmet = λ s entry there needs.
              let agree = agree_from catalog lookup row entry needs in
              both_ways (is_met has (row_mapping catalog lookup row)) off (ap (is_met has) agree.1 ∙ entry_met agree.0 s entry there agree.2);
        }

    pub missing_is : (shard : ℕ) (row : Pair) → Stands tables shard row → IsMissing catalog tables lookup row → is_unmet has catalog lookup row ≡ true
    missing_is shard row stands missing =
        let unmet : is_met has (row_mapping catalog lookup row) ≡ false =
        false_from_ne_true _ (λ h.
        let met = met_some (row_mapping catalog lookup row) (row_mapping catalog lookup row) refl h in
        let entry = entry_of met.0 met.2 in
        missing.unmet entry.0 entry.1 entry.2 (needs_from catalog lookup row entry.1 met.0 met.1 entry.3)) in
        and_from _ _ (not_from_false _ missing.plain) (and_from _ _ (indexed_is lookup row missing.indexed) (not_from_false _ unmet))

  -- what rows need
  module _ (needed_by : (m : Mapping) → get mapping_cmp map m ≡ first_given mapping_cmp (given_from (λ shard pair. needed catalog lookup pair) 0 tables) m) where
    plain_needs : (row : Pair) (m : Mapping) (v : Unit {0}) → needed catalog lookup row ≡ Some (m, v) → IsRow catalog row × (row_mapping catalog lookup row ≡ Some m)
    plain_needs row m v h =
        ⊎_elim
        (λ off. absurd (none-some (m, v) (sym (cond-true _ _ _ off) ∙ h)))
        (λ plain. (plain, alone_from (row_mapping catalog lookup row) m v (sym (cond-false _ _ _ plain) ∙ h)))
        (cases_Bool (is_lookup_table catalog (table_of row)))

    row_needing : (m : Mapping) → has m ≡ true → (shard : ℕ) × (row : Pair) × Stands tables shard row × IsRow catalog row × (row_mapping catalog lookup row ≡ Some m)
    row_needing m h =
        let got = some_is (get mapping_cmp map m) h in
        let at = row_that_gives (is_at (mapping_cmp m)) (λ shard pair. needed catalog lookup pair) 0 tables got.0 (sym (needed_by m) ∙ got.1) in
        let key : at.2 ≡ m = sym (mapping_cmp_exact m at.2 (equal_from (mapping_cmp m at.2) at.5)) in
        let parts = plain_needs at.1 at.2 got.0 at.4 in
        (at.0, at.1, at.3, parts.0, parts.1 ∙ ap Some key)

    row_met : (m : Mapping) (shard : ℕ) (row : Pair) → Stands tables shard row → IsRow catalog row → row_mapping catalog lookup row ≡ Some m → has m ≡ true
    row_met m shard row stands plain is =
        ap is_some (needed_by m)
        ∙ seen (is_at (mapping_cmp m)) (λ shard pair. needed catalog lookup pair) 0 tables shard row m tt stands (cond-false _ _ _ plain ∙ alone_of (row_mapping catalog lookup row) m is)
        (ap is_eq (tied_itself mapping_cmp_total m))

    pub orphan_from : (shard : ℕ) (entry : Pair) → Stands tables shard entry → is_unneeded has lookup entry ≡ true → IsOrphan catalog tables lookup entry
    orphan_from shard entry stands h =
        let parts = and_parts _ _ h in
        let off = not-true _ parts.1 in
        record {
          is_entry = served (table_of entry) lookup.table parts.0;
          stands = (shard, stands);
          unneeded = λ s row there plain needs.
              let agree = agree_from catalog lookup row entry needs in
              both_ways (is_met has (entry_mapping lookup entry)) off (ap (is_met has) agree.2 ∙ row_met agree.0 s row there plain agree.1);
        }

    pub orphan_is : (shard : ℕ) (entry : Pair) → Stands tables shard entry → IsOrphan catalog tables lookup entry → is_unneeded has lookup entry ≡ true
    orphan_is shard entry stands orphan =
        let unmet : is_met has (entry_mapping lookup entry) ≡ false =
        false_from_ne_true _ (λ h.
        let met = met_some (entry_mapping lookup entry) (entry_mapping lookup entry) refl h in
        let row = row_needing met.0 met.2 in
        orphan.unneeded row.0 row.1 row.2 row.3 (needs_from catalog lookup row.1 entry met.0 row.4 met.1)) in
        and_from _ _ (serves (table_of entry) lookup.table orphan.is_entry) (not_from_false _ unmet)
