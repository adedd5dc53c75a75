-- A key of a row that stands on a shard has its place there.
use Rattle.std.proofs.Common.{◌≡◌, ℕ, Bool, true, false, cond, List, length, get_or, map, Option, Some, None, refl, sym, ap, ◌∙◌, arith}
use Rattle.std.specs.Prelude.{◌==◌, nat_lt, position, slice_get, slice_index_or, unwrap_or, option_and_then, option_map}
use Rattle.std.specs.List.{position_or_len}
use Rattle.std.proofs.lemmas.Bool.{eqb-true, eq-eqb, ltb-false}
use Rattle.std.proofs.lemmas.List.Quantifiers.{position-Some}
use Rattle.std.proofs.lemmas.List.Sums.{fails_before_first}
use Rattle.std.proofs.lemmas.Option.{get_or_from_slice_get, slice_get-get_or, slice_get-map, slice_get_within}
use Rattle.vl_values.specs.declared.key.Key.{Key}
use Rattle.vl_values.specs.declared.value.Value.{Value}
use Rattle.vl_values.specs.declared.value.Value.TheVariants.{Null}
use Rattle.vl_catalog.specs.declared.catalog.Catalog.{Catalog}
use Rattle.vl_catalog.specs.declared.primary.Primary.{Primary}
use Rattle.vl_catalog.specs.declared.table.Table.{Table}
use Rattle.vl_catalog.specs.Fitting.{IsPlacedKey, IsPlacedRow, key_values}
use Rattle.vl_catalog.specs.Place.{place_by, place_in, value_place_by}
use Rattle.vl_port.specs.View.{Values}
use Rattle.vl_replay.specs.Showing.{ArePlacedByKey}
use Rattle.vl_run.specs.Machine.{is_on, key_place, key_place_by}

-- ---- the first place of a number in a list

none_from : (b : Bool) (m : ℕ) → cond b (Some m) None ≡ None → b ≡ false
none_from true m none = absurd (cc none)
none_from false m none = refl

none_among : (from : List ℕ) (n k : ℕ) → position (λ m. m == n) from ≡ None → slice_get from k ≡ Some n → ⊥
none_among from n k none among =
    let p : ℕ → Bool = λ m. m == n in
    let past = none_from (nat_lt (position_or_len p from) (length from)) (position_or_len p from) none in
    let below = slice_get_within from k n among in
    let fails = fails_before_first p from k 0 (omega (arith, below, ltb-false (position_or_len p from) (length from) past)) in
    absurd (cc (fails, eq-eqb (get_or from k 0) n (get_or_from_slice_get from k n 0 among)))

-- what a list gives at that place
found_by : (f : ℕ → Value) (from : List ℕ) (n : ℕ) (o : Option ℕ) → position (λ m. m == n) from ≡ o → (k : ℕ) × (slice_get from k ≡ Some n) → option_and_then (slice_get (map f from)) o ≡ Some (f n)
found_by f from n None is among = absurd (none_among from n among.0 is among.1)
found_by f from n (Some k) is among =
    let it = position-Some (λ (m : ℕ). m == n) from k 0 is in
    let same : get_or from k 0 ≡ n = eqb-true (get_or from k 0) n it.1 in
    let there : slice_get from k ≡ Some n = slice_get-get_or from k 0 it.0 ∙ ap (λ (m : ℕ). Some m) same in
    slice_get-map f from k ∙ ap (λ (o : Option ℕ). option_map f o) there

module _ (catalog : Catalog) (keyed : ArePlacedByKey catalog) (shard : ℕ) (key : Key) where
  by_primary : (table : Table) (row : Values) → slice_get catalog.tables key.table ≡ Some table → key.pk ≡ key_values table row → (o : Option Primary) → table.primary ≡ o
      → place_by catalog.rings table.keyspace o row ≡ Some shard → key_place_by catalog table key o ≡ Some shard
  by_primary table row is pk None primary placed = placed
  by_primary table row is pk (Some primary) has placed =
      ap (λ (pk : Values). option_and_then (value_place_by catalog.rings table.keyspace (Some primary)) (option_and_then (slice_get pk) (position (λ n. n == primary.column) table.pk))) pk
      ∙ ap (λ (o : Option Value). option_and_then (value_place_by catalog.rings table.keyspace (Some primary)) o)
      (found_by (λ c. slice_index_or row c Null) table.pk primary.column (position (λ n. n == primary.column) table.pk) refl (keyed key.table table primary is has))
      ∙ placed

  pub row_place : (row : Values) → IsPlacedRow catalog shard key row → key_place catalog key ≡ shard
  row_place row placed =
      ap (λ (o : Option Table). unwrap_or (option_and_then (λ (t : Table). key_place_by catalog t key t.primary) o) 0) placed.is_table
      ∙ ap (λ (o : Option ℕ). unwrap_or o 0)
      (by_primary placed.table row placed.is_table placed.keyed placed.table.primary refl
      (sym (ap (λ (o : Option Table). option_and_then (λ (t : Table). place_in catalog t row) o) placed.is_table) ∙ placed.placed))

  pub row_on : (row : Values) → IsPlacedRow catalog shard key row → is_on catalog shard key ≡ true
  row_on row placed = eq-eqb (key_place catalog key) shard (row_place row placed)

  pub key_on : IsPlacedKey catalog shard key → is_on catalog shard key ≡ true
  key_on (row, placed) = row_on row placed
