-- What the rules of a catalog say of a claim for a row: where its entry and its owner's rows stand, and which rows have its values.
use Rattle.std.proofs.Common.{◌≡◌, ◌∙◌, ◌&&◌, ◌↔◌, ℕ, Bool, true, false, not, List, [], map, Option, Some, None, refl, sym, ap, subst, arith}
use Rattle.std.specs.Prelude.{Contains, slice_get, slice_index_or}
use Rattle.std.specs.Option.{option_map_or}
use Rattle.std.proofs.lemmas.List.Elements.{All-contains_itself, All-filter}
use Rattle.std.proofs.lemmas.Option.{get_or_from_slice_get, same_Some, slice_get-get_or, slice_get_within}
use Rattle.vl_values.specs.declared.key.Key.{Key}
use Rattle.vl_values.specs.declared.value.Value.TheVariants.{Null}
use Rattle.vl_values.specs.Keyed.{is_key}
use Rattle.vl_values.specs.Pred.{matches}
use Rattle.vl_values.specs.Value.{is_null}
use Rattle.vl_values.proofs.KeyOrder.{is_key-same, is_key-true}
use Rattle.vl_catalog.specs.declared.catalog.Catalog.{Catalog}
use Rattle.vl_catalog.specs.declared.lookup.Lookup.{Lookup}
use Rattle.vl_catalog.specs.declared.primary.Primary.{Primary}
use Rattle.vl_catalog.specs.declared.table.Table.{Table}
use Rattle.vl_catalog.specs.Fitting.{IsPlacedRow, key_of}
use Rattle.vl_catalog.specs.Place.{ksid_of}
use Rattle.vl_rules.specs.ColumnVindexes.{is_sharded}
use Rattle.vl_rules.specs.Kept.{IsIn, Owns}
use Rattle.vl_rules.specs.Order.{Checked}
use Rattle.vl_rules.proofs.LookupsKept.{lookup_kept}
use Rattle.vl_rules.proofs.Passed.{both, not_true}
use Rattle.vl_rules.proofs.TablesKept.{table_kept}
use Rattle.vl_model.specs.Entries.{IsIndexed, Needs, from_values}
use Rattle.vl_port.specs.View.{Values}
use Rattle.vl_lookup.specs.declared.stage.Stage.TheVariants as stages
use Rattle.vl_lookup.specs.Answering.{at_stage}
use Rattle.vl_lookup.specs.Making.{IsClaim, IsMadeFor, entry_values}
use Rattle.vl_lookup.specs.Progress.{Progress as Claiming}
use Rattle.vl_replay.specs.Showing.{ArePlacedByKey}
use Rattle.vl_replay.proofs.Places.{row_place}
use Rattle.vl_run.specs.Machine.{key_place}
use Rattle.vl_run.specs.Named.{NeedsThere, is_indexed_by, key_in, needed}

join : (a b : Bool) → a ≡ true → b ≡ true → (a && b) ≡ true
join a b one other = ap (λ (x : Bool). x && b) one ∙ other

-- what is known of a claim for a row of the table of this number, in this lookup
pub record IsClaimOf (catalog : Catalog) (number : ℕ) (row : Values) (lookup : Lookup) (claim : Claiming) : Type 0 where
  pub owner : Table
  pub is_owner : slice_get catalog.tables number ≡ Some owner
  pub needs : NeedsThere catalog number lookup row (claim.key, claim.row)
  pub to : lookup.to ≡ Some claim.to
  pub ksid : ksid_of catalog number row ≡ Some claim.ksid
  pub keyspace : claim.keyspace ≡ owner.keyspace
  pub pred : claim.pred.table ≡ number
  pub matched : (other : Values)
      → (matches claim.pred other ≡ true) ↔ (IsIndexed lookup (key_in catalog number other, other) × (from_values lookup owner (key_in catalog number other, other) ≡ from_values lookup owner (key_in catalog number row, row)))

module _ (catalog : Catalog) (checked : Checked catalog) where
  -- ---- places

  keyed : ArePlacedByKey catalog
  keyed number table primary is has = by_sharding (is_sharded catalog table) refl
    where
      none_has : None ≡ Some primary → ⊥
      none_has same = cc

      by_sharding : (sharded : Bool) → is_sharded catalog table ≡ sharded → (k : ℕ) × (slice_get table.pk k ≡ Some primary.column)
      by_sharding true sharded =
          let it = (table_kept catalog number table checked is).sharded sharded in
          let same : it.primary ≡ primary = same_Some it.primary primary (sym it.has ∙ has) in
          (it.in_key.0, it.in_key.1 ∙ ap (λ (p : Primary). Some p.column) same)
      by_sharding false sharded = absurd (none_has (sym ((table_kept catalog number table checked is).unsharded sharded).primary ∙ has))

  -- a row's key tells where the row stands
  pub row_placed : (shard : ℕ) (key : Key) (row : Values) → IsPlacedRow catalog shard key row → key_place catalog key ≡ shard
  row_placed shard key row placed = row_place catalog keyed shard key row placed

  -- ---- the lookups in which a row needs entries

  among : (number : ℕ) (row : Values) (place l : ℕ) → slice_get (needed catalog number row) place ≡ Some l → Contains (option_map_or (λ (table : Table). table.lookups) (slice_get catalog.tables number) []) l
  among number row place l at =
      let all = option_map_or (λ (table : Table). table.lookups) (slice_get catalog.tables number) [] in
      let some = needed catalog number row in
      subst (Contains all) (get_or_from_slice_get some place l l at)
      (All-filter (is_indexed_by catalog row) (Contains all) all (All-contains_itself all) place l (slice_get_within some place l at))

  is_in : (numbers : List ℕ) (n : ℕ) → Contains numbers n → IsIn numbers n
  is_in numbers n (k, within, at) = (k, slice_get-get_or numbers k n within ∙ ap (λ (m : ℕ). Some m) at)

  -- are the table's own
  owns_by : (number l : ℕ) (o : Option Table) → slice_get catalog.tables number ≡ o → Contains (option_map_or (λ (table : Table). table.lookups) o []) l → Owns catalog number l
  owns_by number l None is listed = absurd (omega (arith, listed.1))
  owns_by number l (Some table) is listed = (table_kept catalog number table checked is).lookups l (is_in table.lookups l listed)

  owns : (number : ℕ) (row : Values) (place l : ℕ) → slice_get (needed catalog number row) place ≡ Some l → Owns catalog number l
  owns number row place l at = owns_by number l (slice_get catalog.tables number) refl (among number row place l at)

  -- ---- a claim

  module _ (l count : ℕ) (row : Values) (claim : Claiming) (made : IsMadeFor catalog l row (at_stage stages.First claim)) (ready : IsClaim catalog count claim) where
    key_as : (other : Values) → key_in catalog made.owner_number other ≡ key_of made.owner_number made.owner other
    key_as other = ap (λ (o : Option Table). option_map_or (λ (table : Table). key_of made.owner_number table other) o (record { table = made.owner_number; pk = [] })) made.owned.is_owner

    -- the entry's key has the row's values
    entry_key : claim.key.pk ≡ entry_values made.lookup made.owner row
    entry_key =
        let kept = lookup_kept catalog l made.lookup checked made.owned.is_lookup in
        let number : kept.table_number ≡ claim.key.table = same_Some kept.table_number claim.key.table (sym kept.has_table ∙ made.needs.is_entry) in
        let table : ready.entry.table ≡ kept.table = same_Some ready.entry.table kept.table (sym ready.entry.is_table ∙ ap (slice_get catalog.tables) (sym number) ∙ kept.is_table) in
        let values = made.needs.values in
        let owner : values.0 ≡ made.owner = same_Some values.0 made.owner (sym values.1 ∙ made.owned.is_owner) in
        ready.entry.keyed ∙ ap (λ (t : Table). map (λ c. slice_index_or claim.row c Null) t.pk) table ∙ ap (map (λ c. slice_index_or claim.row c Null)) kept.key_is_from ∙ values.2
        ∙ ap (λ (t : Table). from_values made.lookup t (key_of made.owner_number made.owner row, row)) owner

    abbrev key_for : Values → Key
    key_for other = record { table = claim.key.table; pk = entry_values made.lookup made.owner other }

    is_table : (other : Values) → (key_in catalog made.owner_number other).table ≡ made.owner_number
    is_table other = ap (λ (key : Key). key.table) (key_as other)

    matched_to : (other : Values) → matches claim.pred other ≡ true
        → IsIndexed made.lookup (key_in catalog made.owner_number other, other)
        × (from_values made.lookup made.owner (key_in catalog made.owner_number other, other) ≡ from_values made.lookup made.owner (key_in catalog made.owner_number row, row))
    matched_to other is =
        let parts = both (not (is_null (slice_index_or other made.column Null))) (is_key (key_for other) claim.key) (sym (made.matched other) ∙ is) in (
          record { owner = made.owned.has_owner ∙ ap (λ (n : ℕ). Some n) (sym (is_table other)); value = (made.column, made.has_column, not_true (is_null (slice_index_or other made.column Null)) parts.0) },
          ap (λ (key : Key). key.pk) (is_key-true (key_for other) claim.key parts.1) ∙ entry_key,
        )

    matched_from : (other : Values) → IsIndexed made.lookup (key_in catalog made.owner_number other, other)
        → from_values made.lookup made.owner (key_in catalog made.owner_number other, other) ≡ from_values made.lookup made.owner (key_in catalog made.owner_number row, row)
        → matches claim.pred other ≡ true
    matched_from other indexed same =
        let column : indexed.value.0 ≡ made.column = same_Some indexed.value.0 made.column (sym indexed.value.1 ∙ made.has_column) in
        let some : is_null (slice_index_or other made.column Null) ≡ false = ap (λ (c : ℕ). is_null (slice_index_or other c Null)) (sym column) ∙ indexed.value.2 in
        let key : key_for other ≡ claim.key = ap (λ (pk : Values). record { table = claim.key.table; pk = pk }) (same ∙ sym entry_key) in
        made.matched other ∙ join (not (is_null (slice_index_or other made.column Null))) (is_key (key_for other) claim.key) (ap not some) (ap (λ (k : Key). is_key k claim.key) key ∙ is_key-same claim.key)

    claim_by_owner : IsClaimOf catalog made.owner_number row made.lookup claim
    claim_by_owner = record {
      owner = made.owner;
      is_owner = made.owned.is_owner;
      needs = subst (λ (key : Key). Needs catalog made.lookup (key, row) (claim.key, claim.row)) (sym (key_as row)) made.needs;
      to = made.to;
      ksid = made.ksid;
      keyspace = made.keyspace;
      pred = made.pred;
      matched = λ other. (matched_to other, λ it. matched_from other it.0 it.1);
    }

    pub claim_of : (number place : ℕ) → slice_get (needed catalog number row) place ≡ Some l → IsClaimOf catalog number row made.lookup claim
    claim_of number place at =
        let it = owns number row place l at in
        let lookup : it.0 ≡ made.lookup = same_Some it.0 made.lookup (sym it.1 ∙ made.owned.is_lookup) in
        let same : made.owner_number ≡ number = same_Some made.owner_number number (sym made.owned.has_owner ∙ ap (λ (o : Lookup). o.owner) (sym lookup) ∙ it.2) in
        subst (λ (n : ℕ). IsClaimOf catalog n row made.lookup claim) same claim_by_owner
