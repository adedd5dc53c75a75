-- What a claim is made of, and what each step asks of it.
use Rattle.std.specs.Prelude.{◌≡◌, ◌<◌, ◌&&◌, ℕ, Bool, false, not, List, length, map, slice_get, slice_index_or, Some, All}
use Rattle.vl_values.specs.declared.key.Key.{Key}
use Rattle.vl_values.specs.declared.value.Value.{Value}
use Rattle.vl_values.specs.declared.value.Value.TheVariants.{Null}
use Rattle.vl_values.specs.Keyed.{is_key}
use Rattle.vl_values.specs.Pred.{matches}
use Rattle.vl_values.specs.Value.{is_null}
use Rattle.vl_catalog.specs.declared.catalog.Catalog.{Catalog}
use Rattle.vl_catalog.specs.declared.lookup.Lookup.{Lookup}
use Rattle.vl_catalog.specs.declared.table.Table.{Table}
use Rattle.vl_catalog.specs.Fitting.{FitsPred, IsPlacedRow, IsRowOf, key_of}
use Rattle.vl_catalog.specs.Place.{ksid_of}
use Rattle.vl_model.specs.Entries.{Needs, from_columns, named_by}
use Rattle.vl_port.specs.View.{Values}
use Rattle.vl_lookup.specs.declared.stage.Stage.{Stage}
use Rattle.vl_lookup.specs.declared.stage.Stage.TheVariants as stages
use Rattle.vl_lookup.specs.Progress.{Progress}

-- the lookup of a number, and its owner with its number
pub record HasOwner (catalog : Catalog) (number : ℕ) (lookup : Lookup) (owner_number : ℕ) (owner : Table) : Type 0 where
  pub is_lookup : slice_get catalog.lookups number ≡ Some lookup
  pub has_owner : lookup.owner ≡ Some owner_number
  pub is_owner : slice_get catalog.tables owner_number ≡ Some owner

-- the values that a row of the owner gives its entry
abbrev pub entry_values : Lookup → Table → Values → List Value
entry_values lookup owner row = map (λ n. slice_index_or row n Null) (from_columns lookup owner)

-- a row of the lookup's owner, without NULL among the values that its entry has
pub record IsIndexedRow (catalog : Catalog) (number : ℕ) (row : Values) : Type 0 where
  pub lookup : Lookup
  pub owner_number : ℕ
  pub owner : Table
  pub owned : HasOwner catalog number lookup owner_number owner
  pub fits : IsRowOf owner row
  pub whole : All (λ value. is_null value ≡ false) (entry_values lookup owner row)

-- whether a row of the owner isn't NULL in the lookup's column and has an entry of this key
abbrev pub has_entry : Lookup → Table → ℕ → Key → Values → Bool
has_entry lookup owner column key row = not (is_null (slice_index_or row column Null)) && is_key (record { table = key.table; pk = entry_values lookup owner row }) key

-- the claim of a lookup's entry for a row of its owner, before its first action
pub record IsMadeFor (catalog : Catalog) (number : ℕ) (row : Values) (claim : Progress) : Type 0 where
  pub lookup : Lookup
  pub owner_number : ℕ
  pub owner : Table
  pub column : ℕ
  pub owned : HasOwner catalog number lookup owner_number owner
  pub has_column : lookup.column ≡ Some column
  pub numbered : claim.lookup ≡ number
  pub keyspace : claim.keyspace ≡ owner.keyspace
  -- the entry is the one that the row needs, and names the row's keyspace id
  pub needs : Needs catalog lookup (key_of owner_number owner row, row) (claim.key, claim.row)
  pub ksid : ksid_of catalog owner_number row ≡ Some claim.ksid
  pub to : lookup.to ≡ Some claim.to
  pub names : named_by claim.to claim.row ≡ Some claim.ksid
  -- a row of the owner matches exactly where it has an entry of this key
  pub pred : claim.pred.table ≡ owner_number
  pub matched : (other : Values) → matches claim.pred other ≡ has_entry lookup owner column claim.key other
  pub first : claim.stage ≡ stages.First

-- the shard that is to be looked at is one of these
abbrev pub IsStageOn : ℕ → Stage → Type 0
IsStageOn count stages.First = Unit {0}
IsStageOn count (stages.Check ksid shard) = shard < count
IsStageOn count stages.Put = Unit {0}

-- the claim may be stepped under this catalog, over this many shards: its acts fit
pub record IsClaim (catalog : Catalog) (count : ℕ) (claim : Progress) : Type 0 where
  pub entry : IsPlacedRow catalog claim.shard claim.key claim.row
  pub shard : claim.shard < count
  pub pred : FitsPred catalog claim.pred
  pub keyspace : claim.keyspace < length catalog.rings
  pub stage : IsStageOn count claim.stage
