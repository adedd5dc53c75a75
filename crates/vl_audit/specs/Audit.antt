-- What an audit lists.
use Rattle.std.specs.Prelude.{◌≡◌, ◌≢◌, ℕ, true, List, Contains, ◌↔◌, Some}
use Rattle.std.specs.declared.cmp.Ordering.{Ordering}
use Rattle.std.specs.List.Sorted.{IsStrictlySortedBy}
use Rattle.std.specs.Ordering.{nat_cmp, on, then_cmp}
use Rattle.vl_values.specs.Key.{key_cmp}
use Rattle.vl_values.specs.Row.{row_cmp}
use Rattle.vl_values.specs.Value.{value_cmp}
use Rattle.vl_catalog.specs.declared.catalog.Catalog.{Catalog}
use Rattle.vl_catalog.specs.declared.lookup.Lookup.{Lookup}
use Rattle.vl_model.specs.Tables.{Pair, Stands, Tables, column}
use Rattle.vl_model.specs.Entries.{IsIndexed, IsRow, Needs}
use Rattle.vl_model.specs.Sound.{IsOrphan}
use Rattle.vl_audit.specs.declared.found.Found.{Found}
use Rattle.vl_audit.specs.declared.mapping.Mapping.{Mapping}
use Rattle.vl_audit.specs.declared.report.Report.{Report}

abbrev pub pair_of : Found → Pair
pair_of found = (found.key, found.row)

-- a row of a plain table that has a value of the lookup, and for which no entry stands that it needs
pub record IsMissing (catalog : Catalog) (tables : Tables) (lookup : Lookup) (row : Pair) : Type 0 where
  pub plain : IsRow catalog row
  pub indexed : IsIndexed lookup row
  pub unmet : (shard : ℕ) (entry : Pair) → Stands tables shard entry → Needs catalog lookup row entry → ⊥

-- another row has its value of the unique lookup, which isn't NULL
pub record IsDoubled (tables : Tables) (lookup : Lookup) (row : Pair) : Type 0 where
  pub unique : lookup.unique ≡ true
  pub indexed : IsIndexed lookup row
  pub shard : ℕ
  pub other : Pair
  pub stands : Stands tables shard other
  pub other_indexed : IsIndexed lookup other
  pub same : (n : ℕ) → lookup.column ≡ Some n → column row n ≡ column other n
  pub apart : row.0 ≢ other.0

-- the row stands on its shard, and is so by one of the lookups
abbrev pub BySome : Catalog → Tables → (Lookup → Pair → Type 0) → Found → Type 0
BySome catalog tables P found =
    Stands tables found.shard (pair_of found) × ((lookup : Lookup) × Contains catalog.lookups lookup × P lookup (pair_of found))

-- by shard, then by table and key
abbrev pub found_cmp : Found → Found → Ordering
found_cmp = then_cmp (on (λ f. f.shard) nat_cmp) (then_cmp (on (λ f. f.key) key_cmp) (on (λ f. f.row) row_cmp))

-- by values, then by the keyspace id
abbrev pub mapping_cmp : Mapping → Mapping → Ordering
mapping_cmp = then_cmp (on (λ m. m.values) row_cmp) (on (λ m. m.ksid) value_cmp)

-- these and no others, in order, each once
pub record AreThose (P : Found → Type 0) (list : List Found) : Type 0 where
  pub those : (found : Found) → Contains list found ↔ P found
  pub order : IsStrictlySortedBy found_cmp list

pub record IsAudit (catalog : Catalog) (tables : Tables) (report : Report) : Type 0 where
  pub missing : AreThose (BySome catalog tables (IsMissing catalog tables)) report.missing
  pub doubled : AreThose (BySome catalog tables (IsDoubled tables)) report.doubled
  pub orphans : AreThose (BySome catalog tables (IsOrphan catalog tables)) report.orphans
