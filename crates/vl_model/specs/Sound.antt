-- When the tables of all shards are sound, over a catalog.
use Rattle.std.specs.Prelude.{◌≡◌, ℕ, true, Contains, Some}
use Rattle.vl_catalog.specs.declared.catalog.Catalog.{Catalog}
use Rattle.vl_catalog.specs.declared.lookup.Lookup.{Lookup}
use Rattle.vl_catalog.specs.Place.{place}
use Rattle.vl_model.specs.Tables.{Tables, Pair, Stands, table_of, column}
use Rattle.vl_model.specs.Entries.{IsEntry, IsIndexed, IsRow, Needs}

-- each row and each entry stands on its place
abbrev pub Placed : Catalog → Tables → Type 0
Placed catalog c = (shard : ℕ) (pair : Pair) → Stands c shard pair → place catalog (table_of pair) pair.1 ≡ Some shard

-- each indexed value of a row of a plain table has an entry that the row needs
abbrev pub Covered : Catalog → Tables → Type 0
Covered catalog c = (lookup : Lookup) (shard : ℕ) (row : Pair) → Contains catalog.lookups lookup → Stands c shard row → IsRow catalog row → IsIndexed lookup row
    → (t : ℕ) × (entry : Pair) × Stands c t entry × Needs catalog lookup row entry

-- rows of the owner of a unique lookup that have one value in its column, which isn't NULL, have one key
abbrev pub Unique : Catalog → Tables → Type 0
Unique catalog c = (lookup : Lookup) (n s t : ℕ) (row other : Pair) → Contains catalog.lookups lookup → lookup.unique ≡ true → lookup.column ≡ Some n
    → Stands c s row → Stands c t other → IsIndexed lookup row → IsIndexed lookup other → column row n ≡ column other n → row.0 ≡ other.0

pub record Sound (catalog : Catalog) (c : Tables) : Type 0 where
  pub placed : Placed catalog c
  pub covered : Covered catalog c
  pub unique : Unique catalog c

-- an entry that stands and that no row needs
pub record IsOrphan (catalog : Catalog) (c : Tables) (lookup : Lookup) (entry : Pair) : Type 0 where
  pub is_entry : IsEntry lookup entry
  pub stands : (shard : ℕ) × Stands c shard entry
  pub unneeded : (shard : ℕ) (row : Pair) → Stands c shard row → IsRow catalog row → Needs catalog lookup row entry → ⊥
