-- What a port keeps of all its shards under its catalog.
use Rattle.std.specs.Prelude.{◌≡◌, ◌<◌, ℕ}
use Rattle.vl_catalog.specs.declared.catalog.Catalog.{Catalog}
use Rattle.vl_catalog.specs.Place.{shard_count}
use Rattle.vl_port.specs.Keeping.{IsKept}
use Rattle.vl_port.specs.Placing.{ArePlaced}
use Rattle.vl_port.specs.View.{View}

-- what each shard shows
abbrev pub Shards : Type 0
Shards = ℕ → View

pub record IsServed (catalog : Catalog) (shard : ℕ) (view : View) : Type 0 where
  pub kept : IsKept view
  pub placed : ArePlaced catalog shard view

-- the shards are those of the catalog; locks stand behind pending versions, and each version is a row on its shard
pub record Serves (catalog : Catalog) (count : ℕ) (seen : Shards) : Type 0 where
  pub shards : count ≡ shard_count catalog.rings
  pub each : (shard : ℕ) → shard < count → IsServed catalog shard (seen shard)
