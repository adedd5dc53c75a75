-- What each program keeps that was made from a plan that fits the catalog.
use Rattle.std.specs.Prelude.{◌≡◌, ◌<◌, ◌≤◌, ℕ, Bool, false, length, Contains}
use Rattle.vl_values.specs.declared.pred.Pred.{Pred}
use Rattle.vl_catalog.specs.declared.catalog.Catalog.{Catalog}
use Rattle.vl_catalog.specs.Fitting.{FitsPred}
use Rattle.vl_port.specs.declared.act.Act.TheVariants.{Find}
use Rattle.vl_select.specs.declared.entry_read.EntryRead.{EntryRead}
use Rattle.vl_select.specs.Progress.{Progress}

-- a read that the catalog allows on its shard
pub record IsEntryRead (catalog : Catalog) (count : ℕ) (entry : EntryRead) : Type 0 where
  pub pred : Pred
  pub find : entry.find ≡ Find pred false
  pub fits : FitsPred catalog pred
  pub shard : entry.shard < count

-- the program was made under this catalog, over this many shards, and may be stepped under this limit of tries
pub record IsMade (catalog : Catalog) (count limit : ℕ) (p : Progress) : Type 0 where
  pub pred : Pred
  pub locking : Bool
  pub find : p.find ≡ Find pred locking
  pub fits : FitsPred catalog pred
  pub entries : (entry : EntryRead) → Contains p.entries entry → IsEntryRead catalog count entry
  pub looked : p.looked ≤ length p.entries
  pub shards : (shard : ℕ) → Contains p.shards shard → shard < count
  -- each shard is visited once
  pub few : length p.shards ≤ count
  pub read : p.read ≤ length p.shards
  -- no shard is read before all entries were
  pub after : p.looked < length p.entries → p.read ≡ 0
  pub tries : p.tries < limit
