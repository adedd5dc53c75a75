-- What a bank has, and what a port tells of each of its shards.
use Rattle.std.specs.Prelude.{◌≡◌, ℕ, ◌<◌, None, List, [], length, replicate, slice_index_or, Option}
use Rattle.vl_values.specs.declared.key.Key.{Key}
use Rattle.vl_catalog.specs.declared.catalog.Catalog.{Catalog}
use Rattle.vl_port.specs.declared.carried.Carried.{Carried}
use Rattle.vl_port.specs.declared.carried.Carried.TheVariants.{Passed}
use Rattle.vl_port.specs.declared.outcome.Outcome.{Outcome}
use Rattle.vl_port.specs.declared.who.Who.{Who}
use Rattle.vl_port.specs.View.{View}
use Rattle.vl_port.specs.Calls.{PortView}
use Rattle.vl_port.specs.Losses.{Losses}
use Rattle.vl_port.specs.Keeping.{IsKept}
use Rattle.vl_port.specs.Serving.{Serves}
use Rattle.vl_shard.specs.Parts.{Parts, view_of}

-- the catalog, the shards by their numbers, the link, how many acts and commits were carried to each
-- shard, the way of the last one, and what the last act came to, until that is taken
pub record BankParts (L : Type 0) : Type 0 where
  pub catalog : Catalog
  pub shards : List Parts
  pub link : L
  pub carried : List ℕ
  pub way : Carried
  pub outcome : Option Outcome

-- where there is no shard, none was ever opened and nothing is held
abbrev pub no_shard : Parts
no_shard = record { rows = record { committed = []; pending = []; room = [] }; holds = []; seats = []; incarnation = 0 }

abbrev pub shard_seen : List Parts → ℕ → View
shard_seen shards shard = view_of (slice_index_or shards shard no_shard)

-- how many shards a bank has, and what it shows of each
abbrev pub count_of : {L : Type 0} → BankParts L → ℕ
count_of bank = length bank.shards

abbrev pub seen_of : {L : Type 0} → BankParts L → ℕ → View
seen_of bank = shard_seen bank.shards

-- how many acts and commits were carried to each shard
abbrev pub carried_of : List ℕ → ℕ → ℕ
carried_of counts = λ shard. slice_index_or counts shard 0

-- what a bank tells, by what its link has counted and is still to lose. There is no disk and no limit
abbrev pub told_by : {L : Type 0} → BankParts L → ℕ → Option Losses → PortView
told_by bank lost losses = record {
  shards = seen_of bank;
  faults = record { link = lost; disks = λ shard. 0 };
  carried = carried_of bank.carried;
  way = bank.way;
  outcome = bank.outcome;
  losses = losses;
  over = λ shard who act. None;
}

-- the shards are those of the catalog, each key of each shard has one holder, a pending version's is the
-- session that made it, and each version is a row that stands on its shard
abbrev pub IsServing : {L : Type 0} → BankParts L → Type 0
IsServing bank = Serves bank.catalog (count_of bank) (seen_of bank)

-- and what is carried to each shard is counted
pub record IsBank {L : Type 0} (bank : BankParts L) : Type 0 where
  pub serves : IsServing bank
  pub counts : length bank.carried ≡ count_of bank

-- a bank over this link to which nothing was carried yet
pub record IsFresh {L : Type 0} (served : Catalog) (way_there : L) (bank : BankParts L) : Type 0 where
  pub catalog : bank.catalog ≡ served
  pub link : bank.link ≡ way_there
  pub carried : bank.carried ≡ replicate (count_of bank) 0
  pub way : bank.way ≡ Passed

-- no key has a version or a holder, and no session is open
pub record IsEmpty (view : View) : Type 0 where
  pub committed : (key : Key) → view.committed key ≡ None
  pub pending : (key : Key) → view.pending key ≡ None
  pub holder : (key : Key) → view.holder key ≡ None
  pub sessions : (who : Who) → view.sessions who ≡ None
  pub doubt : (key : Key) → view.doubt key ≡ None

-- this many shards, all empty and of their first incarnation
pub record AreNew (shards : List Parts) (count : ℕ) : Type 0 where
  pub long : length shards ≡ count
  pub empty : (shard : ℕ) → shard < length shards → IsEmpty (shard_seen shards shard)
  pub first : (shard : ℕ) → shard < length shards → (shard_seen shards shard).incarnation ≡ 1
  pub kept : (shard : ℕ) → shard < length shards → IsKept (shard_seen shards shard)
