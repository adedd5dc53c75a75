-- What a port tells, and what each of its calls does to that.
use Rattle.std.specs.Prelude.{◌≡◌, ◌≢◌, ◌<◌, ◌==◌, if◌then◌else◌, ℕ, Option, Some, None}
use Rattle.vl_base.specs.Faults.{Rose, next_count}
use Rattle.vl_values.specs.declared.limit.Limit.{Limit as Quantity}
use Rattle.vl_catalog.specs.declared.catalog.Catalog.{Catalog}
use Rattle.vl_port.specs.declared.act.Act.{Act}
use Rattle.vl_port.specs.declared.answer.Answer.{Answer}
use Rattle.vl_port.specs.declared.answer.Answer.TheVariants.{Done, Unchanged, Rows, Found, Held, Lost, Device, Limit, Memory}
use Rattle.vl_port.specs.declared.carried.Carried.{Carried}
use Rattle.vl_port.specs.declared.committed.Committed.{Committed}
use Rattle.vl_port.specs.declared.outcome.Outcome.{Outcome}
use Rattle.vl_port.specs.declared.who.Who.{Who}
use Rattle.vl_port.specs.Carrying.{Carries, Closes, CommitCarries}
use Rattle.vl_port.specs.Counting.{Faults, IsCommitCounted, IsCounted}
use Rattle.vl_port.specs.Losses.{Losses, Plays}
use Rattle.vl_port.specs.Outcomes.{outcome_of}
use Rattle.vl_port.specs.Serving.{Shards}

pub record PortView : Type 0 where
  -- what each shard shows
  pub shards : Shards
  -- how often the link and the disks of each shard have failed
  pub faults : Faults
  -- how many acts and commits were carried to each shard: each is carried once, and nothing else is
  pub carried : ℕ → ℕ
  -- the way that the last of them took
  pub way : Carried
  -- what the last act came to, until that is taken
  pub outcome : Option Outcome
  -- the losses that the link is still to play, where they are known
  pub losses : Option Losses
  -- the limit that a write would pass on a shard, and its height
  pub over : ℕ → Who → Act → Option (Quantity × ℕ)

-- the catalog and the number of shards stay
pub record IsSamePort (catalog : Catalog) (count : ℕ) (catalog_new : Catalog) (count_new : ℕ) : Type 0 where
  pub serves : catalog_new ≡ catalog
  pub counts : count_new ≡ count

abbrev pub with_one : ℕ → (ℕ → ℕ) → ℕ → ℕ
with_one shard counts = λ s. if s == shard then next_count (counts s) else counts s

-- one message to the shard was carried, by the way that was due
pub record IsCarried (old : PortView) (shard : ℕ) (new : PortView) : Type 0 where
  pub once : new.carried ≡ with_one shard old.carried
  pub played : Plays old.losses shard new.way new.losses

-- a write is done only within the limits, and refused only by one that it would pass
abbrev pub IsLimited : Option (Quantity × ℕ) → Answer → Type 0
IsLimited over Done = over ≡ None
IsLimited over (Limit what count) = over ≡ Some (what, count)
IsLimited over Unchanged = Unit {0}
IsLimited over (Rows rows) = Unit {0}
IsLimited over (Found key row) = Unit {0}
IsLimited over (Held by key) = Unit {0}
IsLimited over (Lost why) = Unit {0}
IsLimited over Device = Unit {0}
IsLimited over Memory = Unit {0}

-- one act on one shard, and its answer
pub record HasActed (old : PortView) (who : Who) (shard : ℕ) (act : Act) (answer : Answer) (new : PortView) : Type 0 where
  pub acted : Carries new.way (old.shards shard) who act answer (new.shards shard)
  pub others : (other : ℕ) → other ≢ shard → new.shards other ≡ old.shards other
  pub carried : IsCarried old shard new
  pub counted : IsCounted old.faults shard new.way answer new.faults
  pub limited : IsLimited (old.over shard who act) answer
  pub came : new.outcome ≡ Some (outcome_of answer)

-- one commit on one shard, and its outcome
pub record HasCommitted (old : PortView) (who : Who) (shard : ℕ) (told : Committed) (new : PortView) : Type 0 where
  pub settled : CommitCarries new.way (old.shards shard) who told (new.shards shard)
  pub others : (other : ℕ) → other ≢ shard → new.shards other ≡ old.shards other
  pub carried : IsCarried old shard new
  pub counted : IsCommitCounted old.faults shard new.way told new.faults
  -- a shard goes down only by a fault of its disks
  pub fell : (old.shards shard).incarnation < (new.shards shard).incarnation → Rose (old.faults.disks shard) (new.faults.disks shard)

-- what the last act came to was taken
abbrev pub without_outcome : PortView → PortView
without_outcome port = record port { outcome = None }

-- nothing was carried, and nothing failed
pub record IsQuiet (old new : PortView) : Type 0 where
  pub faults : new.faults ≡ old.faults
  pub carried : new.carried ≡ old.carried
  pub way : new.way ≡ old.way
  pub losses : new.losses ≡ old.losses

-- one close on one shard
pub record HasClosed (old : PortView) (who : Who) (shard : ℕ) (new : PortView) : Type 0 where
  pub closed : Closes (old.shards shard) who (new.shards shard)
  pub others : (other : ℕ) → other ≢ shard → new.shards other ≡ old.shards other
  pub quiet : IsQuiet old new
