-- Faults of the outside: each is told only where its count rose in that call.
use Rattle.std.specs.Prelude.{◌≡◌, ◌≢◌, ◌≤◌, ◌⊎◌, ℕ}
use Rattle.vl_base.specs.Faults.{Rose}
use Rattle.vl_port.specs.declared.answer.Answer.{Answer}
use Rattle.vl_port.specs.declared.answer.Answer.TheVariants.{Done, Unchanged, Rows, Found, Held, Lost, Device, Limit, Memory}
use Rattle.vl_port.specs.declared.carried.Carried.{Carried}
use Rattle.vl_port.specs.declared.carried.Carried.TheVariants.{Passed, LostBefore, LostAfter}
use Rattle.vl_port.specs.declared.committed.Committed.{Committed}
use Rattle.vl_port.specs.declared.committed.Committed.TheVariants as outcome

-- how often the link has lost a message, and how often a call of each shard's disks has failed
pub record Faults : Type 0 where
  pub link : ℕ
  pub disks : ℕ → ℕ

-- the link lost the message on its way to the shard
pub record LinkRose (old new : Faults) : Type 0 where
  pub link : Rose old.link new.link
  pub disks : new.disks ≡ old.disks

-- the link lost the answer; what was done may have met a fault of the shard's disks
pub record AnswerLost (old : Faults) (shard : ℕ) (new : Faults) : Type 0 where
  pub link : Rose old.link new.link
  pub disks : old.disks shard ≤ new.disks shard
  pub others : (other : ℕ) → other ≢ shard → new.disks other ≡ old.disks other

-- the shard's disks failed
pub record DiskRose (old : Faults) (shard : ℕ) (new : Faults) : Type 0 where
  pub link : new.link ≡ old.link
  pub disks : Rose (old.disks shard) (new.disks shard)
  pub others : (other : ℕ) → other ≢ shard → new.disks other ≡ old.disks other

-- of an act that the link passed on. A shard that is down can't be opened where its disks fail, or where
-- what they hold is no shard's
abbrev pub IsDiskCounted : Faults → ℕ → Answer → Faults → Type 0
IsDiskCounted old shard Device new = DiskRose old shard new ⊎ (new ≡ old)
IsDiskCounted old shard Done new = new ≡ old
IsDiskCounted old shard Unchanged new = new ≡ old
IsDiskCounted old shard (Rows rows) new = new ≡ old
IsDiskCounted old shard (Found key row) new = new ≡ old
IsDiskCounted old shard (Held by key) new = new ≡ old
IsDiskCounted old shard (Lost why) new = new ≡ old
IsDiskCounted old shard (Limit what count) new = new ≡ old
IsDiskCounted old shard Memory new = new ≡ old

-- of an act, by the way that the link took it
abbrev pub IsCounted : Faults → ℕ → Carried → Answer → Faults → Type 0
IsCounted old shard Passed answer new = IsDiskCounted old shard answer new
IsCounted old shard LostBefore answer new = LinkRose old new
IsCounted old shard LostAfter answer new = AnswerLost old shard new

-- of a commit that the link passed on
abbrev pub IsCommitDiskCounted : Faults → ℕ → Committed → Faults → Type 0
IsCommitDiskCounted old shard outcome.Device new = DiskRose old shard new
IsCommitDiskCounted old shard outcome.Done new = new ≡ old
IsCommitDiskCounted old shard (outcome.Lost why) new = new ≡ old

-- of a commit, by the way that the link took it
abbrev pub IsCommitCounted : Faults → ℕ → Carried → Committed → Faults → Type 0
IsCommitCounted old shard Passed told new = IsCommitDiskCounted old shard told new
IsCommitCounted old shard LostBefore told new = LinkRose old new
IsCommitCounted old shard LostAfter told new = AnswerLost old shard new
