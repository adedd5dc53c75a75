-- Sessions that end: by a commit, a close, a kill, or all of a transaction's at once.
use Rattle.std.specs.Prelude.{◌≡◌, ◌⊎◌, ℕ, Bool, true, false, Option, Some, None}
use Rattle.vl_values.specs.declared.key.Key.{Key}
use Rattle.vl_values.specs.declared.lost_why.LostWhy.{LostWhy}
use Rattle.vl_port.specs.declared.carried.Carried.{Carried}
use Rattle.vl_port.specs.declared.carried.Carried.TheVariants.{Passed, LostBefore, LostAfter}
use Rattle.vl_port.specs.declared.change.Change.{Change}
use Rattle.vl_port.specs.declared.who.Who.{Who}
use Rattle.vl_port.specs.Acting.{settled}
use Rattle.vl_port.specs.Life.{closed}
use Rattle.vl_port.specs.Serving.{Shards}
use Rattle.vl_port.specs.View.{View}
use Rattle.vl_run.specs.declared.deed.Deed.{Deed}
use Rattle.vl_run.specs.declared.deed.Deed.TheVariants as deeds
use Rattle.vl_run.specs.declared.ends.Ends.{Ends}
use Rattle.vl_run.specs.declared.ends.Ends.TheVariants as ends
use Rattle.vl_run.specs.Machine.{ended_change, ended_holder}

-- ---- a commit

-- a commit is done on its shard where its session isn't lost and the message comes there, also where the answer is lost
abbrev pub was_done : Carried → Option LostWhy → Bool
was_done Passed None = true
was_done LostAfter None = true
was_done LostBefore None = false
was_done way (Some loss) = false

-- what it leaves on a shard that stays up: its changes settled, or its session closed
abbrev pub CommitLeaves : Bool → Who → View → View → Type 0
CommitLeaves true who old new = new ≡ settled who old
CommitLeaves false who old new = new ≡ closed who old

-- its deed
abbrev pub committed_deed : Bool → Who → ℕ → Deed
committed_deed true who shard = deeds.Commits who shard
committed_deed false who shard = deeds.Fails who shard

-- and the session that ended otherwise
abbrev pub committed_ends : Bool → Who → ℕ → Ends
committed_ends true who shard = ends.Nobody
committed_ends false who shard = ends.One who shard

-- ---- all sessions of a transaction

-- what its sessions held and changed on a shard is gone, and nothing else has changed
pub record EndsOn (tx shard : ℕ) (old new : View) : Type 0 where
  pub committed : (key : Key) → new.committed key ≡ old.committed key
  pub pending : (key : Key) → new.pending key ≡ ended_change (ends.Whole tx) shard (old.pending key)
  pub holder : (key : Key) → new.holder key ≡ ended_holder (ends.Whole tx) shard (old.holder key)

abbrev pub EndsWhole : ℕ → Shards → Shards → Type 0
EndsWhole tx old new = (shard : ℕ) → EndsOn tx shard (old shard) (new shard)

-- ---- some of them

-- a holder, or a change, of the transaction is gone, or nothing is
abbrev pub IsFreed : ℕ → Option Who → Option Who → Type 0
IsFreed tx old new = (new ≡ old) ⊎ ((new ≡ None) × ((who : Who) × (old ≡ Some who) × (who.tx ≡ tx)))

abbrev pub IsUndone : ℕ → Option Change → Option Change → Type 0
IsUndone tx old new = (new ≡ old) ⊎ ((new ≡ None) × ((change : Change) × (old ≡ Some change) × (change.who.tx ≡ tx)))

-- of what the transaction held and changed on a shard some is gone, and nothing else has changed
pub record Frees (tx : ℕ) (old new : View) : Type 0 where
  pub committed : (key : Key) → new.committed key ≡ old.committed key
  pub pending : (key : Key) → IsUndone tx (old.pending key) (new.pending key)
  pub holder : (key : Key) → IsFreed tx (old.holder key) (new.holder key)

abbrev pub FreesAll : ℕ → Shards → Shards → Type 0
FreesAll tx old new = (shard : ℕ) → Frees tx (old shard) (new shard)

-- ---- events without an act

abbrev pub IsNoAct : Deed → Type 0
IsNoAct deeds.Nothing = Unit {0}
IsNoAct (deeds.Acts who shard act mark) = ⊥
IsNoAct (deeds.Commits who shard) = Unit {0}
IsNoAct (deeds.Fails who shard) = Unit {0}

-- nothing was done on a shard
abbrev pub IsIdle : Deed → Type 0
IsIdle deeds.Nothing = Unit {0}
IsIdle (deeds.Acts who shard act mark) = ⊥
IsIdle (deeds.Commits who shard) = ⊥
IsIdle (deeds.Fails who shard) = Unit {0}
