-- What the shards have of what a client session has in hand.
use Rattle.std.specs.Prelude.{◌≡◌, ◌≤◌, ◌<◌, ℕ, slice_get, false, Some, None}
use Rattle.vl_catalog.specs.declared.catalog.Catalog.{Catalog}
use Rattle.vl_port.specs.declared.tx_state.TxState.{TxState}
use Rattle.vl_port.specs.declared.who.Who.{Who}
use Rattle.vl_port.specs.Life.{loss_of}
use Rattle.vl_port.specs.Serving.{Shards}
use Rattle.vl_port.specs.Transaction.{IsIn, last_incarnation, last_tx, session_of}
use Rattle.vl_commit.specs.Sessions.{AreLeft, Session, sessions}
use Rattle.vl_commit.specs.Stepping.{Committing}
use Rattle.vl_exec.specs.Making.{IsMade}
use Rattle.vl_replay.specs.Showing.{IsOwned}
use Rattle.vl_run.specs.Run.{Run, was_killed}
use Rattle.vl_course.specs.Answered.{AreMarked, IsMarkedAs}
use Rattle.vl_session.specs.declared.work.Work.{Work}
use Rattle.vl_session.specs.declared.work.Work.TheVariants as works

-- the shards have the sessions that the transaction lists, and no client session but its own has others of it
pub record IsTxIn (count : ℕ) (tx : TxState) (seen : Shards) : Type 0 where
  pub number : tx.number ≤ last_tx
  pub sessions : IsIn tx count seen
  pub owned : IsOwned tx.number tx.session count seen

-- the shards have the sessions that the commit has still to deal with
pub record IsCommitIn (count : ℕ) (commit : Committing) (seen : Shards) : Type 0 where
  pub number : commit.tx.number ≤ last_tx
  pub left : AreLeft commit.tx commit.at count seen
  pub owned : IsOwned commit.tx.number commit.tx.session count seen

-- what the next step of the work asks for
abbrev pub IsReady : Catalog → ℕ → Shards → Work → Type 0
IsReady catalog count seen (works.Idle None) = Unit {0}
IsReady catalog count seen (works.Idle (Some tx)) = IsTxIn count tx seen
IsReady catalog count seen (works.Running tx program) = IsTxIn count tx seen × IsMade catalog count tx.limits.tries program
IsReady catalog count seen (works.Committing commit reply purpose) = IsCommitIn count commit seen

-- each session that is left of the commit is marked as the run's kills say
abbrev pub AreLeftMarked : Run → Committing → Shards → Type 0
AreLeftMarked past commit seen = (place : ℕ) (it : Session) → commit.at ≤ place → slice_get (sessions commit.tx) place ≡ Some it → IsMarkedAs past (session_of commit.tx it.0) it.1 (loss_of (seen it.1) (session_of commit.tx it.0))

-- and so is each session of the work
abbrev pub IsWorkMarked : Run → Shards → Work → Type 0
IsWorkMarked past seen (works.Idle None) = Unit {0}
IsWorkMarked past seen (works.Idle (Some tx)) = AreMarked past tx.number seen
IsWorkMarked past seen (works.Running tx program) = AreMarked past tx.number seen
IsWorkMarked past seen (works.Committing commit reply purpose) = AreLeftMarked past commit seen

-- no shard has a session of a transaction of this number, and no kill named one
pub record IsUnopened (past : Run) (count number : ℕ) (seen : Shards) : Type 0 where
  pub sessions : (shard : ℕ) (who : Who) → who.tx ≡ number → (seen shard).sessions who ≡ None
  pub losses : (shard : ℕ) (who : Who) → who.tx ≡ number → loss_of (seen shard) who ≡ None
  pub spared : (shard : ℕ) (who : Who) → who.tx ≡ number → was_killed past who shard ≡ false

-- each shard of the next commit may go down once more
abbrev pub AreYoung : ℕ → Shards → Type 0
AreYoung count seen = (shard : ℕ) → shard < count → (seen shard).incarnation < last_incarnation
