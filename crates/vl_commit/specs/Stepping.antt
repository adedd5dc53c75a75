-- A step of a commit: one shard session is committed on its shard, or none is left.
use Rattle.std.specs.Prelude.{◌≡◌, ◌<◌, ◌≤◌, ℕ, ◌+◌, ◌-◌, List, [], ◌∷◌, ◌++◌, length, slice_get, Option, Some, None}
use Rattle.vl_values.specs.declared.group.Group.{Group}
use Rattle.vl_values.specs.declared.group.Group.TheVariants.{Pre, Main, Post}
use Rattle.vl_port.specs.declared.committed.Committed.{Committed}
use Rattle.vl_port.specs.declared.committed.Committed.TheVariants as outcomes
use Rattle.vl_port.specs.declared.tx_state.TxState.{TxState}
use Rattle.vl_port.specs.Calls.{HasCommitted, PortView}
use Rattle.vl_port.specs.Serving.{Shards}
use Rattle.vl_port.specs.Transaction.{last_incarnation, listed, session_of}
use Rattle.vl_commit.specs.declared.commit_told.CommitTold.{CommitTold}
use Rattle.vl_commit.specs.declared.commit_told.CommitTold.TheVariants as told
use Rattle.vl_commit.specs.declared.failure.Failure.{Failure}
use Rattle.vl_commit.specs.declared.failure.Failure.TheVariants as failures
use Rattle.vl_commit.specs.declared.warning.Warning.{Warning}
use Rattle.vl_commit.specs.Closing.{AreClosed}
use Rattle.vl_commit.specs.Sessions.{Session, sessions, start_of}

-- the transaction, how many of its sessions were dealt with, and the commits of post that failed
pub record Committing : Type 0 where
  pub tx : TxState
  pub at : ℕ
  pub warnings : List Warning

-- the session that is due
abbrev pub due : Committing → Option Session
due c = slice_get (sessions c.tx) c.at

-- there is room for the warnings that may come
abbrev pub HasRoom : Committing → ℕ → Type 0
HasRoom c capacity = (c.at ≤ length (sessions c.tx)) × (length c.warnings ≤ c.at - (length c.tx.pre + length c.tx.main)) × (c.at < length (sessions c.tx) → length c.tx.post ≤ capacity)

-- the shard of the session that is due may go down once more
abbrev pub IsBelow : Committing → Shards → Type 0
IsBelow c seen = (session : Session) → due c ≡ Some session → (seen session.1).incarnation < last_incarnation

-- no shard goes down more than once
abbrev pub RisesOnce : Shards → Shards → Type 0
RisesOnce old new = (shard : ℕ) → (new shard).incarnation ≤ (old shard).incarnation + 1

-- ---- what is left, and what is told

abbrev pub passed : Committing → Committing
passed c = record c { at = c.at + 1 }

abbrev pub warned : ℕ → Failure → Committing → Committing
warned shard why c = record c { at = c.at + 1; warnings = c.warnings ++ record { shard = shard; why = why } ∷ [] }

-- what is told then, and what is left of the commit: another session is due, or all were dealt with
abbrev pub TellsOf : Option Session → Committing → CommitTold → Committing → Type 0
TellsOf None c tells new = (tells ≡ told.Ok c.warnings) × (new ≡ record c { warnings = [] })
TellsOf (Some session) c tells new = (tells ≡ told.More) × (new ≡ c)

-- and the port is as it was between
pub record Goes (c : Committing) (tells : CommitTold) (new : Committing) (between port : PortView) : Type 0 where
  pub says : TellsOf (due c) c tells new
  pub same : port ≡ between

-- so many commits of the group were answered as done, of how many
abbrev pub failed : Committing → Session → Failure → CommitTold
failed c session why = told.Failed session.0 (c.at - start_of c.tx session.0) (length (listed c.tx session.0)) session.1 why

-- the transaction is refused, and the sessions behind this one are closed
pub record EndsAt (old : Committing) (session : Session) (why : Failure) (between : PortView) (tells : CommitTold) (new : Committing) (port : PortView) : Type 0 where
  pub refused : tells ≡ failed old session why
  pub same : new ≡ old
  pub closed : AreClosed old.tx (old.at + 1) (length (sessions old.tx) - (old.at + 1)) between port

-- a commit that failed ends the transaction in pre and main, and is a warning in post
abbrev pub FailsIn : Group → Committing → Session → Failure → PortView → CommitTold → Committing → PortView → Type 0
FailsIn Pre old session why between tells new port = EndsAt old session why between tells new port
FailsIn Main old session why between tells new port = EndsAt old session why between tells new port
FailsIn Post old session why between tells new port = Goes (warned session.1 why old) tells new between port

-- what the outcome of a session's commit means
abbrev pub DealsWith : Committed → Committing → Session → PortView → CommitTold → Committing → PortView → Type 0
DealsWith outcomes.Done old session between tells new port = Goes (passed old) tells new between port
DealsWith (outcomes.Lost why) old session between tells new port = FailsIn session.0 old session (failures.Lost why) between tells new port
DealsWith outcomes.Device old session between tells new port = FailsIn session.0 old session failures.Device between tells new port

-- the commit has come to its end
abbrev pub IsOver : CommitTold → Type 0
IsOver told.More = ⊥
IsOver (told.Ok warnings) = Unit {0}
IsOver (told.Failed group done of_ shard why) = Unit {0}

-- a step: what it told, and the commit and the port after it
pub data CommitStepped (old : Committing) (port : PortView) (tells : CommitTold) (new : Committing) (port_new : PortView) : Type 0 where
  -- no session is left
  Idle : due old ≡ None → Goes old tells new port port_new → CommitStepped old port tells new port_new
  -- the session that was due was committed on its shard, with this outcome
  Dealt : (session : Session) (outcome : Committed) (between : PortView) → due old ≡ Some session → HasCommitted port (session_of old.tx session.0) session.1 outcome between
      → DealsWith outcome old session between tells new port_new → CommitStepped old port tells new port_new

-- another session is due after one of pre or main only where its commit was answered as done
abbrev pub IsDoneIn : Committing → PortView → PortView → Type 0
IsDoneIn old port port_new = (session : Session) → due old ≡ Some session → (session.0 ≡ Post → ⊥) → HasCommitted port (session_of old.tx session.0) session.1 outcomes.Done port_new
