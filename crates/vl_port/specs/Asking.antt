-- An action of a transaction's session: it is listed, carried once, and answered.
use Rattle.std.specs.Prelude.{◌≡◌, ◌≤◌, ◌+◌, ◌-◌, ◌^◌, ℕ, Bool, true, false, min, Some, None}
use Rattle.vl_values.specs.declared.group.Group.{Group}
use Rattle.vl_port.specs.declared.act.Act.{Act}
use Rattle.vl_port.specs.declared.answer.Answer.{Answer}
use Rattle.vl_port.specs.declared.answer.Answer.TheVariants.{Done, Unchanged, Rows, Found, Held, Lost, Device, Limit, Memory}
use Rattle.vl_port.specs.declared.asked.Asked.{Asked}
use Rattle.vl_port.specs.declared.asked.Asked.TheVariants.{Unlisted, Answered}
use Rattle.vl_port.specs.declared.fate.Fate.TheVariants as fates
use Rattle.vl_port.specs.declared.opened.Opened.{Opened}
use Rattle.vl_port.specs.declared.tx_state.TxState.{TxState}
use Rattle.vl_port.specs.declared.who.Who.{Who}
use Rattle.vl_port.specs.Calls.{HasActed, PortView}
use Rattle.vl_port.specs.Transaction.{Enlists, session_of}
use Rattle.vl_port.specs.View.{View}

-- a write of the transaction was done
abbrev pub with_change : TxState → TxState
with_change tx = record tx { changes = min (tx.changes + 1) (2 ^ 32 - 1) }

-- the session is listed, as it was or behind the others
abbrev pub IsListed : TxState → Group → ℕ → TxState → Type 0
IsListed tx group shard new = (added : Bool) × Enlists tx group shard added new

-- what the transaction becomes by an answer: want of memory leaves it as it was, and a write that was done
-- is counted
abbrev pub Lists : TxState → Group → ℕ → Answer → TxState → Type 0
Lists tx group shard Memory new = new ≡ tx
Lists tx group shard Done new = (listed : TxState) × IsListed tx group shard listed × (new ≡ with_change listed)
Lists tx group shard Unchanged new = IsListed tx group shard new
Lists tx group shard (Rows rows) new = IsListed tx group shard new
Lists tx group shard (Found key row) new = IsListed tx group shard new
Lists tx group shard (Held by key) new = IsListed tx group shard new
Lists tx group shard (Lost why) new = IsListed tx group shard new
Lists tx group shard Device new = IsListed tx group shard new
Lists tx group shard (Limit what count) new = IsListed tx group shard new

-- the act of the transaction's session of the group was answered
pub record HasAnswered (old : PortView) (tx : TxState) (group : Group) (shard : ℕ) (act : Act) (answer : Answer) (tx_new : TxState) (new : PortView) : Type 0 where
  pub acts : HasActed old (session_of tx group) shard act answer new
  pub lists : Lists tx group shard answer tx_new

-- there was no memory to list the session, and nothing was carried
pub record IsUnasked (old : PortView) (tx tx_new : TxState) (new : PortView) : Type 0 where
  pub same : tx_new ≡ tx
  pub shown : new ≡ old

abbrev pub HasAsked : PortView → TxState → Group → ℕ → Act → Asked → TxState → PortView → Type 0
HasAsked old tx group shard act Unlisted tx_new new = IsUnasked old tx tx_new new
HasAsked old tx group shard act (Answered answer) tx_new new = HasAnswered old tx group shard act answer tx_new new

-- the session isn't one that was cut: a use of one that was is told so again, though nothing is lost then. One is
-- cut only where a call answers that the link lost it or that the device failed
abbrev pub IsUncut : View → Who → Type 0
IsUncut view who = (session : Opened) → view.sessions who ≡ Some session → session.fate ≡ fates.Cut → ⊥

-- a read without locks goes by the transaction's session where one is listed, and else without a group
abbrev pub reader_in : TxState → Group → Bool → Who
reader_in tx group true = session_of tx group
reader_in tx group false = record { session = tx.session; tx = tx.number; group = None }

-- the same transaction, whatever sessions it lists and however many writes it counts
pub record IsSameTx (old new : TxState) : Type 0 where
  pub number : new.number ≡ old.number
  pub session : new.session ≡ old.session
  pub limits : new.limits ≡ old.limits
  pub auto : new.auto ≡ old.auto
  pub single : new.single ≡ old.single
  pub changes : old.changes ≤ new.changes
  pub claimed : new.claimed ≡ old.claimed
  pub removed : new.removed ≡ old.removed
