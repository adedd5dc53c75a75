-- A statement that runs, and its transaction, as the run has them.
use Rattle.std.specs.Prelude.{◌≡◌, ◌≤◌, ◌<◌, ◌==◌, ℕ, Bool, false, [], map, Option, Some, None}
use Rattle.vl_values.specs.declared.group.Group.{Group}
use Rattle.vl_catalog.specs.declared.catalog.Catalog.{Catalog}
use Rattle.vl_sql.specs.declared.stmt.Stmt.{Stmt}
use Rattle.vl_port.specs.declared.claimed.Claimed.{Claimed}
use Rattle.vl_port.specs.declared.limits.Limits.{Limits}
use Rattle.vl_port.specs.declared.tx_state.TxState.{TxState}
use Rattle.vl_port.specs.Transaction.{listed}
use Rattle.vl_model.specs.Refusals.{refusals}
use Rattle.vl_plan.specs.declared.plan.Plan.{Plan}
use Rattle.vl_plan.specs.Planned.{IsPlanned}
use Rattle.vl_run.specs.declared.deed.Deed.{Deed}
use Rattle.vl_run.specs.declared.deed.Deed.TheVariants as deeds
use Rattle.vl_run.specs.Progress.{changes, claimed, commits, has_written, removed, session, tries, warned}
use Rattle.vl_run.specs.Run.{Run, next_tx, used}
use Rattle.vl_run.specs.Session.{Owned}

-- what is kept of a transaction: its shard sessions by first use, its writes, and its two lists
pub record IsTx (bounds : Limits) (now : Run) (n : ℕ) (own : Owned) (tx : TxState) : Type 0 where
  pub number : tx.number ≡ own.number
  pub session : tx.session ≡ n
  pub single : tx.single ≡ own.single
  pub limits : tx.limits ≡ bounds
  pub used : (group : Group) → used now own.number group ≡ listed tx group
  pub changes : tx.changes ≡ changes now own.number
  -- the limit of changes holds the count below its end
  pub below : tx.changes ≤ bounds.changes
  pub claimed : map (λ (claim : Claimed). claim.key) tx.claimed ≡ claimed now own.number
  pub removed : tx.removed ≡ removed now own.number

-- a transaction that is opened now: that of one statement, where autocommit is on
abbrev pub opened_tx : ℕ → ℕ → Limits → Bool → TxState
opened_tx number session limits auto = record { number = number; session = session; limits = limits; auto = auto; single = auto; pre = []; main = []; post = []; changes = 0; claimed = []; removed = [] }

-- no event has a deed of a transaction of this number
pub record IsUnused (now : Run) (tx : ℕ) : Type 0 where
  pub used : (group : Group) → used now tx group ≡ []
  pub changes : changes now tx ≡ 0
  pub claimed : claimed now tx ≡ []
  pub removed : removed now tx ≡ []

-- nor of one whose number is still to be given
abbrev pub AreUnused : Run → Type 0
AreUnused now = (tx : ℕ) → next_tx now ≤ tx → IsUnused now tx

-- the session's statement in progress has this plan, which isn't refused, and runs in this transaction. It has tried the
-- action that is due so often, has written or not; no commit has begun, and nothing
-- warns
pub record Course (catalog : Catalog) (limits : Limits) (now : Run) (n : ℕ) (stmt : Stmt) (plan : Plan) (own : Owned) (tx : TxState) (times : ℕ) (wrote : Bool) : Type 0 where
  pub doing : (session now n).doing ≡ Some stmt
  pub accepted : refusals catalog stmt ≡ []
  pub planned : IsPlanned catalog stmt plan
  pub owned : (session now n).owned ≡ Some own
  pub auto : tx.auto ≡ (session now n).auto
  pub is_tx : IsTx limits now n own tx
  pub uncommitted : commits now n ≡ 0
  pub tried : tries now n ≡ times
  pub written : has_written now n ≡ wrote
  pub unwarned : warned catalog now n ≡ []

-- ---- events of others

-- the deed is none of the transaction of this number
abbrev pub IsApart : Deed → ℕ → Type 0
IsApart deeds.Nothing tx = Unit {0}
IsApart (deeds.Acts who shard act mark) tx = (who.tx == tx) ≡ false
IsApart (deeds.Commits who shard) tx = Unit {0}
IsApart (deeds.Fails who shard) tx = Unit {0}

-- the deed is of a transaction below this number
abbrev pub IsBelow : Deed → ℕ → Type 0
IsBelow deeds.Nothing next = Unit {0}
IsBelow (deeds.Acts who shard act mark) next = who.tx < next
IsBelow (deeds.Commits who shard) next = Unit {0}
IsBelow (deeds.Fails who shard) next = Unit {0}

-- the deed is an act of the transaction of this number, or none
abbrev pub IsOf : Deed → ℕ → Type 0
IsOf deeds.Nothing tx = Unit {0}
IsOf (deeds.Acts who shard act mark) tx = who.tx ≡ tx
IsOf (deeds.Commits who shard) tx = Unit {0}
IsOf (deeds.Fails who shard) tx = Unit {0}

-- ---- numbers of transactions

-- the numbers of open transactions were given, and no two sessions have one
pub record AreOwned (now : Run) : Type 0 where
  pub given : (n : ℕ) (own : Owned) → (session now n).owned ≡ Some own → own.number < next_tx now
  pub apart : (n m : ℕ) (own other : Owned) → (n == m) ≡ false → (session now n).owned ≡ Some own → (session now m).owned ≡ Some other → (own.number == other.number) ≡ false

pub record AreNumbered (now : Run) : Type 0 where
  pub owned : AreOwned now
  pub unused : AreUnused now

-- a transaction that is opened has the next number
abbrev pub HasNext : ℕ → Option ℕ → Type 0
HasNext next None = Unit {0}
HasNext next (Some number) = number ≡ next
