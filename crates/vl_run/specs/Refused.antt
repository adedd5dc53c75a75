-- For what a statement may be refused in an event, each cause with what stood then. `past` is the run before the event, `now`
-- the same with its ask behind it, and `u` what rows and entries are.
use Rattle.std.specs.Prelude.{◌≡◌, ◌==◌, ◌+◌, ◌-◌, ◌&&◌, not, nat_lt, ℕ, Bool, true, false, List, ◌∷◌, length, slice_get, Option, Some, None}
use Rattle.vl_values.specs.declared.cause.Cause.{Cause}
use Rattle.vl_values.specs.declared.cause.Cause.TheVariants as causes
use Rattle.vl_values.specs.declared.group.Group.{Group}
use Rattle.vl_values.specs.declared.group.Group.TheVariants.{Pre, Main, Post}
use Rattle.vl_values.specs.declared.key.Key.{Key}
use Rattle.vl_values.specs.declared.limit.Limit.{Limit as Quantity}
use Rattle.vl_values.specs.declared.limit.Limit.TheVariants as quantities
use Rattle.vl_values.specs.declared.lost_why.LostWhy.{LostWhy}
use Rattle.vl_values.specs.declared.lost_why.LostWhy.TheVariants as why
use Rattle.vl_values.specs.declared.pred.Pred.{Pred}
use Rattle.vl_values.specs.declared.unsupported.Unsupported.{Unsupported}
use Rattle.vl_values.specs.Keyed.{comes_before, is_among_keys}
use Rattle.vl_sql.specs.declared.stmt.Stmt.{Stmt}
use Rattle.vl_sql.specs.declared.stmt.Stmt.TheVariants as stmts
use Rattle.vl_catalog.specs.declared.catalog.Catalog.{Catalog}
use Rattle.vl_text.specs.ShardText.{shard_text}
use Rattle.vl_port.specs.declared.act.Act.{Act}
use Rattle.vl_port.specs.declared.act.Act.TheVariants.{Insert, Put, Remove, RemoveIf, Find}
use Rattle.vl_port.specs.declared.limits.Limits.{Limits}
use Rattle.vl_port.specs.declared.who.Who.{Who}
use Rattle.vl_port.specs.Transaction.{last_tx}
use Rattle.vl_port.specs.View.{Values}
use Rattle.vl_model.specs.Refusals.{is_count, refusals}
use Rattle.vl_model.specs.Tables.{Pair}
use Rattle.vl_plan.specs.declared.plan.Plan.{Plan}
use Rattle.vl_plan.specs.declared.plan.Plan.TheVariants as plans
use Rattle.vl_plan.specs.Planned.{IsPlanned}
use Rattle.vl_change.specs.Begun.{unsupported}
use Rattle.vl_statement.specs.Refusing.{device_failed, duplicate_entry, duplicate_row, lock_wait, read_lost, removed_and_claimed, session_lost}
use Rattle.vl_statement.specs.declared.tally.Tally.{Tally}
use Rattle.vl_statement.specs.Tallies.{first_over}
use Rattle.vl_run.specs.declared.deed.Deed.{Deed}
use Rattle.vl_run.specs.declared.deed.Deed.TheVariants as deeds
use Rattle.vl_run.specs.declared.event.Event.{Event}
use Rattle.vl_run.specs.declared.fault.Fault.TheVariants as faults
use Rattle.vl_run.specs.declared.mark.Mark.TheVariants as marks
use Rattle.vl_run.specs.declared.request.Request.TheVariants as requests
use Rattle.vl_run.specs.Gathered.{Gathered, Reads}
use Rattle.vl_run.specs.Machine.{Machine, is_on, of_tx, takes, view}
use Rattle.vl_run.specs.Named.{IsCheckDue, IsClaimDue, IsCommitDue, IsNext, Purpose, sessions}
use Rattle.vl_run.specs.Progress.{changes, commits, removed, tries}
use Rattle.vl_run.specs.Run.{Run, next_tx, used, was_killed}
use Rattle.vl_run.specs.Session.{Owned, Session, kind_of, opens_first}
use Rattle.vl_run.specs.Session.Kind.{Begins}

-- ---- a key that another holds

abbrev pub is_held_by_other : ℕ → Option Who → Bool
is_held_by_other tx None = false
is_held_by_other tx (Some holder) = not (holder.tx == tx)

-- the act must obtain the key, which is in the hand of another transaction
abbrev pub is_blocked : Catalog → Machine → ℕ → ℕ → Act → Key → Bool
is_blocked catalog u tx shard act k = is_on catalog shard k && (takes u act k && is_held_by_other tx (u k).holder)

-- the least such key, and the client session of its holder
pub record IsHeld (catalog : Catalog) (u : Machine) (tx shard : ℕ) (act : Act) (by : ℕ) (key : Key) : Type 0 where
  pub blocked : is_blocked catalog u tx shard act key ≡ true
  pub holder : (other : Who) × ((u key).holder ≡ Some other) × (other.session ≡ by)
  pub least : (k : Key) → is_blocked catalog u tx shard act k ≡ true → comes_before k key ≡ false

-- ---- rows that clash

-- the row of this key stands for the transaction
abbrev pub StandsFor : Machine → ℕ → ℕ → Key → Type 0
StandsFor u n tx key = (row : Values) × (view u (of_tx n tx Main) key ≡ Some row)

-- ---- what was lost

-- why a session may be lost: the link lost this act or the answer to it; it was killed before; its shard went down since. A kill
-- is told before a restart
abbrev pub MayBeLost : Run → Who → ℕ → LostWhy → Type 0
MayBeLost now who shard why.Dropped = was_killed now who shard ≡ true
MayBeLost now who shard why.Link = Unit {0}
MayBeLost now who shard (why.Restarted had current) = (was_killed now who shard ≡ false) × (nat_lt had current ≡ true)

-- how many commits of the group were done before the one that failed, and how many there are
abbrev pub done_before : Run → ℕ → ℕ → Group → ℕ
done_before now n tx Pre = commits now n
done_before now n tx Main = commits now n - length (used now tx Pre)
done_before now n tx Post = commits now n - (length (used now tx Pre) + length (used now tx Main))

-- ---- limits

abbrev pub is_write : Act → Bool
is_write (Insert key row) = true
is_write (Put key row) = true
is_write (Remove key) = true
is_write (RemoveIf key column value) = true
is_write (Find pred locking) = false

-- a count of rows meets no limit
abbrev pub counts_rows : Stmt → Bool
counts_rows (stmts.Select what t tests orders limit lock) = is_count what
counts_rows _ = false

abbrev pub nothing_read : Tally
nothing_read = record { rows = 0; bytes = 0 }

-- the rows that the statement's reads gave pass no limit
abbrev pub IsWithin : Catalog → Limits → Run → ℕ → Stmt → Type 0
IsWithin catalog limits after n stmt = (rows : List (Key × Values)) → counts_rows stmt ≡ false → Gathered catalog after n rows → first_over limits nothing_read rows ≡ None

-- an entry that the transaction removes isn't claimed
abbrev pub IsUncrossed : Run → ℕ → Option Group → Act → Type 0
IsUncrossed now tx (Some Pre) (Insert key row) = is_among_keys (removed now tx) key ≡ false
IsUncrossed now tx group act = Unit {0}

-- a shard session does an act where it wasn't killed, the limit of changes isn't reached, and nothing is crossed
pub record MayAct (limits : Limits) (now : Run) (who : Who) (shard : ℕ) (act : Act) : Type 0 where
  pub spared : was_killed now who shard ≡ false
  pub within : is_write act ≡ true → nat_lt (changes now who.tx) limits.changes ≡ true
  pub uncrossed : IsUncrossed now who.tx who.group act

abbrev pub MayDo : Limits → Run → Deed → Type 0
MayDo limits now deeds.Nothing = Unit {0}
MayDo limits now (deeds.Acts who shard act mark) = MayAct limits now who shard act
MayDo limits now (deeds.Commits who shard) = was_killed now who shard ≡ false
MayDo limits now (deeds.Fails who shard) = Unit {0}

-- ---- the causes

pub data Refuses (catalog : Catalog) (limits : Limits) (u : Machine) (past now after : Run) (e : Event) (n : ℕ) (stmt : Stmt) (s : Session) : Cause → Type 0 where
  -- want of memory is free
  Memory : Refuses catalog limits u past now after e n stmt s causes.OutOfMemory
  -- the plan refuses the statement: for the first cause there is, before it does anything
  Planned : (cause : Cause) → e.request ≡ requests.Say stmt → e.deed ≡ deeds.Nothing → e.fault ≡ None → slice_get (refusals catalog stmt) 0 ≡ Some cause → Refuses catalog limits u past now after e n stmt s cause
  -- the transaction that it would open has no number
  NoNumber : slice_get (refusals catalog stmt) 0 ≡ None → e.deed ≡ deeds.Nothing → next_tx past ≡ last_tx + 1 → (opens_first (kind_of stmt) s.owned ≡ true) → Refuses catalog limits u past now after e n stmt s (causes.Limit quantities.Transactions last_tx)
  NoNumberToBegin : kind_of stmt ≡ Begins → e.request ≡ requests.Say stmt → e.deed ≡ deeds.Nothing → next_tx past ≡ last_tx + 1 → Refuses catalog limits u past now after e n stmt s (causes.Limit quantities.Transactions last_tx)
  -- another session has taken the last number while a BEGIN committed
  NumberTaken : (own : Owned) → kind_of stmt ≡ Begins → s.owned ≡ Some own → commits after n ≡ length (sessions after own.number) → next_tx past ≡ last_tx + 1
      → Refuses catalog limits u past now after e n stmt s (causes.Limit quantities.Transactions last_tx)
  -- no program runs it yet
  NotRun : (plan : Plan) (what : Unsupported) → e.request ≡ requests.Say stmt → e.deed ≡ deeds.Nothing → e.fault ≡ None → slice_get (refusals catalog stmt) 0 ≡ None → IsPlanned catalog stmt plan → unsupported catalog plan ≡ Some what
      → Refuses catalog limits u past now after e n stmt s (causes.NotSupported what)
  -- the row would be one change more than the transaction may make. No shard was asked
  Full : (purpose : Purpose) (who : Who) (shard : ℕ) (act : Act) → IsNext catalog u now n stmt s.owned purpose who shard act → is_write act ≡ true → e.deed ≡ deeds.Nothing → e.fault ≡ None
      → nat_lt (changes now who.tx) limits.changes ≡ false → Refuses catalog limits u past now after e n stmt s (causes.Limit quantities.Changes limits.changes)
  -- a quantity of the shard's record or file
  Spent : (who : Who) (shard : ℕ) (act : Act) (what : Quantity) (count : ℕ) → e.deed ≡ deeds.Acts who shard act marks.Opens → e.fault ≡ None → ((k : Key) → is_blocked catalog u who.tx shard act k ≡ false) → Refuses catalog limits u past now after e n stmt s (causes.Limit what count)
  -- the rows that its reads gave pass a limit
  TooMany : (rows : List (Key × Values)) (what : Quantity) (count : ℕ) → counts_rows stmt ≡ false → e.fault ≡ None → Gathered catalog after n rows → first_over limits nothing_read rows ≡ Some (what, count) → Refuses catalog limits u past now after e n stmt s (causes.Limit what count)
  -- a row with the key stands already
  HasRow : (tx : ℕ) (who : Who) (shard : ℕ) (key : Key) (row : Values) → e.deed ≡ deeds.Acts who shard (Insert key row) marks.Takes → e.fault ≡ None → who ≡ of_tx n tx Main → StandsFor u n tx key → Refuses catalog limits u past now after e n stmt s (duplicate_row catalog shard key)
  -- a row of the owner has the values of the entry that is claimed: the first that the check gave
  HasEntry : (tx number : ℕ) (rows : List Values) (who : Who) (shard : ℕ) (pred : Pred) (first : Pair) (rest : List Pair) (check : IsCheckDue catalog u now n tx number rows who shard (Find pred true))
      → IsPlanned catalog stmt (plans.Insert (record { table = number; rows = rows })) → e.deed ≡ deeds.Acts who shard (Find pred true) marks.Takes → e.fault ≡ None → Reads catalog u who shard pred (first ∷ rest)
      → Refuses catalog limits u past now after e n stmt s (duplicate_entry catalog check.at.l check.entry.1 shard first.0)
  -- the action met a key of another as often as the limit says
  Waits : (tx : ℕ) (who : Who) (shard : ℕ) (act : Act) (by : ℕ) (key : Key) → e.deed ≡ deeds.Acts who shard act marks.Opens → who.tx ≡ tx → e.fault ≡ None → IsHeld catalog u tx shard act by key → tries now n + 1 ≡ limits.tries
      → Refuses catalog limits u past now after e n stmt s (lock_wait catalog limits.tries by key)
  -- the entry that is to be claimed is one that the transaction removes. No shard was asked
  Crossed : (own : Owned) (number : ℕ) (rows : List Values) (who : Who) (shard : ℕ) (act : Act) (claim : IsClaimDue catalog u now n own.number number rows who shard act) → s.owned ≡ Some own
      → IsPlanned catalog stmt (plans.Insert (record { table = number; rows = rows })) → is_among_keys (removed now own.number) claim.entry.0 ≡ true → e.deed ≡ deeds.Nothing → e.fault ≡ None
      → Refuses catalog limits u past now after e n stmt s (removed_and_claimed catalog claim.next.l claim.entry.1)
  -- a shard session was lost at its use, or the device of its shard failed
  Lost : (purpose : Purpose) (who : Who) (group : Group) (shard : ℕ) (act : Act) (reason : LostWhy) → IsNext catalog u now n stmt s.owned purpose who shard act → who.group ≡ Some group → e.visits ≡ Some shard → e.fault ≡ Some (faults.Lost reason)
      → MayBeLost now who shard reason → Refuses catalog limits u past now after e n stmt s (session_lost catalog group shard reason)
  LostRead : (purpose : Purpose) (who : Who) (shard : ℕ) (act : Act) → IsNext catalog u now n stmt s.owned purpose who shard act → who.group ≡ None → e.visits ≡ Some shard → e.fault ≡ Some (faults.Lost why.Link)
      → Refuses catalog limits u past now after e n stmt s (read_lost catalog shard)
  Failed : (purpose : Purpose) (who : Who) (shard : ℕ) (act : Act) → IsNext catalog u now n stmt s.owned purpose who shard act → e.visits ≡ Some shard → e.fault ≡ Some faults.Device
      → Refuses catalog limits u past now after e n stmt s (device_failed catalog shard)
  -- a commit of pre or main did
  CommitLost : (own : Owned) (shard : ℕ) (group : Group) (reason : LostWhy) → s.owned ≡ Some own → IsCommitDue now n own.number (of_tx n own.number group) shard → e.visits ≡ Some shard → e.fault ≡ Some (faults.Lost reason)
      → MayBeLost now (of_tx n own.number group) shard reason
      → Refuses catalog limits u past now after e n stmt s (causes.CommitLost group (done_before now n own.number group) (length (used now own.number group)) (shard_text catalog shard) reason)
  CommitFailed : (own : Owned) (shard : ℕ) (group : Group) → s.owned ≡ Some own → IsCommitDue now n own.number (of_tx n own.number group) shard → e.visits ≡ Some shard → e.fault ≡ Some faults.Device
      → Refuses catalog limits u past now after e n stmt s (causes.CommitDevice group (done_before now n own.number group) (length (used now own.number group)) (shard_text catalog shard))
