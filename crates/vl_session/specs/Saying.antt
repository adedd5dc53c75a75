-- A client session to which a statement is said, and the event of that.
use Rattle.std.specs.Prelude.{◌≡◌, ℕ, Bool, List, [], Option, Some, None}
use Rattle.vl_catalog.specs.declared.catalog.Catalog.{Catalog}
use Rattle.vl_sql.specs.declared.stmt.Stmt.{Stmt}
use Rattle.vl_port.specs.declared.limits.Limits.{Limits}
use Rattle.vl_port.specs.declared.tx_state.TxState.{TxState}
use Rattle.vl_port.specs.Others.{LeavesOthers}
use Rattle.vl_port.specs.Serving.{Shards}
use Rattle.vl_run.specs.declared.event.Event.{Event}
use Rattle.vl_run.specs.declared.request.Request.TheVariants as requests
use Rattle.vl_run.specs.Progress.{session, warned}
use Rattle.vl_run.specs.Run.{Run, next_tx}
use Rattle.vl_replay.specs.Showing.{Shows}
use Rattle.vl_course.specs.Course.{IsUnused}
use Rattle.vl_session.specs.declared.turn.Turn.{Turn}
use Rattle.vl_session.specs.declared.work.Work.TheVariants as works
use Rattle.vl_session.specs.Ready.{IsUnopened, IsWorkMarked}
use Rattle.vl_session.specs.Standing.{IsIdleAt}
use Rattle.vl_session.specs.Turning.{IsTurn}

-- the session has no statement in progress, the shards show what the run says, and nothing warns. The next transaction has this
-- number, which none has had
pub record IsListening (catalog : Catalog) (limits : Limits) (past : Run) (count : ℕ) (seen : Shards) (n : ℕ) (on : Bool) (chosen : Option (List ℕ)) (number : ℕ) (tx : Option TxState) : Type 0 where
  pub shows : Shows catalog past count seen
  pub stands : IsIdleAt catalog limits past n tx
  pub auto : on ≡ (session past n).auto
  pub keyspace : chosen ≡ (session past n).keyspace
  pub unwarned : warned catalog past n ≡ []
  pub marked : IsWorkMarked past seen (works.Idle tx)
  pub next : number ≡ next_tx past
  pub unopened : IsUnopened past count number seen
  pub unused : IsUnused past number

-- the session says the statement in this event, which keeps the turn
pub record IsSaying (e : Event) (n : ℕ) (stmt : Stmt) (came : Turn) : Type 0 where
  pub by : e.session ≡ n
  pub asked : e.request ≡ requests.Say stmt
  pub turn : IsTurn e came

-- the transaction for which a call acts: the open one, or the one that it opens
abbrev pub acting : Option TxState → Option ℕ → Option ℕ
acting None opens = opens
acting (Some tx) opens = Some tx.number

-- what other transactions have is left to them, and all where the call acts for none
abbrev pub LeavesBut : Option ℕ → Shards → Shards → Type 0
LeavesBut None old new = new ≡ old
LeavesBut (Some tx) old new = LeavesOthers tx old new
