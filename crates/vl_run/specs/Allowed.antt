-- Which events a run may have: what each was asked, did and told.
use Rattle.std.specs.Prelude.{◌≡◌, ◌<◌, ◌≤◌, ◌+◌, ◌==◌, ◌||◌, slice_get, ℕ, Bool, true, false, List, [], ◌∷◌, length, Option, Some, None}
use Rattle.std.specs.Option.{is_some}
use Rattle.vl_values.specs.declared.cause.Cause.{Cause}
use Rattle.vl_values.specs.declared.group.Group.{Group}
use Rattle.vl_values.specs.declared.group.Group.TheVariants.{Post}
use Rattle.vl_values.specs.declared.key.Key.{Key}
use Rattle.vl_values.specs.declared.reply.Reply.TheVariants as replies
use Rattle.vl_values.specs.declared.reply_column.ReplyColumn.{ReplyColumn}
use Rattle.vl_values.specs.Cause.{error_code}
use Rattle.vl_sql.specs.declared.stmt.Stmt.{Stmt}
use Rattle.vl_sql.specs.declared.stmt.Stmt.TheVariants as stmts
use Rattle.vl_catalog.specs.declared.catalog.Catalog.{Catalog}
use Rattle.vl_port.specs.declared.act.Act.{Act}
use Rattle.vl_port.specs.declared.change.Change.{Change}
use Rattle.vl_port.specs.declared.limits.Limits.{Limits}
use Rattle.vl_port.specs.declared.who.Who.{Who}
use Rattle.vl_port.specs.Transaction.{last_tx}
use Rattle.vl_port.specs.View.{Values}
use Rattle.vl_plan.specs.declared.plan.Plan.{Plan}
use Rattle.vl_plan.specs.declared.plan.Plan.TheVariants as plans
use Rattle.vl_plan.specs.declared.select_plan.SelectPlan.{SelectPlan}
use Rattle.vl_plan.specs.Planned.{IsPlanned}
use Rattle.vl_select.specs.Columns.{columns_of}
use Rattle.vl_select.specs.Results.{IsResultOf}
use Rattle.vl_run.specs.declared.ask.Ask.{Ask}
use Rattle.vl_run.specs.declared.ask.Ask.TheVariants as asks
use Rattle.vl_run.specs.declared.deed.Deed.{Deed}
use Rattle.vl_run.specs.declared.deed.Deed.TheVariants as deeds
use Rattle.vl_run.specs.declared.ends.Ends.{Ends}
use Rattle.vl_run.specs.declared.ends.Ends.TheVariants as ends
use Rattle.vl_run.specs.declared.event.Event.{Event}
use Rattle.vl_run.specs.declared.fault.Fault.{Fault}
use Rattle.vl_run.specs.declared.mark.Mark.{Mark}
use Rattle.vl_run.specs.declared.mark.Mark.TheVariants as marks
use Rattle.vl_run.specs.declared.request.Request.{Request}
use Rattle.vl_run.specs.declared.request.Request.TheVariants as requests
use Rattle.vl_run.specs.declared.tag.Tag.{Tag}
use Rattle.vl_run.specs.declared.tag.Tag.TheVariants as tags
use Rattle.vl_run.specs.declared.what.What.{What}
use Rattle.vl_run.specs.declared.what.What.TheVariants as whats
use Rattle.vl_run.specs.Deeds.{steps_of}
use Rattle.vl_run.specs.Gathered.{Gathered, shown}
use Rattle.vl_run.specs.Local.{IsLocal}
use Rattle.vl_run.specs.Machine.{CanStepAll, Machine, of_tx}
use Rattle.vl_run.specs.Named.{ComesTo, HasWorked, IsCommitDue, IsMarked, IsNext, Purpose, sessions}
use Rattle.vl_run.specs.Numbers.{IsNextFree, last_event, most_sessions}
use Rattle.vl_run.specs.Progress.{commits, has_begun_to_commit, has_written, session, tries, warned, wrote}
use Rattle.vl_run.specs.Refused.{IsHeld, IsWithin, MayDo, Refuses}
use Rattle.vl_run.specs.Run.{Run, at, cells, is_broken, joined, named, next_tx, nowhere, seat, state, was_killed}
use Rattle.vl_run.specs.Run.Point.{Began, Happened}
use Rattle.vl_run.specs.Session.{IsTold, Kind, Owned, Session, is_committing, is_kept, kind_of, opens_first}
use Rattle.vl_run.specs.Session.Kind.{Begins, Commits, RollsBack, SetsAuto, Stays, Works}

-- ---- an event before its deed

abbrev pub is_ok : Tag → Bool
is_ok (tags.Ok affected found warnings tx auto) = true
is_ok _ = false

-- the event as it is asked: nothing is done yet, and a statement that is said is in progress
abbrev pub asked : Event → Event
asked e = record e { deed = deeds.Nothing; fault = None; visits = None; ends = ends.Nobody; told = tags.Nothing }

abbrev pub now_of : Event → Run → Run
now_of e past = Happened (asked e) ∷ past

-- ---- what was done

-- the event did what its statement names next, or nothing
pub data IsDone (catalog : Catalog) (u : Machine) (now : Run) (n : ℕ) (stmt : Stmt) (owned : Option Owned) : Deed → Type 0 where
  DidNothing : IsDone catalog u now n stmt owned deeds.Nothing
  DidAct : (purpose : Purpose) (who : Who) (shard : ℕ) (act : Act) (mark : Mark) → IsNext catalog u now n stmt owned purpose who shard act → ComesTo purpose mark → IsMarked u who act mark → IsDone catalog u now n stmt owned (deeds.Acts who shard act mark)
  DidCommit : (plan : Plan) (own : Owned) (who : Who) (shard : ℕ) → IsPlanned catalog stmt plan → owned ≡ Some own → HasWorked catalog now n plan → is_committing (kind_of stmt) owned ≡ true → IsCommitDue now n own.number who shard
      → IsDone catalog u now n stmt owned (deeds.Commits who shard)
  DidFail : (plan : Plan) (own : Owned) (who : Who) (shard : ℕ) → IsPlanned catalog stmt plan → owned ≡ Some own → HasWorked catalog now n plan → is_committing (kind_of stmt) owned ≡ true → IsCommitDue now n own.number who shard
      → IsDone catalog u now n stmt owned (deeds.Fails who shard)

-- whether all shard sessions of the transaction that it commits were dealt with
abbrev pub HasCommitted : Run → ℕ → Bool → Option Owned → Type 0
HasCommitted now n true (Some owned) = commits now n ≡ length (sessions now owned.number)
HasCommitted now n true None = Unit {0}
HasCommitted now n false owned = commits now n ≡ 0

-- nothing is left to be done of the statement, whose plan this is
pub record IsOver (catalog : Catalog) (after : Run) (n : ℕ) (stmt : Stmt) (owned : Option Owned) (plan : Plan) : Type 0 where
  pub planned : IsPlanned catalog stmt plan
  pub worked : HasWorked catalog after n plan
  pub committed : HasCommitted after n (is_committing (kind_of stmt) owned) owned

-- a commit of post that failed is no refusal; any other fault is one
abbrev pub IsUnharmedBy : Option Group → Option Fault → Type 0
IsUnharmedBy group None = Unit {0}
IsUnharmedBy group (Some fault) = group ≡ Some Post

abbrev pub IsUnharmed : Deed → Option Fault → Type 0
IsUnharmed deeds.Nothing fault = fault ≡ None
IsUnharmed (deeds.Acts who shard act mark) fault = fault ≡ None
IsUnharmed (deeds.Commits who shard) fault = IsUnharmedBy who.group fault
IsUnharmed (deeds.Fails who shard) fault = (is_some fault ≡ true) × IsUnharmedBy who.group fault

abbrev pub IsMet : Mark → Type 0
IsMet marks.Opens = ⊥
IsMet marks.Takes = Unit {0}
IsMet marks.Looks = Unit {0}
IsMet marks.Reads = Unit {0}
IsMet marks.Writes = Unit {0}

-- the act or commit that was due has come about
abbrev pub HasCome : Deed → Type 0
HasCome deeds.Nothing = Unit {0}
HasCome (deeds.Acts who shard act mark) = IsMet mark
HasCome (deeds.Commits who shard) = Unit {0}
HasCome (deeds.Fails who shard) = Unit {0}

pub record Proceeds (e : Event) : Type 0 where
  pub sound : IsUnharmed e.deed e.fault
  pub come : HasCome e.deed

-- the shard that the event went to: that of its deed, or of what was due and wasn't done
pub data IsVisit (catalog : Catalog) (u : Machine) (now : Run) (n : ℕ) (stmt : Stmt) (owned : Option Owned) : Deed → Option ℕ → Type 0 where
  Nowhere : IsVisit catalog u now n stmt owned deeds.Nothing None
  Due : (purpose : Purpose) (who : Who) (shard : ℕ) (act : Act) → IsNext catalog u now n stmt owned purpose who shard act → IsVisit catalog u now n stmt owned deeds.Nothing (Some shard)
  ByAct : (who : Who) (shard : ℕ) (act : Act) (mark : Mark) → IsVisit catalog u now n stmt owned (deeds.Acts who shard act mark) (Some shard)
  ByCommit : (who : Who) (shard : ℕ) → IsVisit catalog u now n stmt owned (deeds.Commits who shard) (Some shard)
  ByFailure : (who : Who) (shard : ℕ) → IsVisit catalog u now n stmt owned (deeds.Fails who shard) (Some shard)

-- ---- the transaction

-- it opens where the statement needs one and none is open, and where a BEGIN is answered; it has the next number
pub data Opens (past : Run) (e : Event) (stmt : Stmt) (before : Option Owned) : Option ℕ → Type 0 where
  First : e.request ≡ requests.Say stmt → opens_first (kind_of stmt) before ≡ true → next_tx past ≤ last_tx → Opens past e stmt before (Some (next_tx past))
  Begun : (affected found warnings : ℕ) (tx auto : Bool) → kind_of stmt ≡ Begins → e.told ≡ tags.Ok affected found warnings tx auto → next_tx past ≤ last_tx → Opens past e stmt before (Some (next_tx past))
  -- a statement that is refused before it does anything may open none
  Refused : (code : ℕ) (tx : Bool) → e.told ≡ tags.Err code tx → e.deed ≡ deeds.Nothing → e.fault ≡ None → Opens past e stmt before None
  Later : opens_first (kind_of stmt) before ≡ false → (kind_of stmt ≡ Begins → is_ok e.told ≡ false) → Opens past e stmt before None

abbrev pub whole_of : Option Owned → Ends
whole_of None = ends.Nobody
whole_of (Some own) = ends.Whole own.number

abbrev pub unless_kept : Bool → Option Owned → Ends
unless_kept true owned = ends.Nobody
unless_kept false owned = whole_of owned

abbrev pub if_rolled_back : Kind → Option Owned → Ends
if_rolled_back RollsBack owned = whole_of owned
if_rolled_back Works owned = ends.Nobody
if_rolled_back Begins owned = ends.Nobody
if_rolled_back Commits owned = ends.Nobody
if_rolled_back (SetsAuto on) owned = ends.Nobody
if_rolled_back Stays owned = ends.Nobody

abbrev pub failed_one : Deed → Ends
failed_one deeds.Nothing = ends.Nobody
failed_one (deeds.Acts who shard act mark) = ends.Nobody
failed_one (deeds.Commits who shard) = ends.Nobody
failed_one (deeds.Fails who shard) = ends.One who shard

-- the sessions that end: all of the transaction at a refusal that leaves none open, and at a ROLLBACK; else that whose commit
-- in post wasn't done
abbrev pub ends_due : Tag → Kind → Deed → Option Owned → Ends
ends_due tags.Nothing kind deed owned = ends.Nobody
ends_due tags.More kind deed owned = failed_one deed
ends_due (tags.Held by count) kind deed owned = ends.Nobody
ends_due (tags.Ok affected found warnings tx auto) kind (deeds.Fails who shard) owned = ends.One who shard
ends_due (tags.Ok affected found warnings tx auto) kind deed owned = if_rolled_back kind owned
ends_due (tags.Rows tx auto) kind deed owned = failed_one deed
ends_due (tags.Err code tx) kind deed owned = unless_kept tx owned

-- no key is in the transaction's hand, and no change is its own
pub record HasNothing (u : Machine) (tx : ℕ) : Type 0 where
  pub hand : (k : Key) (who : Who) → (u k).holder ≡ Some who → who.tx ≡ tx → ⊥
  pub own : (k : Key) (change : Change) → (u k).change ≡ Some change → change.who.tx ≡ tx → ⊥

abbrev pub owns : Option Owned → ℕ → Bool
owns None tx = false
owns (Some own) tx = own.number == tx

-- ---- replies

-- the statements that are answered by a result set
abbrev pub gives_rows : Stmt → Bool
gives_rows (stmts.Select what t tests orders limit lock) = true
gives_rows stmts.ShowTables = true
gives_rows stmts.ShowDatabases = true
gives_rows stmts.ShowWarnings = true
gives_rows stmts.SelectVersionComment = true
gives_rows stmts.SelectDatabase = true
gives_rows _ = false

-- how many rows an Ok tells as changed and as found: an UPDATE tells those that it found
abbrev pub IsCounted : Catalog → Run → ℕ → Plan → ℕ → ℕ → Type 0
IsCounted catalog after n (plans.Update plan) affected found = (affected ≡ length (wrote after n)) × ((rows : List (Key × Values)) × Gathered catalog after n rows × (found ≡ length rows))
IsCounted catalog after n plan affected found = (affected ≡ length (wrote after n)) × (found ≡ affected)

-- the rows of a SELECT, or those of a statement that reads no table
pub data IsResult (catalog : Catalog) (after : Run) (n : ℕ) (stmt : Stmt) (s : Session) : Plan → List ReplyColumn → List Values → Type 0 where
  Selected : (plan : SelectPlan) (rows : List (Key × Values)) (result : List Values) → Gathered catalog after n rows → IsResultOf plan.what plan.sorts plan.limit (length rows) rows result
      → IsResult catalog after n stmt s (plans.Select plan) (columns_of catalog plan.pred.table plan.what) result
  Local : (plan : Plan) (columns : List ReplyColumn) (result : List Values) → IsLocal catalog s.keyspace (warned catalog after n) stmt columns result → IsResult catalog after n stmt s plan columns result

pub record IsWaiting (catalog : Catalog) (limits : Limits) (u : Machine) (now : Run) (n : ℕ) (e : Event) (by : ℕ) (key : Key) (count : ℕ) : Type 0 where
  pub who : Who
  pub shard : ℕ
  pub act : Act
  pub met : e.deed ≡ deeds.Acts who shard act marks.Opens
  pub held : IsHeld catalog u who.tx shard act by key
  pub counted : count ≡ tries now n + 1
  pub below : count < limits.tries
  pub sound : e.fault ≡ None

-- a statement was done
pub record IsOk (catalog : Catalog) (limits : Limits) (after : Run) (n : ℕ) (stmt : Stmt) (s : Session) (e : Event) (affected found warnings : ℕ) : Type 0 where
  pub plan : Plan
  pub over : IsOver catalog after n stmt s.owned plan
  pub counted : IsCounted catalog after n plan affected found
  pub warned : warnings ≡ length (warned catalog after n)
  pub rowless : gives_rows stmt ≡ false
  pub within : IsWithin catalog limits after n stmt
  pub proceeds : Proceeds e

-- it was answered by these rows
pub record IsRows (catalog : Catalog) (limits : Limits) (after : Run) (n : ℕ) (stmt : Stmt) (s : Session) (e : Event) (columns : List ReplyColumn) (rows : List Values) : Type 0 where
  pub plan : Plan
  pub over : IsOver catalog after n stmt s.owned plan
  pub result : IsResult catalog after n stmt s plan columns rows
  pub within : IsWithin catalog limits after n stmt
  pub proceeds : Proceeds e

-- it was refused. The transaction stays open where the refusal came before its first write and before its commit, and no session
-- was lost, no device failed, and it isn't of this statement alone
pub record IsErr (catalog : Catalog) (limits : Limits) (past : Run) (e : Event) (n : ℕ) (stmt : Stmt) (s : Session) (code : ℕ) (why : Cause) (tx : Bool) : Type 0 where
  pub coded : code ≡ error_code why
  pub caused : Refuses catalog limits (shown catalog past) past (now_of e past) (Happened e ∷ past) e n stmt s why
  pub kept : tx ≡ is_kept (has_written (Happened e ∷ past) n) (is_some e.fault || has_begun_to_commit (Happened e ∷ past) n) s.owned

-- a statement's answers; `s` is the session while the statement is in progress
abbrev pub Allows : Catalog → Limits → Run → Event → ℕ → Stmt → Session → What → Type 0
Allows catalog limits past e n stmt s whats.More = Proceeds e × IsWithin catalog limits (Happened e ∷ past) n stmt × ((plan : Plan) → IsOver catalog (Happened e ∷ past) n stmt s.owned plan → ⊥)
Allows catalog limits past e n stmt s (whats.Held by key count) = IsWaiting catalog limits (shown catalog past) (now_of e past) n e by key count
Allows catalog limits past e n stmt s (whats.Reply (replies.Ok affected found warnings tx auto)) = IsOk catalog limits (Happened e ∷ past) n stmt s e affected found warnings
Allows catalog limits past e n stmt s (whats.Reply (replies.Rows columns rows tx auto)) = IsRows catalog limits (Happened e ∷ past) n stmt s e columns rows
Allows catalog limits past e n stmt s (whats.Reply (replies.Err code why tx)) = IsErr catalog limits past e n stmt s code why tx
Allows catalog limits past e n stmt s whats.Stray = ⊥

abbrev pub tag_of : What → Tag
tag_of whats.More = tags.More
tag_of (whats.Held by key count) = tags.Held by count
tag_of (whats.Reply (replies.Ok affected found warnings tx auto)) = tags.Ok affected found warnings tx auto
tag_of (whats.Reply (replies.Rows columns rows tx auto)) = tags.Rows tx auto
tag_of (whats.Reply (replies.Err code why tx)) = tags.Err code tx
tag_of whats.Stray = tags.Nothing

-- ---- events

-- the session has said this statement, with none in progress before; or it goes on with the one in progress
abbrev pub IsAsked : Session → Request → Stmt → Type 0
IsAsked s (requests.Say said) stmt = (s.doing ≡ None) × (said ≡ stmt)
IsAsked s requests.Step stmt = s.doing ≡ Some stmt
IsAsked s requests.Join stmt = ⊥
IsAsked s requests.Reset stmt = ⊥
IsAsked s requests.Leave stmt = ⊥
IsAsked s (requests.Kill who shard) stmt = ⊥

-- a Say or a Step, and what was told of it
pub record Answers (catalog : Catalog) (limits : Limits) (past : Run) (e : Event) (what : What) : Type 0 where
  pub stmt : Stmt
  pub asked : IsAsked (session past e.session) e.request stmt
  pub opens : Opens past e stmt (session past e.session).owned e.opens
  pub done : IsDone catalog (shown catalog past) (now_of e past) e.session stmt (session (now_of e past) e.session).owned e.deed
  pub may : MayDo limits (now_of e past) e.deed
  pub visit : IsVisit catalog (shown catalog past) (now_of e past) e.session stmt (session (now_of e past) e.session).owned e.deed e.visits
  pub ends : e.ends ≡ ends_due e.told (kind_of stmt) e.deed (session (now_of e past) e.session).owned
  -- each step of the one table may be made: no key is in another's hand, and no row clashes
  pub steps : CanStepAll catalog (is_broken past) (state catalog past) (steps_of catalog (cells catalog past) e)
  pub told : tag_of what ≡ e.told
  pub allowed : Allows catalog limits past e e.session stmt (session (now_of e past) e.session) what
  -- whether a transaction stays open, and autocommit, are told truly; and one that doesn't stay open has nothing left
  pub true_ : IsTold e.told (session (Happened e ∷ past) e.session)
  pub left : (own : Owned) → (session (now_of e past) e.session).owned ≡ Some own → owns (session (Happened e ∷ past) e.session).owned own.number ≡ false → HasNothing (state catalog (Happened e ∷ past)) own.number

-- nothing is done by an event that is no statement's
pub record IsStill (e : Event) : Type 0 where
  pub deed : e.deed ≡ deeds.Nothing
  pub fault : e.fault ≡ None
  pub visits : e.visits ≡ None
  pub opens : e.opens ≡ None

-- all is rolled back, autocommit is on, and the answer is an OK
pub record Resets (past : Run) (e : Event) (what : What) : Type 0 where
  pub still : IsStill e
  pub idle : (session past e.session).doing ≡ None
  pub ends : e.ends ≡ whole_of (session past e.session).owned
  pub says : what ≡ whats.Reply (replies.Ok 0 0 0 false true)
  pub told : e.told ≡ tag_of what

-- a session joins, with the next number that no joined one has
pub record Joins (past : Run) (e : Event) : Type 0 where
  pub still : IsStill e
  pub few : length (joined past) < most_sessions
  pub number : IsNextFree (joined past) (named past) e.session
  pub ends : e.ends ≡ ends.Nobody
  pub told : e.told ≡ tags.Nothing

-- a session leaves, and its open work is rolled back
pub record Leaves (past : Run) (e : Event) : Type 0 where
  pub still : IsStill e
  pub joined : is_some (seat past e.session) ≡ true
  pub ends : e.ends ≡ whole_of (session past e.session).owned
  pub told : e.told ≡ tags.Nothing

-- a shard session of the client session's transaction, opened, not dealt with by a commit and not killed yet
pub record IsLive (past : Run) (n : ℕ) (who : Who) (shard : ℕ) : Type 0 where
  pub own : Owned
  pub owned : (session past n).owned ≡ Some own
  pub group : Group
  pub by : who ≡ of_tx n own.number group
  pub place : ℕ
  pub opened : slice_get (sessions past own.number) place ≡ Some (group, shard)
  pub left : commits past n ≤ place
  pub spared : was_killed past who shard ≡ false

pub record Kills (past : Run) (e : Event) (who : Who) (shard : ℕ) : Type 0 where
  pub still : IsStill e
  pub live : IsLive past e.session who shard
  pub ends : e.ends ≡ ends.One who shard
  pub told : e.told ≡ tags.Nothing

-- a session's own event comes only before the last event number
pub record IsSeated (past : Run) (n : ℕ) : Type 0 where
  pub joined : is_some (seat past n) ≡ true
  pub below : at past < last_event

-- the event follows, and this was told of it: a Join, a Leave and a kill tell nothing of a statement
abbrev pub FollowsBy : Request → Catalog → Limits → Run → Event → What → Type 0
FollowsBy requests.Join catalog limits past e what = Joins past e
FollowsBy (requests.Say stmt) catalog limits past e what = IsSeated past e.session × Answers catalog limits past e what
FollowsBy requests.Step catalog limits past e what = IsSeated past e.session × Answers catalog limits past e what
FollowsBy requests.Reset catalog limits past e what = IsSeated past e.session × Resets past e what
FollowsBy requests.Leave catalog limits past e what = Leaves past e
FollowsBy (requests.Kill who shard) catalog limits past e what = Kills past e who shard

abbrev pub Follows : Catalog → Limits → Run → Event → What → Type 0
Follows catalog limits past e what = FollowsBy e.request catalog limits past e what

-- each event follows those before it, with some whole answer that has its tag
abbrev pub IsRun : Catalog → Limits → Run → Type 0
IsRun catalog limits [] = Unit {0}
IsRun catalog limits (Began opening ∷ past) = IsRun catalog limits past × (opening ≡ nowhere)
IsRun catalog limits (Happened e ∷ past) = IsRun catalog limits past × ((what : What) × Follows catalog limits past e what)

-- ---- asks that are no events

abbrev pub request_of : Ask → Request
request_of (asks.Say stmt) = requests.Say stmt
request_of asks.Reset = requests.Reset
request_of asks.Step = requests.Step

-- a statement is in progress where one is to be said, or none is where it is to go on
abbrev pub IsOutOfTurn : Option Stmt → Ask → Type 0
IsOutOfTurn None (asks.Say stmt) = ⊥
IsOutOfTurn None asks.Reset = ⊥
IsOutOfTurn None asks.Step = Unit {0}
IsOutOfTurn (Some doing) (asks.Say stmt) = Unit {0}
IsOutOfTurn (Some doing) asks.Reset = Unit {0}
IsOutOfTurn (Some doing) asks.Step = ⊥

-- the ask of a session by a pass that saw this event last is none
pub data IsStray (past : Run) (n seen : ℕ) (ask : Ask) : Type 0 where
  NotSeated : (seat past n ≡ Some seen → ⊥) → IsStray past n seen ask
  OutOfTurn : IsOutOfTurn (session past n).doing ask → IsStray past n seen ask
  AtLast : at past ≡ last_event → IsStray past n seen ask
