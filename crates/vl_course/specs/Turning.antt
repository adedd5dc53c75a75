-- A step of a statement's program, as the event that it is: what was done, and which answers it allows.
use Rattle.std.specs.Prelude.{◌≡◌, not, ℕ, Bool, ◌∷◌, Option, Some, None}
use Rattle.std.specs.Option.{is_some}
use Rattle.vl_values.specs.declared.reply.Reply.TheVariants as replies
use Rattle.vl_values.specs.Cause.{error_code}
use Rattle.vl_catalog.specs.declared.catalog.Catalog.{Catalog}
use Rattle.vl_port.specs.declared.act.Act.{Act}
use Rattle.vl_port.specs.declared.limits.Limits.{Limits}
use Rattle.vl_port.specs.declared.outcome.Outcome.{Outcome}
use Rattle.vl_port.specs.declared.outcome.Outcome.TheVariants as outcomes
use Rattle.vl_port.specs.declared.who.Who.{Who}
use Rattle.vl_plan.specs.declared.plan.Plan.{Plan}
use Rattle.vl_sql.specs.declared.stmt.Stmt.{Stmt}
use Rattle.vl_statement.specs.declared.program_told.ProgramTold.{ProgramTold}
use Rattle.vl_statement.specs.declared.program_told.ProgramTold.TheVariants as told
use Rattle.vl_run.specs.declared.deed.Deed.{Deed}
use Rattle.vl_run.specs.declared.deed.Deed.TheVariants as deeds
use Rattle.vl_run.specs.declared.event.Event.{Event}
use Rattle.vl_run.specs.declared.fault.Fault.{Fault}
use Rattle.vl_run.specs.declared.fault.Fault.TheVariants as faults
use Rattle.vl_run.specs.declared.mark.Mark.{Mark}
use Rattle.vl_run.specs.declared.mark.Mark.TheVariants as marks
use Rattle.vl_run.specs.declared.request.Request.{Request}
use Rattle.vl_run.specs.declared.request.Request.TheVariants as requests
use Rattle.vl_run.specs.declared.tag.Tag.{Tag}
use Rattle.vl_run.specs.declared.tag.Tag.TheVariants as tags
use Rattle.vl_run.specs.Allowed.{IsCounted, IsDone, IsResult, IsVisit, IsWaiting, Proceeds, now_of}
use Rattle.vl_run.specs.Gathered.{shown}
use Rattle.vl_run.specs.Named.{HasWorked}
use Rattle.vl_run.specs.Progress.{has_written, session}
use Rattle.vl_run.specs.Refused.{IsWithin, MayDo, Refuses}
use Rattle.vl_run.specs.Run.{Run}
use Rattle.vl_run.specs.Run.Point.{Happened}
use Rattle.vl_run.specs.Session.{Owned, is_kept}

-- ---- the event of a step

-- the act that was due, with whom it goes by, and what it is where its keys were obtained and nothing was written
pub record Due : Type 0 where
  pub who : Who
  pub shard : ℕ
  pub act : Act
  pub mark : Mark

-- what was done, by what the act came to. A lost act isn't told: its session ends with all that it did
abbrev pub deed_of : Due → Option Outcome → Deed
deed_of due None = deeds.Nothing
deed_of due (Some outcomes.Refused) = deeds.Nothing
deed_of due (Some outcomes.Opened) = deeds.Acts due.who due.shard due.act marks.Opens
deed_of due (Some outcomes.Took) = deeds.Acts due.who due.shard due.act due.mark
deed_of due (Some outcomes.Wrote) = deeds.Acts due.who due.shard due.act marks.Writes
deed_of due (Some (outcomes.Lost why)) = deeds.Nothing
deed_of due (Some outcomes.Device) = deeds.Nothing

-- the shard that it went to; where memory was refused it may not have left
abbrev pub visit_of : Due → Option Outcome → Option ℕ
visit_of due None = None
visit_of due (Some outcomes.Refused) = None
visit_of due (Some outcomes.Opened) = Some due.shard
visit_of due (Some outcomes.Took) = Some due.shard
visit_of due (Some outcomes.Wrote) = Some due.shard
visit_of due (Some (outcomes.Lost why)) = Some due.shard
visit_of due (Some outcomes.Device) = Some due.shard

abbrev pub fault_of : Option Outcome → Option Fault
fault_of None = None
fault_of (Some outcomes.Refused) = None
fault_of (Some outcomes.Opened) = None
fault_of (Some outcomes.Took) = None
fault_of (Some outcomes.Wrote) = None
fault_of (Some (outcomes.Lost why)) = Some (faults.Lost why)
fault_of (Some outcomes.Device) = Some faults.Device

-- the event is that of a step whose act was due, or where none was
abbrev pub IsOfAct : Event → Option Due → Option Outcome → Type 0
IsOfAct e None outcome = (e.deed ≡ deeds.Nothing) × (e.visits ≡ None) × (e.fault ≡ None)
IsOfAct e (Some due) outcome = (e.deed ≡ deed_of due outcome) × (e.visits ≡ visit_of due outcome) × (e.fault ≡ fault_of outcome)

-- the statement is said, or goes on
abbrev pub IsOfStmt : Request → Stmt → Type 0
IsOfStmt (requests.Say said) stmt = said ≡ stmt
IsOfStmt requests.Step stmt = Unit {0}
IsOfStmt requests.Join stmt = ⊥
IsOfStmt requests.Reset stmt = ⊥
IsOfStmt requests.Leave stmt = ⊥
IsOfStmt (requests.Kill who shard) stmt = ⊥

-- the tag of what a program tells that goes on
abbrev pub HasTag : ProgramTold → Tag → Type 0
HasTag told.More tag = tag ≡ tags.More
HasTag (told.Held by key tries) tag = tag ≡ tags.Held by tries
HasTag (told.Reply reply) tag = Unit {0}

-- the program goes on
abbrev pub GoesOn : ProgramTold → Type 0
GoesOn told.More = Unit {0}
GoesOn (told.Held by key tries) = Unit {0}
GoesOn (told.Reply reply) = ⊥

-- the event is this step of the program
pub record IsStep (e : Event) (stmt : Stmt) (due : Option Due) (outcome : Option Outcome) (tells : ProgramTold) : Type 0 where
  pub asked : IsOfStmt e.request stmt
  pub act : IsOfAct e due outcome
  pub tag : HasTag tells e.told

-- ---- what the step may tell

module _ (catalog : Catalog) (limits : Limits) (past : Run) (e : Event) (stmt : Stmt) (plan : Plan) (own : Owned) where
  -- the statement has done all that it has to do on its tables, within its limits; whether a transaction stays open, and
  -- autocommit, are told truly
  pub record IsAtEnd (stays on : Bool) : Type 0 where
    pub worked : HasWorked catalog (Happened e ∷ past) e.session plan
    pub within : IsWithin catalog limits (Happened e ∷ past) e.session stmt
    pub proceeds : Proceeds e
    pub left_open : stays ≡ not own.single
    pub auto : on ≡ (session (now_of e past) e.session).auto

  abbrev pub MayTell : ProgramTold → Type 0
  MayTell told.More = Proceeds e × IsWithin catalog limits (Happened e ∷ past) e.session stmt × (HasWorked catalog (Happened e ∷ past) e.session plan → ⊥)
  MayTell (told.Held by key count) = IsWaiting catalog limits (shown catalog past) (now_of e past) e.session e by key count
  MayTell (told.Reply (replies.Ok affected found warnings tx auto)) = IsAtEnd tx auto × IsCounted catalog (Happened e ∷ past) e.session plan affected found × (warnings ≡ 0)
  MayTell (told.Reply (replies.Rows columns rows tx auto)) = IsAtEnd tx auto × IsResult catalog (Happened e ∷ past) e.session stmt (session (now_of e past) e.session) plan columns rows
  MayTell (told.Reply (replies.Err code why tx)) = (code ≡ error_code why) × Refuses catalog limits (shown catalog past) past (now_of e past) (Happened e ∷ past) e e.session stmt (session (now_of e past) e.session) why
      × (tx ≡ is_kept (has_written (Happened e ∷ past) e.session) (is_some e.fault) (Some own))

  -- one act that the statement names next, or none, and what may be told of that
  pub record Turned (tells : ProgramTold) : Type 0 where
    pub done : IsDone catalog (shown catalog past) (now_of e past) e.session stmt (session (now_of e past) e.session).owned e.deed
    pub may : MayDo limits (now_of e past) e.deed
    pub visit : IsVisit catalog (shown catalog past) (now_of e past) e.session stmt (session (now_of e past) e.session).owned e.deed e.visits
    pub told : MayTell tells
