-- How far the program of an INSERT has come, as the run has it.
use Rattle.std.specs.Prelude.{◌≡◌, ◌++◌, ◌∷◌, ℕ, Some, None, Option, List, [], map, length}
use Rattle.std.specs.Option.{option_map, option_map_or}
use Rattle.vl_values.specs.declared.group.Group.TheVariants.{Pre}
use Rattle.vl_values.specs.declared.key.Key.{Key}
use Rattle.vl_catalog.specs.declared.catalog.Catalog.{Catalog}
use Rattle.vl_catalog.specs.declared.lookup.Lookup.{Lookup}
use Rattle.vl_sql.specs.declared.stmt.Stmt.{Stmt}
use Rattle.vl_port.specs.declared.act.Act.{Act}
use Rattle.vl_port.specs.declared.act.Act.TheVariants.{Insert}
use Rattle.vl_port.specs.declared.answer.Answer.{Answer}
use Rattle.vl_port.specs.declared.answer.Answer.TheVariants.{Done, Found}
use Rattle.vl_port.specs.declared.limits.Limits.{Limits}
use Rattle.vl_port.specs.declared.tx_state.TxState.{TxState}
use Rattle.vl_port.specs.declared.who.Who.{Who}
use Rattle.vl_port.specs.Transaction.{session_of}
use Rattle.vl_port.specs.View.{Values}
use Rattle.vl_plan.specs.declared.insert_plan.InsertPlan.{InsertPlan}
use Rattle.vl_plan.specs.declared.plan.Plan.TheVariants as plans
use Rattle.vl_lookup.specs.declared.stage.Stage.{Stage}
use Rattle.vl_lookup.specs.declared.stage.Stage.TheVariants as stages
use Rattle.vl_lookup.specs.Answering.{at_stage}
use Rattle.vl_lookup.specs.Making.{IsMadeFor}
use Rattle.vl_lookup.specs.Progress.{Progress as Claiming, home}
use Rattle.vl_statement.specs.declared.program_told.ProgramTold.{ProgramTold}
use Rattle.vl_insert.specs.declared.task.Task.{Task}
use Rattle.vl_insert.specs.declared.task.Task.TheVariants as tasks
use Rattle.vl_insert.specs.Begun.{AreClaimsFor, AreTasks, insertion_of}
use Rattle.vl_insert.specs.Progress.{Progress, act_for, session_for}
use Rattle.vl_run.specs.declared.deed.Deed.TheVariants as deeds
use Rattle.vl_run.specs.declared.event.Event.{Event}
use Rattle.vl_run.specs.declared.mark.Mark.TheVariants as marks
use Rattle.vl_run.specs.Gathered.{Gathered, shown}
use Rattle.vl_run.specs.Machine.{Machine, key_place, of_tx, view}
use Rattle.vl_run.specs.Named.{IsClaimOver, IsRedirected, Names, insertions, needed}
use Rattle.vl_run.specs.Progress.{claimed_now, commits, last_deed, session, warned, wrote}
use Rattle.vl_run.specs.Run.{Run}
use Rattle.vl_run.specs.Run.Point.{Happened}
use Rattle.vl_run.specs.Session.{Owned}
use Rattle.vl_course.specs.Course.{Course, IsTx}
use Rattle.vl_course.specs.Turning.{Due, GoesOn, Turned}

-- ---- the claim in progress

-- the number of the transaction that the session has open
abbrev pub open_tx : Run → ℕ → ℕ
open_tx now n = option_map_or (λ (own : Owned). own.number) (session now n).owned 0

-- the entry of this key is claimed for the row at hand, and so many were before it
pub record IsClaimed (now : Run) (n before : ℕ) (key : Key) : Type 0 where
  pub front : List Key
  pub all : claimed_now now n ≡ front ++ key ∷ []
  pub many : length front ≡ before

module _ (catalog : Catalog) (now : Run) (n : ℕ) (plan : InsertPlan) where
  -- so many entries are claimed for the row at hand, and nothing is left to be done of the last
  pub record IsReady (before : ℕ) : Type 0 where
    pub claimed : length (claimed_now now n) ≡ before
    pub over : (u : Machine) (tx : ℕ) → IsClaimOver catalog u now n tx plan.table plan.rows

  -- the entry was found, and names a keyspace id: the owner's rows are to be looked at there
  pub record IsChecking (before : ℕ) (lookup : Lookup) (claim : Claiming) (ksid : List ℕ) (shard : ℕ) : Type 0 where
    pub claimed : IsClaimed now n before claim.key
    pub met : last_deed now n ≡ deeds.Acts (of_tx n (open_tx now n) Pre) (key_place catalog claim.key) (Insert claim.key claim.row) marks.Takes
    pub names : Names catalog now n lookup claim.key (Some ksid)
    pub placed : shard ≡ home catalog claim ksid

  -- the entry was found, and is to name the row's keyspace id
  pub record IsRedirecting (before : ℕ) (lookup : Lookup) (row : Values) (claim : Claiming) : Type 0 where
    pub claimed : IsClaimed now n before claim.key
    pub redirected : (u : Machine) → IsRedirected catalog u now n (open_tx now n) plan.table lookup row (claim.key, claim.row)

  abbrev pub IsStageAt : Stage → ℕ → Lookup → Values → Claiming → Type 0
  IsStageAt stages.First before lookup row claim = IsReady before
  IsStageAt (stages.Check ksid shard) before lookup row claim = IsChecking before lookup claim ksid shard
  IsStageAt stages.Put before lookup row claim = IsRedirecting before lookup row claim

  -- the claim of the row's entry in lookup l, whose stage is what its last action met
  pub record IsClaimAt (before l : ℕ) (row : Values) (claim : Claiming) : Type 0 where
    pub made : IsMadeFor catalog l row (at_stage stages.First claim)
    pub stage : IsStageAt claim.stage before made.lookup row claim

  -- ---- what is left

  -- the program is at the claim in the first of these lookups, and else at the row; so many entries were claimed before
  abbrev pub IsTaskAt : Values → ℕ → List ℕ → List Task → Progress → Type 0
  IsTaskAt row before [] rest p = (p.task ≡ Some (tasks.Row (insertion_of catalog plan.table row))) × (p.later ≡ rest) × IsReady before
  IsTaskAt row before (l ∷ lookups) rest p =
      (claim : Claiming) × (claims : List Claiming) × (p.task ≡ Some (tasks.Claim claim)) × (p.later ≡ map (λ it. tasks.Claim it) claims ++ tasks.Row (insertion_of catalog plan.table row) ∷ rest)
      × IsClaimAt before l row claim × AreClaimsFor catalog row lookups claims

  -- the program is at this row, with these rows behind it
  pub record IsRowAt (row : Values) (rows : List Values) (p : Progress) : Type 0 where
    pub before : List ℕ
    pub lookups : List ℕ
    pub all : needed catalog plan.table row ≡ before ++ lookups
    pub rest : List Task
    pub later : AreTasks catalog plan.table rows rest
    pub task : IsTaskAt row (length before) lookups rest p

  abbrev pub AreLeft : List Values → Progress → Type 0
  AreLeft [] p = p.task ≡ None
  AreLeft (row ∷ rows) p = IsRowAt row rows p

-- ---- where it stands

-- the program of this plan: these rows are written and those are left, and it has read none
pub record IsInsertAt (catalog : Catalog) (limits : Limits) (now : Run) (n : ℕ) (plan : InsertPlan) (p : Progress) : Type 0 where
  pub written : List Values
  pub left : List Values
  pub rows : plan.rows ≡ written ++ left
  pub wrote : wrote now n ≡ insertions catalog plan.table written
  pub counted : p.rows ≡ length plan.rows
  pub unread : Gathered catalog now n []
  pub stands : AreLeft catalog now n plan left p

-- ---- the act that is due

-- each goes by a session of the transaction, and obtains its keys
abbrev pub due_as : TxState → Task → Due
due_as tx task = record { who = session_of tx (session_for task).0; shard = (session_for task).1; act = act_for task; mark = marks.Takes }

abbrev pub due_of : TxState → Progress → Option Due
due_of tx p = option_map (due_as tx) p.task

-- what the answer to an Insert says of its key: it had no version, or the one that was found
pub record IsFoundAs (catalog : Catalog) (past : Run) (who : Who) (act : Act) (answer : Answer) : Type 0 where
  pub inserted : (key : Key) (row : Values) → act ≡ Insert key row → answer ≡ Done → view (shown catalog past) who key ≡ None
  pub found : (key k : Key) (row found : Values) → act ≡ Insert key row → answer ≡ Found k found → (k ≡ key) × (view (shown catalog past) who key ≡ Some found)

-- ---- behind a step

-- the step is an event that the run allows. Behind it the transaction is what the run then says, unless something was lost,
-- and so is the program where it goes on
pub record InsertTurned (catalog : Catalog) (limits : Limits) (past : Run) (e : Event) (stmt : Stmt) (plan : InsertPlan) (own : Owned) (tells : ProgramTold) (new : Progress) (tx_new : TxState) : Type 0 where
  pub turned : Turned catalog limits past e stmt (plans.Insert plan) own tells
  pub uncommitted : commits (Happened e ∷ past) e.session ≡ 0
  pub unwarned : warned catalog (Happened e ∷ past) e.session ≡ []
  pub left : e.fault ≡ None → IsTx limits (Happened e ∷ past) e.session own tx_new
  pub course : GoesOn tells → Course catalog limits (Happened e ∷ past) e.session stmt (plans.Insert plan) own tx_new new.tries new.wrote
  pub stands : GoesOn tells → IsInsertAt catalog limits (Happened e ∷ past) e.session plan new
