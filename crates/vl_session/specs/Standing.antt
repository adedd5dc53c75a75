-- What a client session has in hand, as the run has it.
use Rattle.std.specs.Prelude.{◌≡◌, ℕ, [], true, false, Option, Some, None}
use Rattle.vl_values.specs.declared.reply.Reply.{Reply}
use Rattle.vl_catalog.specs.declared.catalog.Catalog.{Catalog}
use Rattle.vl_sql.specs.declared.stmt.Stmt.{Stmt}
use Rattle.vl_port.specs.declared.limits.Limits.{Limits}
use Rattle.vl_port.specs.declared.tx_state.TxState.{TxState}
use Rattle.vl_plan.specs.declared.plan.Plan.{Plan}
use Rattle.vl_commit.specs.Stepping.{Committing}
use Rattle.vl_exec.specs.declared.program.Program.{Program}
use Rattle.vl_exec.specs.Progress.{wrote}
use Rattle.vl_run.specs.Progress.{session}
use Rattle.vl_run.specs.Run.{Run}
use Rattle.vl_run.specs.Session.{Kind, Owned, kind_of}
use Rattle.vl_run.specs.Session.Kind.{Works, Begins, Commits, SetsAuto}
use Rattle.vl_course.specs.Course.{Course, IsTx}
use Rattle.vl_course_commit.specs.Committing.{IsCommitAt, IsReplyOf}
use Rattle.vl_course_program.specs.Programs.{IsProgramAt, tries_of}
use Rattle.vl_session.specs.declared.purpose.Purpose.{Purpose}
use Rattle.vl_session.specs.declared.purpose.Purpose.TheVariants as purposes
use Rattle.vl_session.specs.declared.work.Work.{Work}
use Rattle.vl_session.specs.declared.work.Work.TheVariants as works

-- the transaction that the session has open is kept. It isn't that of a single statement, and it removes no entries yet
pub record IsKeptTx (limits : Limits) (now : Run) (n : ℕ) (own : Owned) (tx : TxState) : Type 0 where
  pub is_tx : IsTx limits now n own tx
  pub plural : own.single ≡ false
  pub auto : tx.auto ≡ (session now n).auto
  pub unclaimed : tx.post ≡ []

abbrev pub IsHeldBy : Limits → Run → ℕ → Option Owned → Option TxState → Type 0
IsHeldBy limits now n None None = Unit {0}
IsHeldBy limits now n (Some own) (Some tx) = IsKeptTx limits now n own tx
IsHeldBy limits now n _ _ = ⊥

module _ (catalog : Catalog) (limits : Limits) (now : Run) (n : ℕ) where
  -- no statement is in progress
  pub record IsIdleAt (tx : Option TxState) : Type 0 where
    pub idle : (session now n).doing ≡ None
    pub held : IsHeldBy limits now n (session now n).owned tx

  -- the program of the statement in progress stands where the run says, and so does its transaction
  pub record IsRunningAt (stmt : Stmt) (plan : Plan) (own : Owned) (tx : TxState) (program : Program) : Type 0 where
    pub course : Course catalog limits now n stmt plan own tx (tries_of program) (wrote program)
    pub stands : IsProgramAt catalog limits now n plan program
    pub unclaimed : tx.post ≡ []

  -- the purpose of a commit is that of its statement
  abbrev pub IsPurposeOf : Kind → Purpose → Type 0
  IsPurposeOf Works purpose = purpose ≡ purposes.Statement
  IsPurposeOf Begins purpose = purpose ≡ purposes.Begin
  IsPurposeOf Commits purpose = purpose ≡ purposes.Commit
  IsPurposeOf (SetsAuto true) purpose = purpose ≡ purposes.Autocommit
  IsPurposeOf _ purpose = ⊥

  -- the commit that ends the statement in progress stands where the run says, and leads to this reply
  pub record IsCommittingAt (stmt : Stmt) (plan : Plan) (own : Owned) (commit : Committing) (reply : Reply) (purpose : Purpose) : Type 0 where
    pub at : IsCommitAt catalog limits now n stmt plan own commit
    pub reply_is : IsReplyOf catalog now n stmt plan reply
    pub purpose_is : IsPurposeOf (kind_of stmt) purpose
    pub auto : commit.tx.auto ≡ (session now n).auto
    pub unclaimed : commit.tx.post ≡ []
    pub unwarned : commit.warnings ≡ []

  abbrev pub IsWorkAt : Work → Type 0
  IsWorkAt (works.Idle tx) = IsIdleAt tx
  IsWorkAt (works.Running tx program) = (stmt : Stmt) × (plan : Plan) × (own : Owned) × IsRunningAt stmt plan own tx program
  IsWorkAt (works.Committing commit reply purpose) = (stmt : Stmt) × (plan : Plan) × (own : Owned) × IsCommittingAt stmt plan own commit reply purpose
