-- How far the commit that ends a statement has come, as the run has it.
use Rattle.std.specs.Prelude.{◌≡◌, ◌≤◌, ℕ, Bool, true, false, List, map, length, Some}
use Rattle.vl_values.specs.declared.reply.Reply.{Reply}
use Rattle.vl_values.specs.declared.reply.Reply.TheVariants as replies
use Rattle.vl_values.specs.declared.warning.Warning.{Warning as Reported}
use Rattle.vl_catalog.specs.declared.catalog.Catalog.{Catalog}
use Rattle.vl_sql.specs.declared.stmt.Stmt.{Stmt}
use Rattle.vl_port.specs.declared.limits.Limits.{Limits}
use Rattle.vl_plan.specs.declared.plan.Plan.{Plan}
use Rattle.vl_plan.specs.Planned.{IsPlanned}
use Rattle.vl_commit.specs.declared.failure.Failure.{Failure}
use Rattle.vl_commit.specs.declared.failure.Failure.TheVariants as failures
use Rattle.vl_commit.specs.declared.warning.Warning.{Warning}
use Rattle.vl_commit.specs.Sessions.{sessions}
use Rattle.vl_commit.specs.Stepping.{Committing}
use Rattle.vl_run.specs.declared.fault.Fault.{Fault}
use Rattle.vl_run.specs.declared.fault.Fault.TheVariants as faults
use Rattle.vl_run.specs.Allowed.{IsCounted, IsResult, gives_rows}
use Rattle.vl_run.specs.Named.{HasWorked}
use Rattle.vl_run.specs.Progress.{commits, session, warned, warning_of}
use Rattle.vl_run.specs.Refused.{IsWithin}
use Rattle.vl_run.specs.Run.{Run}
use Rattle.vl_run.specs.Session.{Owned, is_committing, kind_of}
use Rattle.vl_run.specs.Session.Kind.{Works}
use Rattle.vl_course.specs.Course.{IsTx}

-- ---- warnings

abbrev pub fault_by : Failure → Fault
fault_by (failures.Lost why) = faults.Lost why
fault_by failures.Device = faults.Device

-- the warning that the session gets of a commit of post that failed
abbrev pub reported_as : Catalog → Warning → Reported
reported_as catalog warning = warning_of catalog warning.shard (fault_by warning.why)

abbrev pub reported : Catalog → List Warning → List Reported
reported catalog warnings = map (reported_as catalog) warnings

-- ---- where it stands

-- the session's statement in progress has this plan, has done its work, or has none, and ends with a commit of this
-- transaction. So many of its sessions were dealt with, and the commits of post that failed have warned
pub record IsCommitAt (catalog : Catalog) (limits : Limits) (now : Run) (n : ℕ) (stmt : Stmt) (plan : Plan) (own : Owned) (c : Committing) : Type 0 where
  pub doing : (session now n).doing ≡ Some stmt
  pub planned : IsPlanned catalog stmt plan
  pub owned : (session now n).owned ≡ Some own
  pub committing : is_committing (kind_of stmt) (Some own) ≡ true
  pub is_tx : IsTx limits now n own c.tx
  pub worked : HasWorked catalog now n plan
  pub within : IsWithin catalog limits now n stmt
  pub dealt : commits now n ≡ c.at
  pub bounded : c.at ≤ length (sessions c.tx)
  pub warned : warned catalog now n ≡ reported catalog c.warnings

-- ---- the reply that it leads to

-- the reply tells what the statement did: how many rows it changed and found, or which rows a SELECT gave. Its commit
-- changes none of that
abbrev pub IsReplyOf : Catalog → Run → ℕ → Stmt → Plan → Reply → Type 0
IsReplyOf catalog now n stmt plan (replies.Ok affected found warnings tx auto) = (gives_rows stmt ≡ false) × IsCounted catalog now n plan affected found
IsReplyOf catalog now n stmt plan (replies.Rows columns rows tx auto) = (kind_of stmt ≡ Works) × IsResult catalog now n stmt (session now n) plan columns rows
IsReplyOf catalog now n stmt plan (replies.Err code why tx) = ⊥

-- the same with so many warnings, where a transaction stays open or not, and autocommit is on or not
abbrev pub completed : ℕ → Bool → Bool → Reply → Reply
completed warnings tx auto (replies.Ok affected found _ _ _) = replies.Ok affected found warnings tx auto
completed warnings tx auto (replies.Rows columns rows _ _) = replies.Rows columns rows tx auto
completed warnings tx auto (replies.Err code why stays) = replies.Err code why stays
