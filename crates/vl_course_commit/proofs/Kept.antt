-- What leaves the work of a statement, leaves that it is done, within its limits, and what its reply tells of it.
use Rattle.std.proofs.Common.{◌≡◌, ◌∙◌, ℕ, List, length, Option, sym, ap}
use Rattle.vl_values.specs.declared.pred.Pred.{Pred}
use Rattle.vl_values.specs.declared.reply.Reply.{Reply}
use Rattle.vl_values.specs.declared.reply.Reply.TheVariants as replies
use Rattle.vl_values.specs.declared.reply_column.ReplyColumn.{ReplyColumn}
use Rattle.vl_values.specs.declared.warning.Warning.{Warning}
use Rattle.vl_catalog.specs.declared.catalog.Catalog.{Catalog}
use Rattle.vl_sql.specs.declared.stmt.Stmt.{Stmt}
use Rattle.vl_port.specs.declared.limits.Limits.{Limits}
use Rattle.vl_port.specs.View.{Values}
use Rattle.vl_model.specs.declared.route.Route.{Route}
use Rattle.vl_plan.specs.declared.plan.Plan.{Plan}
use Rattle.vl_plan.specs.declared.plan.Plan.TheVariants as plans
use Rattle.vl_run.specs.Allowed.{IsCounted, IsResult}
use Rattle.vl_run.specs.Allowed.IsResult.{Local, Selected}
use Rattle.vl_run.specs.Gathered.{Gathered, Rows}
use Rattle.vl_run.specs.Local.{IsLocal}
use Rattle.vl_run.specs.Local.IsLocal.{Database, Databases, Tables, Version, Warnings}
use Rattle.vl_run.specs.Named.{HasRead, HasWorked, IsRouted}
use Rattle.vl_run.specs.Progress.{session, wrote}
use Rattle.vl_run.specs.Refused.{IsWithin}
use Rattle.vl_run.specs.Run.{Run}
use Rattle.vl_run.specs.Session.{Session, kind_of}
use Rattle.vl_run.specs.Session.Kind.{Works}
use Rattle.vl_course.proofs.Moves.{SaysSame}
use Rattle.vl_course_commit.specs.Committing.{IsReplyOf}

-- nothing was read or written, and what was gathered is what was gathered before
pub record LeavesWork (catalog : Catalog) (now after : Run) (n : ℕ) : Type 0 where
  pub says : SaysSame catalog now after n
  pub back : (rows : Rows) → Gathered catalog after n rows → Gathered catalog now n rows

-- a statement on a table has no result set of its own making
none_local : (catalog : Catalog) (chosen : Option (List ℕ)) (warnings : List Warning) (stmt : Stmt) (columns : List ReplyColumn) (rows : List Values) → kind_of stmt ≡ Works → IsLocal catalog chosen warnings stmt columns rows → ⊥
none_local catalog chosen warnings stmt columns rows works (Tables names c r sorted is_c is_r) = absurd (cc)
none_local catalog chosen warnings stmt columns rows works (Databases c r is_c is_r) = absurd (cc)
none_local catalog chosen warnings stmt columns rows works (Warnings c r is_c is_r) = absurd (cc)
none_local catalog chosen warnings stmt columns rows works (Version c r is_c is_r) = absurd (cc)
none_local catalog chosen warnings stmt columns rows works (Database c r is_c is_r) = absurd (cc)

-- rows of a SELECT are the same, whatever else the session is
pub result_anyway : (catalog : Catalog) (now : Run) (n : ℕ) (stmt : Stmt) (s t : Session) (plan : Plan) (columns : List ReplyColumn) (rows : List Values) → kind_of stmt ≡ Works → IsResult catalog now n stmt s plan columns rows → IsResult catalog now n stmt t plan columns rows
result_anyway catalog now n stmt s t plan columns rows works (Selected select found result gathered is) = Selected select found result gathered is
result_anyway catalog now n stmt s t plan columns rows works (Local p c r local) = absurd (none_local catalog s.keyspace _ stmt columns rows works local)

module _ (catalog : Catalog) (now after : Run) (n : ℕ) (leaves : LeavesWork catalog now after n) where
  routed_kept : (table : ℕ) (route : Route) (shards : List ℕ) → IsRouted catalog now n table route shards → IsRouted catalog after n table route shards
  routed_kept table route shards routed = record {
    entries = routed.entries;
    looked = leaves.says.entries routed.entries routed.looked;
    all = ap length leaves.says.looked ∙ routed.all;
    visits = routed.visits;
  }

  read_kept : (pred : Pred) (route : Route) (rows : Rows) → HasRead catalog now n pred route rows → HasRead catalog after n pred route rows
  read_kept pred route rows read = record {
    shards = read.shards;
    routed = routed_kept pred.table route read.shards read.routed;
    all = ap length leaves.says.read ∙ read.all;
    gathered = leaves.says.rows rows read.gathered;
  }

  pub worked_kept : (plan : Plan) → HasWorked catalog now n plan → HasWorked catalog after n plan
  worked_kept (plans.Insert plan) worked = leaves.says.wrote ∙ worked
  worked_kept (plans.Select plan) worked = (worked.0, read_kept plan.pred plan.route worked.0 worked.1, leaves.says.wrote ∙ worked.2)
  worked_kept (plans.Update plan) worked = (worked.0, read_kept plan.pred plan.route worked.0 worked.1, leaves.says.wrote ∙ worked.2)
  worked_kept (plans.Delete plan) worked = (worked.0, read_kept plan.pred plan.route worked.0 worked.1, leaves.says.wrote ∙ worked.2)
  worked_kept plans.Begin worked = leaves.says.wrote ∙ worked
  worked_kept plans.Commit worked = leaves.says.wrote ∙ worked
  worked_kept plans.Rollback worked = leaves.says.wrote ∙ worked
  worked_kept (plans.SetAutocommit on) worked = leaves.says.wrote ∙ worked
  worked_kept (plans.SetNames name) worked = leaves.says.wrote ∙ worked
  worked_kept (plans.Use name) worked = leaves.says.wrote ∙ worked
  worked_kept plans.ShowTables worked = leaves.says.wrote ∙ worked
  worked_kept plans.ShowDatabases worked = leaves.says.wrote ∙ worked
  worked_kept plans.ShowWarnings worked = leaves.says.wrote ∙ worked
  worked_kept plans.SelectVersionComment worked = leaves.says.wrote ∙ worked
  worked_kept plans.SelectDatabase worked = leaves.says.wrote ∙ worked

  pub within_kept : (limits : Limits) (stmt : Stmt) → IsWithin catalog limits now n stmt → IsWithin catalog limits after n stmt
  within_kept limits stmt within rows counts given = within rows counts (leaves.back rows given)

  so_many : (affected found : ℕ) → (affected ≡ length (wrote now n)) × (found ≡ affected) → (affected ≡ length (wrote after n)) × (found ≡ affected)
  so_many affected found is = (is.0 ∙ sym (ap length leaves.says.wrote), is.1)

  pub counted_kept : (plan : Plan) (affected found : ℕ) → IsCounted catalog now n plan affected found → IsCounted catalog after n plan affected found
  counted_kept (plans.Insert plan) affected found is = so_many affected found is
  counted_kept (plans.Select plan) affected found is = so_many affected found is
  counted_kept (plans.Update plan) affected found is = (is.0 ∙ sym (ap length leaves.says.wrote), (is.1.0, leaves.says.rows is.1.0 is.1.1, is.1.2))
  counted_kept (plans.Delete plan) affected found is = so_many affected found is
  counted_kept plans.Begin affected found is = so_many affected found is
  counted_kept plans.Commit affected found is = so_many affected found is
  counted_kept plans.Rollback affected found is = so_many affected found is
  counted_kept (plans.SetAutocommit on) affected found is = so_many affected found is
  counted_kept (plans.SetNames name) affected found is = so_many affected found is
  counted_kept (plans.Use name) affected found is = so_many affected found is
  counted_kept plans.ShowTables affected found is = so_many affected found is
  counted_kept plans.ShowDatabases affected found is = so_many affected found is
  counted_kept plans.ShowWarnings affected found is = so_many affected found is
  counted_kept plans.SelectVersionComment affected found is = so_many affected found is
  counted_kept plans.SelectDatabase affected found is = so_many affected found is

  pub result_kept : (stmt : Stmt) (s t : Session) (plan : Plan) (columns : List ReplyColumn) (rows : List Values) → kind_of stmt ≡ Works → IsResult catalog now n stmt s plan columns rows → IsResult catalog after n stmt t plan columns rows
  result_kept stmt s t plan columns rows works (Selected select found result gathered is) = Selected select found result (leaves.says.rows found gathered) is
  result_kept stmt s t plan columns rows works (Local p c r local) = absurd (none_local catalog s.keyspace _ stmt columns rows works local)

  pub reply_kept : (stmt : Stmt) (plan : Plan) (reply : Reply) → IsReplyOf catalog now n stmt plan reply → IsReplyOf catalog after n stmt plan reply
  reply_kept stmt plan (replies.Ok affected found warnings tx auto) is = (is.0, counted_kept plan affected found is.1)
  reply_kept stmt plan (replies.Rows columns rows tx auto) is = (is.0, result_kept stmt (session now n) (session after n) plan columns rows is.0 is.1)
  reply_kept stmt plan (replies.Err code why tx) is = absurd is
