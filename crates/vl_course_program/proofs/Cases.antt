-- A program that is said stands at its beginning; one that is asked to go on, or to which others do nothing, where it stood.
use Rattle.std.proofs.Common.{◌≡◌, ◌==◌, ◌∷◌, ℕ, true, false, [], sym, subst, arith}
use Rattle.std.proofs.lemmas.Bool.{and_parts}
use Rattle.vl_values.specs.declared.pred.Pred.{Pred}
use Rattle.vl_catalog.specs.declared.catalog.Catalog.{Catalog}
use Rattle.vl_sql.specs.declared.stmt.Stmt.{Stmt}
use Rattle.vl_port.specs.declared.limits.Limits.{Limits}
use Rattle.vl_port.specs.declared.who.Who.{Who}
use Rattle.vl_model.specs.declared.route.Route.{Route}
use Rattle.vl_model.specs.Entries.{is_lookup_table}
use Rattle.vl_model.specs.Visiting.{visited}
use Rattle.vl_plan.specs.declared.plan.Plan.{Plan}
use Rattle.vl_plan.specs.declared.plan.Plan.TheVariants as plans
use Rattle.vl_plan.specs.Fits.{Fits}
use Rattle.vl_change.specs.declared.row_change.RowChange.{RowChange}
use Rattle.vl_change.specs.declared.row_change.RowChange.TheVariants as changes
use Rattle.vl_change.specs.Begun.{can_change, has_no_lookup, is_direct, searching}
use Rattle.vl_change.specs.Progress.{Progress as Changing}
use Rattle.vl_exec.specs.declared.program.Program.{Program}
use Rattle.vl_exec.specs.declared.program.Program.TheVariants as programs
use Rattle.vl_exec.specs.Begun.{IsBegun, can_run}
use Rattle.vl_run.specs.declared.deed.Deed.TheVariants as deeds
use Rattle.vl_run.specs.declared.event.Event.{Event}
use Rattle.vl_run.specs.declared.request.Request.TheVariants as requests
use Rattle.vl_run.specs.declared.tag.Tag.TheVariants as tags
use Rattle.vl_run.specs.Allowed.{now_of}
use Rattle.vl_run.specs.Run.{Run}
use Rattle.vl_run.specs.Run.Point.{Happened}
use Rattle.vl_course.specs.Changing.{IsChangeAt}
use Rattle.vl_course.specs.Selecting.{IsSelectAt}
use Rattle.vl_course.proofs.Asked.{change_said, change_stepped, select_said, select_stepped}
use Rattle.vl_course.proofs.Bystanders.{change_killed, change_others, select_killed, select_others}
use Rattle.vl_course_insert.proofs.Asked.{insert_killed, insert_others, insert_said, insert_stepped}
use Rattle.vl_course_program.specs.Programs.{AreOf, IsProgramAt}

none_of : (table : ℕ) → AreOf table []
none_of table action key among is = absurd (omega (arith, among.1))

module _ (catalog : Catalog) (limits : Limits) (e : Event) (past : Run) where
  abbrev IsAt : RowChange → Pred → Route → Changing → Type 0
  IsAt change pred route p = IsChangeAt catalog limits (now_of e past) e.session change pred route p × AreOf pred.table p.writes

  change_begun : (stmt : Stmt) → e.request ≡ requests.Say stmt → (change : RowChange) (pred : Pred) (route : Route) (p : Changing) → is_lookup_table catalog pred.table ≡ false → can_change catalog pred route ≡ true
      → p ≡ searching pred change (visited catalog pred.table route []) → IsAt change pred route p
  change_begun stmt say change pred route p plain can begun =
      subst (IsAt change pred route) (sym begun)
      (change_said catalog limits e past stmt say change pred route plain (and_parts (has_no_lookup catalog pred.table) (is_direct route) can).1, none_of pred.table)

  pub begun_at : (stmt : Stmt) → e.request ≡ requests.Say stmt → (plan : Plan) (program : Program) → Fits catalog plan → can_run catalog plan ≡ true → IsBegun catalog plan program → IsProgramAt catalog limits (now_of e past) e.session plan program
  begun_at stmt say (plans.Insert plan) (programs.Insert p) fits can begun = (insert_said catalog limits e past stmt say plan p begun, fits.plain)
  begun_at stmt say (plans.Select plan) (programs.Select p) fits can begun = subst (IsSelectAt catalog limits (now_of e past) e.session plan) (sym begun) (select_said catalog limits e past stmt say plan)
  begun_at stmt say (plans.Update plan) (programs.Change p) fits can begun = change_begun stmt say (changes.Set plan.settings) plan.pred plan.route p fits.plain can begun
  begun_at stmt say (plans.Delete plan) (programs.Change p) fits can begun = change_begun stmt say changes.Remove plan.pred plan.route p fits.plain can begun
  begun_at stmt say plan program fits can begun = absurd begun

  pub stepped_at : e.request ≡ requests.Step → (plan : Plan) (program : Program) → IsProgramAt catalog limits past e.session plan program → IsProgramAt catalog limits (now_of e past) e.session plan program
  stepped_at step (plans.Insert plan) (programs.Insert p) at = (insert_stepped catalog limits e past step plan p at.0, at.1)
  stepped_at step (plans.Select plan) (programs.Select p) at = select_stepped catalog limits e past step plan p at
  stepped_at step (plans.Update plan) (programs.Change p) at = (change_stepped catalog limits e past step (changes.Set plan.settings) plan.pred plan.route p at.0, at.1)
  stepped_at step (plans.Delete plan) (programs.Change p) at = (change_stepped catalog limits e past step changes.Remove plan.pred plan.route p at.0, at.1)
  stepped_at step plan program at = absurd at

  pub others_at : (n : ℕ) → (e.session == n) ≡ false → (plan : Plan) (program : Program) → IsProgramAt catalog limits past n plan program → IsProgramAt catalog limits (Happened e ∷ past) n plan program
  others_at n other (plans.Insert plan) (programs.Insert p) at = (insert_others catalog limits e past n other plan p at.0, at.1)
  others_at n other (plans.Select plan) (programs.Select p) at = select_others catalog limits e past n other plan p at
  others_at n other (plans.Update plan) (programs.Change p) at = (change_others catalog limits e past n other (changes.Set plan.settings) plan.pred plan.route p at.0, at.1)
  others_at n other (plans.Delete plan) (programs.Change p) at = (change_others catalog limits e past n other changes.Remove plan.pred plan.route p at.0, at.1)
  others_at n other plan program at = absurd at

  pub killed_at : (who : Who) (shard : ℕ) → e.request ≡ requests.Kill who shard → e.deed ≡ deeds.Nothing → e.told ≡ tags.Nothing → (plan : Plan) (program : Program) → IsProgramAt catalog limits past e.session plan program
      → IsProgramAt catalog limits (Happened e ∷ past) e.session plan program
  killed_at who shard kill still told (plans.Insert plan) (programs.Insert p) at = (insert_killed catalog limits e past who shard kill still plan p at.0, at.1)
  killed_at who shard kill still told (plans.Select plan) (programs.Select p) at = select_killed catalog limits e past who shard kill still told plan p at
  killed_at who shard kill still told (plans.Update plan) (programs.Change p) at = (change_killed catalog limits e past who shard kill still told (changes.Set plan.settings) plan.pred plan.route p at.0, at.1)
  killed_at who shard kill still told (plans.Delete plan) (programs.Change p) at = (change_killed catalog limits e past who shard kill still told changes.Remove plan.pred plan.route p at.0, at.1)
  killed_at who shard kill still told plan program at = absurd at
