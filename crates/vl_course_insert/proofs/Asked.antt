-- An INSERT that is said stands at its beginning, and one that is asked to go on, or to which others do nothing, where it stood.
use Rattle.std.proofs.Common.{◌≡◌, ◌==◌, ◌∷◌, ℕ, false, [], length, refl, ap}
use Rattle.vl_catalog.specs.declared.catalog.Catalog.{Catalog}
use Rattle.vl_sql.specs.declared.stmt.Stmt.{Stmt}
use Rattle.vl_port.specs.declared.limits.Limits.{Limits}
use Rattle.vl_port.specs.declared.who.Who.{Who}
use Rattle.vl_plan.specs.declared.insert_plan.InsertPlan.{InsertPlan}
use Rattle.vl_insert.specs.Begun.{IsBegun}
use Rattle.vl_insert.specs.Progress.{Progress}
use Rattle.vl_run.specs.declared.deed.Deed.TheVariants as deeds
use Rattle.vl_run.specs.declared.event.Event.{Event}
use Rattle.vl_run.specs.declared.request.Request.TheVariants as requests
use Rattle.vl_run.specs.Allowed.{now_of}
use Rattle.vl_run.specs.Named.IsClaimOver.{None_}
use Rattle.vl_run.specs.Run.{Run}
use Rattle.vl_run.specs.Run.Point.{Happened}
use Rattle.vl_course_insert.specs.Inserting.{IsInsertAt, IsReady}
use Rattle.vl_course_insert.proofs.Moves.{open_killed, open_others, open_stepped, said_claimed, said_rows, said_wrote, says_killed, says_others, says_stepped}
use Rattle.vl_course_insert.proofs.Stays.{insert_stays}
use Rattle.vl_course_insert.proofs.Tasks.{left_next}

module _ (catalog : Catalog) (limits : Limits) (e : Event) (past : Run) where
  pub insert_said : (stmt : Stmt) → e.request ≡ requests.Say stmt → (plan : InsertPlan) (p : Progress) → IsBegun catalog plan p → IsInsertAt catalog limits (now_of e past) e.session plan p
  insert_said stmt say plan p begun =
      let claimed = said_claimed catalog e past stmt say in
      let ready : IsReady catalog (now_of e past) e.session plan 0 = record { claimed = ap length claimed; over = λ u tx. None_ claimed } in
      record {
        written = [];
        left = plan.rows;
        rows = refl;
        wrote = said_wrote catalog e past stmt say;
        counted = ap (λ (q : Progress). q.rows) begun.2;
        unread = said_rows catalog e past stmt say;
        stands = left_next catalog (now_of e past) e.session plan plan.rows begun.0 p begun.1 ready (ap (λ (q : Progress). q.task) begun.2) (ap (λ (q : Progress). q.later) begun.2);
      }

  pub insert_stepped : e.request ≡ requests.Step → (plan : InsertPlan) (p : Progress) → IsInsertAt catalog limits past e.session plan p → IsInsertAt catalog limits (now_of e past) e.session plan p
  insert_stepped step plan p at =
      insert_stays (says_stepped catalog e past step) (open_stepped catalog e past step) p refl refl refl at

  pub insert_others : (n : ℕ) → (e.session == n) ≡ false → (plan : InsertPlan) (p : Progress) → IsInsertAt catalog limits past n plan p → IsInsertAt catalog limits (Happened e ∷ past) n plan p
  insert_others n other plan p at =
      insert_stays (says_others catalog e past n other) (open_others catalog e past n other) p refl refl refl at

  pub insert_killed : (who : Who) (shard : ℕ) → e.request ≡ requests.Kill who shard → e.deed ≡ deeds.Nothing → (plan : InsertPlan) (p : Progress) → IsInsertAt catalog limits past e.session plan p
      → IsInsertAt catalog limits (Happened e ∷ past) e.session plan p
  insert_killed who shard kill still plan p at =
      insert_stays (says_killed catalog e past who shard kill still) (open_killed catalog e past who shard kill still) p refl refl refl at
