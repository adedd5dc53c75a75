-- Which task an INSERT's program comes to next, and when none is left.
use Rattle.std.proofs.Common.{◌≡◌, ◌∙◌, ◌<◌, ◌++◌, ◌∷◌, ℕ, List, [], length, map, drop, Option, Some, None, refl, sym, ap, subst, arith}
use Rattle.std.specs.Prelude.{slice_get}
use Rattle.std.proofs.lemmas.List.{append-nil, length-append, length-map}
use Rattle.vl_catalog.specs.declared.catalog.Catalog.{Catalog}
use Rattle.vl_port.specs.declared.limits.Limits.{Limits}
use Rattle.vl_port.specs.View.{Values}
use Rattle.vl_plan.specs.declared.insert_plan.InsertPlan.{InsertPlan}
use Rattle.vl_plan.specs.declared.plan.Plan.TheVariants as plans
use Rattle.vl_sql.specs.declared.stmt.Stmt.{Stmt}
use Rattle.vl_statement.specs.Tallies.{first_over}
use Rattle.vl_lookup.specs.declared.stage.Stage.{Stage}
use Rattle.vl_lookup.specs.declared.stage.Stage.TheVariants as stages
use Rattle.vl_lookup.specs.Answering.{at_stage}
use Rattle.vl_lookup.specs.Making.{IsMadeFor}
use Rattle.vl_lookup.specs.Progress.{Progress as Claiming}
use Rattle.vl_insert.specs.declared.task.Task.{Task}
use Rattle.vl_insert.specs.declared.task.Task.TheVariants as tasks
use Rattle.vl_insert.specs.Begun.{AreClaimsFor, AreTasks, insertion_of, needed}
use Rattle.vl_insert.specs.Progress.{Progress}
use Rattle.vl_run.specs.Named.{HasWorked, insertions, key_in}
use Rattle.vl_run.specs.Progress.{wrote}
use Rattle.vl_run.specs.Refused.{IsWithin, nothing_read}
use Rattle.vl_run.specs.Run.{Run}
use Rattle.vl_course.proofs.Unique.{gathered_unique}
use Rattle.vl_course_insert.specs.Inserting.{AreLeft, IsClaimAt, IsInsertAt, IsReady, IsStageAt, IsTaskAt}

-- ---- the next task

-- a claim that is made stands before its first action
first_as : (claim : Claiming) → claim.stage ≡ stages.First → claim ≡ at_stage stages.First claim
first_as claim first = ap (λ (s : Stage). at_stage s claim) first

module _ (catalog : Catalog) (now : Run) (n : ℕ) (plan : InsertPlan) where
  claim_starts : (l before : ℕ) (row : Values) (claim : Claiming) → IsMadeFor catalog l row claim → IsReady catalog now n plan before → IsClaimAt catalog now n plan before l row claim
  claim_starts l before row claim made ready =
      let made_first : IsMadeFor catalog l row (at_stage stages.First claim) = subst (IsMadeFor catalog l row) (first_as claim made.first) made in
      record { made = made_first; stage = subst (λ (s : Stage). IsStageAt catalog now n plan s before made_first.lookup row claim) (sym made.first) ready }

  -- the claims in these lookups are next, and then the row
  pub task_next : (row : Values) (before : ℕ) (lookups : List ℕ) (claims : List Claiming) (rest : List Task) (p : Progress) → AreClaimsFor catalog row lookups claims → IsReady catalog now n plan before
      → p.task ≡ slice_get (map (λ it. tasks.Claim it) claims ++ tasks.Row (insertion_of catalog plan.table row) ∷ rest) 0
      → p.later ≡ drop 1 (map (λ it. tasks.Claim it) claims ++ tasks.Row (insertion_of catalog plan.table row) ∷ rest)
      → IsTaskAt catalog now n plan row before lookups rest p
  task_next row before [] [] rest p are ready task later = (task, later, ready)
  task_next row before [] (claim ∷ claims) rest p are ready task later = absurd are
  task_next row before (l ∷ lookups) [] rest p are ready task later = absurd are
  task_next row before (l ∷ lookups) (claim ∷ claims) rest p are ready task later = (claim, claims, task, later, claim_starts l before row claim are.0 ready, are.2)

  -- the tasks of these rows are next
  pub left_next : (rows : List Values) (list : List Task) (p : Progress) → AreTasks catalog plan.table rows list → IsReady catalog now n plan 0 → p.task ≡ slice_get list 0 → p.later ≡ drop 1 list
      → AreLeft catalog now n plan rows p
  left_next [] list p are ready task later = task ∙ ap (λ (ts : List Task). slice_get ts 0) are
  left_next (row ∷ rows) list p are ready task later =
      let is = are.3 in
      record {
        before = [];
        lookups = needed catalog plan.table row;
        all = refl;
        rest = are.1;
        later = are.4;
        task = task_next row 0 (needed catalog plan.table row) are.0 are.1 p are.2 ready (task ∙ ap (λ (ts : List Task). slice_get ts 0) is) (later ∙ ap (drop 1) is);
      }

-- ---- whether one is left

none_some : {A : Type 0} (o : Option A) (x : A) → o ≡ None → o ≡ Some x → ⊥
none_some o x none some = absurd (cc)

module _ (catalog : Catalog) (now : Run) (n : ℕ) (plan : InsertPlan) (p : Progress) where
  a_task : (row : Values) (before : ℕ) (lookups : List ℕ) (rest : List Task) → IsTaskAt catalog now n plan row before lookups rest p → p.task ≡ None → ⊥
  a_task row before [] rest is none = none_some p.task _ none is.0
  a_task row before (l ∷ lookups) rest is none = none_some p.task _ none is.2

  pub none_left : (left : List Values) → AreLeft catalog now n plan left p → p.task ≡ None → left ≡ []
  none_left [] are none = refl
  none_left (row ∷ rows) are none = absurd (a_task row (length are.before) are.lookups are.rest are.task none)

  one_left : (left : List Values) (task : Task) → AreLeft catalog now n plan left p → p.task ≡ Some task → 0 < length left
  one_left [] task are is = absurd (none_some p.task task are is)
  one_left (row ∷ rows) task are is = omega arith

module _ {catalog : Catalog} {limits : Limits} {now : Run} {n : ℕ} {plan : InsertPlan} {p : Progress} (at : IsInsertAt catalog limits now n plan p) where
  -- all rows are written
  pub insert_worked : p.task ≡ None → HasWorked catalog now n (plans.Insert plan)
  insert_worked none =
      let all : plan.rows ≡ at.written = at.rows ∙ ap (λ (rows : List Values). at.written ++ rows) (none_left catalog now n plan p at.left at.stands none) ∙ append-nil at.written in
      at.wrote ∙ ap (insertions catalog plan.table) (sym all)

  pub insert_unworked : (task : Task) → p.task ≡ Some task → HasWorked catalog now n (plans.Insert plan) → ⊥
  insert_unworked task is worked =
      let many : length (insertions catalog plan.table at.written) ≡ length (insertions catalog plan.table plan.rows) = ap length (sym at.wrote ∙ worked) in
      let some : length (insertions catalog plan.table at.written) ≡ length at.written = length-map at.written (λ row. (key_in catalog plan.table row, Some row)) in
      let all : length (insertions catalog plan.table plan.rows) ≡ length plan.rows = length-map plan.rows (λ row. (key_in catalog plan.table row, Some row)) in
      absurd (omega (arith, many, some, all, ap length at.rows, length-append at.written at.left, one_left catalog now n plan p at.left task at.stands is))

  -- no row is read, and so none passes a limit
  pub insert_within : (stmt : Stmt) → IsWithin catalog limits now n stmt
  insert_within stmt rows counts given = ap (first_over limits nothing_read) (gathered_unique catalog now n rows [] given at.unread)

  pub insert_counted : HasWorked catalog now n (plans.Insert plan) → p.rows ≡ length (wrote now n)
  insert_counted worked =
      let all : length (insertions catalog plan.table plan.rows) ≡ length plan.rows = length-map plan.rows (λ row. (key_in catalog plan.table row, Some row)) in
      at.counted ∙ sym (ap length worked ∙ all)
