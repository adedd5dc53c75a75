-- What the program of a plan begins with, and which plans run.
use Rattle.std.specs.Prelude.{◌≡◌, ◌≤◌, ◌*◌, Bool, true, false, length}
use Rattle.vl_catalog.specs.declared.catalog.Catalog.{Catalog}
use Rattle.vl_plan.specs.declared.plan.Plan.{Plan}
use Rattle.vl_plan.specs.declared.plan.Plan.TheVariants as plans
use Rattle.vl_insert.specs.Begun.{IsBegun as IsInsertBegun}
use Rattle.vl_insert.specs.Progress.{actions_left}
use Rattle.vl_select.specs.Begun.{begun as select_begun}
use Rattle.vl_change.specs.Begun.{can_change, deleting, updating}
use Rattle.vl_exec.specs.declared.program.Program.{Program}
use Rattle.vl_exec.specs.declared.program.Program.TheVariants as programs

abbrev pub IsBegun : Catalog → Plan → Program → Type 0
IsBegun catalog (plans.Insert plan) (programs.Insert insert) = IsInsertBegun catalog plan insert
IsBegun catalog (plans.Select plan) (programs.Select select) = select ≡ select_begun catalog plan
IsBegun catalog (plans.Update plan) (programs.Change change) = change ≡ updating catalog plan
IsBegun catalog (plans.Delete plan) (programs.Change change) = change ≡ deleting catalog plan
IsBegun catalog _ _ = ⊥

-- an INSERT has at most eight claims of three actions for each row, and its insertion
abbrev pub IsBounded : Plan → Program → Type 0
IsBounded (plans.Insert plan) (programs.Insert insert) = actions_left insert ≤ 25 * length plan.rows
IsBounded _ _ = Unit {0}

-- the statements that programs run: of those that change rows, the ones of a table without lookups
abbrev pub can_run : Catalog → Plan → Bool
can_run catalog (plans.Insert plan) = true
can_run catalog (plans.Select plan) = true
can_run catalog (plans.Update plan) = can_change catalog plan.pred plan.route
can_run catalog (plans.Delete plan) = can_change catalog plan.pred plan.route
can_run catalog _ = false
