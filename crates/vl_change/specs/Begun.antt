-- What the program of an UPDATE or a DELETE begins with, and which of them run.
use Rattle.std.specs.Prelude.{ℕ, Bool, true, false, ◌==◌, ◌&&◌, List, [], length, slice_get, if◌then◌else◌, Option, Some, None}
use Rattle.std.specs.Option.{option_map_or}
use Rattle.vl_values.specs.declared.pred.Pred.{Pred}
use Rattle.vl_values.specs.declared.unsupported.Unsupported.{Unsupported}
use Rattle.vl_values.specs.declared.unsupported.Unsupported.TheVariants.{Lookups}
use Rattle.vl_catalog.specs.declared.catalog.Catalog.{Catalog}
use Rattle.vl_catalog.specs.declared.table.Table.{Table}
use Rattle.vl_model.specs.declared.route.Route.{Route}
use Rattle.vl_model.specs.declared.route.Route.TheVariants as routes
use Rattle.vl_model.specs.Visiting.{visited}
use Rattle.vl_plan.specs.declared.delete_plan.DeletePlan.{DeletePlan}
use Rattle.vl_plan.specs.declared.plan.Plan.{Plan}
use Rattle.vl_plan.specs.declared.plan.Plan.TheVariants as plans
use Rattle.vl_plan.specs.declared.update_plan.UpdatePlan.{UpdatePlan}
use Rattle.vl_port.specs.declared.act.Act.TheVariants.{Find}
use Rattle.vl_change.specs.declared.row_change.RowChange.{RowChange}
use Rattle.vl_change.specs.declared.row_change.RowChange.TheVariants.{Remove, Set}
use Rattle.vl_change.specs.Progress.{Progress}

-- the rows that match are read and locked, shard by shard, and then changed
abbrev pub searching : Pred → RowChange → List ℕ → Progress
searching pred change shards = record {
  search = record { find = Find pred true; change = change; shards = shards; read = 0; tally = record { rows = 0; bytes = 0 } };
  writes = [];
  done = 0;
  wrote = false;
  tries = 0;
}

abbrev pub updating : Catalog → UpdatePlan → Progress
updating catalog plan = searching plan.pred (Set plan.settings) (visited catalog plan.pred.table plan.route [])

abbrev pub deleting : Catalog → DeletePlan → Progress
deleting catalog plan = searching plan.pred Remove (visited catalog plan.pred.table plan.route [])

-- no lookup stands between a statement and the rows of the table of this number
abbrev pub has_no_lookup : Catalog → ℕ → Bool
has_no_lookup catalog number = option_map_or (λ (table : Table). length table.lookups == 0) (slice_get catalog.tables number) false

abbrev pub is_direct : Route → Bool
is_direct (routes.Primary values) = true
is_direct (routes.Lookup l values) = false
is_direct routes.All = true

-- the statements that run: those that change a table without lookups
abbrev pub can_change : Catalog → Pred → Route → Bool
can_change catalog pred route = has_no_lookup catalog pred.table && is_direct route

-- why a plan has no program, where it is one that changes rows
abbrev pub unsupported : Catalog → Plan → Option Unsupported
unsupported catalog (plans.Update plan) = if can_change catalog plan.pred plan.route then None else Some Lookups
unsupported catalog (plans.Delete plan) = if can_change catalog plan.pred plan.route then None else Some Lookups
unsupported catalog _ = None
