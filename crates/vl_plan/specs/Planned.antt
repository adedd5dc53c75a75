-- The plan of a statement that no rule refuses.
use Rattle.std.specs.Prelude.{◌≡◌, ℕ, Bool, true, false, not, List, [], ◌∷◌, map, filter, fold, slice_get, unwrap_or, Option, Some, None, Result, Ok, Err}
use Rattle.std.specs.List.{filter_map}
use Rattle.std.specs.Option.{option_map}
use Rattle.std.specs.declared.cmp.Ordering.{Ordering}
use Rattle.std.specs.declared.cmp.Ordering.TheVariants.{Less, Equal, Greater}
use Rattle.vl_values.specs.declared.cause.Cause.{Cause}
use Rattle.vl_values.specs.declared.pred.Pred.{Pred}
use Rattle.vl_values.specs.declared.test.Test.{Test}
use Rattle.vl_values.specs.declared.value.Value.{Value}
use Rattle.vl_values.specs.Value.{is_null, value_cmp}
use Rattle.vl_catalog.specs.declared.catalog.Catalog.{Catalog}
use Rattle.vl_catalog.specs.declared.column.Column.{Column}
use Rattle.vl_catalog.specs.declared.table.Table.{Table}
use Rattle.vl_catalog.specs.Build.{column_number}
use Rattle.vl_sql.specs.declared.assignment.Assignment.{Assignment}
use Rattle.vl_sql.specs.declared.order.Direction.{Direction}
use Rattle.vl_sql.specs.declared.order.Direction.TheVariants.{Ascending, Descending}
use Rattle.vl_sql.specs.declared.order.Order.{Order}
use Rattle.vl_sql.specs.declared.stmt.Stmt.{Stmt}
use Rattle.vl_sql.specs.declared.stmt.Stmt.TheVariants as stmts
use Rattle.vl_sql.specs.declared.table.TableName.{TableName}
use Rattle.vl_sql.specs.declared.test.Test.{Test as Condition}
use Rattle.vl_sql.specs.declared.what.What.{What}
use Rattle.vl_sql.specs.declared.what.What.TheVariants as whats
use Rattle.vl_model.specs.Columns.{column_tested, row_stored, set_stored, table_named, table_of_stmt, test_compared}
use Rattle.vl_model.specs.declared.route.Route.{Route}
use Rattle.vl_model.specs.Routes.{route_of}
use Rattle.vl_plan.specs.declared.plan.Plan.{Plan}
use Rattle.vl_plan.specs.declared.plan.Plan.TheVariants as plans
use Rattle.vl_plan.specs.declared.projection.Projection.{Projection}
use Rattle.vl_plan.specs.declared.projection.Projection.TheVariants as projections
use Rattle.vl_plan.specs.declared.setting.Setting.{Setting}
use Rattle.vl_plan.specs.declared.sort.Sort.{Sort}

-- ---- values

abbrev pub value_of : Result Value Cause → Option Value
value_of (Ok value) = Some value
value_of (Err cause) = None

abbrev pub values_of : List (Result Value Cause) → List Value
values_of results = filter_map value_of results

-- a value at its place in an ascending list, which has each value once
abbrev pub placed_by : Ordering → Value → Value → List Value → List Value → List Value
placed_by Less value first rest behind = value ∷ first ∷ rest
placed_by Equal value first rest behind = first ∷ rest
placed_by Greater value first rest behind = first ∷ behind

abbrev pub placed : Value → List Value → List Value
placed value [] = value ∷ []
placed value (first ∷ rest) = placed_by (value_cmp value first) value first rest (placed value rest)

-- the values without NULL, each once and in ascending order
abbrev pub in_order : List Value → List Value
in_order values = fold (λ before value. placed value before) [] (filter (λ value. not (is_null value)) values)

-- ---- columns

abbrev pub number_in : List Column → List ℕ → ℕ
number_in columns name = unwrap_or (column_number columns name) 0

abbrev pub number_of : Table → List ℕ → ℕ
number_of table name = number_in table.columns name

abbrev pub test_of : Catalog → Table → Condition → Test
test_of catalog table condition = record {
  column = number_of table (column_tested condition);
  values = in_order (values_of (test_compared catalog table condition));
}

abbrev pub pred_of : Catalog → ℕ → Table → List Condition → Pred
pred_of catalog n table conditions = record { table = n; tests = map (test_of catalog table) conditions }

abbrev pub is_descending : Option Direction → Bool
is_descending None = false
is_descending (Some Ascending) = false
is_descending (Some Descending) = true

abbrev pub sort_of : Table → Order → Sort
sort_of table order = record { column = number_of table order.column; descending = is_descending order.direction }

abbrev pub projection_of : Table → What → Projection
projection_of table whats.All = projections.All
projection_of table whats.Count = projections.Count
projection_of table (whats.Columns names) = projections.Columns (map (number_of table) names)

abbrev pub setting_of : ℕ × Result Value Cause → Option Setting
setting_of set = option_map (λ value. record { column = set.0; value = value }) (value_of set.1)

abbrev pub settings_of : Catalog → Table → List Assignment → List Setting
settings_of catalog table assignments = filter_map setting_of (set_stored catalog table assignments 0 table.columns)

-- ---- statements

abbrev pub route_to : Catalog → Table → List Condition → Route
route_to catalog table conditions = route_of catalog table (map (test_of catalog table) conditions)

-- a statement on the table of number n
abbrev pub planned_on : Catalog → ℕ → Table → Stmt → Plan
planned_on catalog n table (stmts.Insert t names rows) =
    plans.Insert (record { table = n; rows = map (λ row. values_of (row_stored catalog table names row 0 table.columns)) rows })
planned_on catalog n table (stmts.Select what t conditions orders limit lock) =
    plans.Select
    (record {
      what = projection_of table what;
      pred = pred_of catalog n table conditions;
      route = route_to catalog table conditions;
      sorts = map (sort_of table) orders;
      limit = limit;
      locking = lock;
    })
planned_on catalog n table (stmts.Update t assignments conditions) =
    plans.Update
    (record {
      settings = settings_of catalog table assignments;
      pred = pred_of catalog n table conditions;
      route = route_to catalog table conditions;
    })
planned_on catalog n table (stmts.Delete t conditions) =
    plans.Delete (record { pred = pred_of catalog n table conditions; route = route_to catalog table conditions })
-- the statements without a table are never asked for here, and each is its own plan
planned_on catalog n table stmts.Begin = plans.Begin
planned_on catalog n table stmts.StartTransaction = plans.Begin
planned_on catalog n table stmts.Commit = plans.Commit
planned_on catalog n table stmts.Rollback = plans.Rollback
planned_on catalog n table (stmts.SetAutocommit on) = plans.SetAutocommit on
planned_on catalog n table (stmts.SetNames charset) = plans.SetNames charset
planned_on catalog n table (stmts.Use name) = plans.Use name
planned_on catalog n table stmts.ShowTables = plans.ShowTables
planned_on catalog n table stmts.ShowDatabases = plans.ShowDatabases
planned_on catalog n table stmts.ShowWarnings = plans.ShowWarnings
planned_on catalog n table stmts.SelectVersionComment = plans.SelectVersionComment
planned_on catalog n table stmts.SelectDatabase = plans.SelectDatabase

-- a statement without a table
abbrev pub planned_besides : Stmt → Plan
planned_besides stmts.Begin = plans.Begin
planned_besides stmts.StartTransaction = plans.Begin
planned_besides stmts.Commit = plans.Commit
planned_besides stmts.Rollback = plans.Rollback
planned_besides (stmts.SetAutocommit on) = plans.SetAutocommit on
planned_besides (stmts.SetNames charset) = plans.SetNames charset
planned_besides (stmts.Use name) = plans.Use name
planned_besides stmts.ShowTables = plans.ShowTables
planned_besides stmts.ShowDatabases = plans.ShowDatabases
planned_besides stmts.ShowWarnings = plans.ShowWarnings
planned_besides stmts.SelectVersionComment = plans.SelectVersionComment
planned_besides stmts.SelectDatabase = plans.SelectDatabase
-- the statements with a table are never asked for here: without one they have no plan, and what stands here is none
planned_besides (stmts.Insert t names rows) = plans.Begin
planned_besides (stmts.Select what t conditions orders limit lock) = plans.Begin
planned_besides (stmts.Update t assignments conditions) = plans.Begin
planned_besides (stmts.Delete t conditions) = plans.Begin

-- the plan is this one
abbrev pub IsPlanned : Catalog → Stmt → Plan → Type 0
IsPlanned catalog stmt plan = by (table_of_stmt stmt)
  where
    by : Option TableName → Type 0
    by None = plan ≡ planned_besides stmt
    by (Some t) = (n : ℕ) × (table : Table) × (table_named catalog t ≡ Some n) × (slice_get catalog.tables n ≡ Some table) × (plan ≡ planned_on catalog n table stmt)
