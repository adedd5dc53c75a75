-- What the layers above ask of a plan: its table and columns exist, its values fit them, its route is one of its
-- tests, and what it writes has a place.
use Rattle.std.specs.Prelude.{◌≡◌, ◌<◌, ℕ, true, false, List, length, slice_get, slice_index_or, Some, Contains}
use Rattle.vl_values.specs.declared.value.Value.{Value}
use Rattle.vl_values.specs.declared.value.Value.TheVariants.{Null}
use Rattle.vl_values.specs.declared.pred.Pred.{Pred}
use Rattle.vl_values.specs.declared.test.Test.{Test}
use Rattle.vl_values.specs.Fit.{is_held}
use Rattle.vl_values.specs.Value.{is_null}
use Rattle.vl_catalog.specs.declared.catalog.Catalog.{Catalog}
use Rattle.vl_catalog.specs.declared.column.Column.{Column}
use Rattle.vl_catalog.specs.declared.lookup.Lookup.{Lookup}
use Rattle.vl_catalog.specs.declared.primary.Primary.{Primary}
use Rattle.vl_catalog.specs.declared.table.Table.{Table}
use Rattle.vl_catalog.specs.Fitting.{FitsPred, IsRowOf}
use Rattle.vl_catalog.specs.Place.{place, place_of_value}
use Rattle.vl_model.specs.declared.route.Route.{Route}
use Rattle.vl_model.specs.declared.route.Route.TheVariants as routes
use Rattle.vl_model.specs.Entries.{is_lookup_table}
use Rattle.vl_model.specs.Refusals.{is_keyspace}
use Rattle.vl_plan.specs.declared.delete_plan.DeletePlan.{DeletePlan}
use Rattle.vl_plan.specs.declared.insert_plan.InsertPlan.{InsertPlan}
use Rattle.vl_plan.specs.declared.plan.Plan.{Plan}
use Rattle.vl_plan.specs.declared.plan.Plan.TheVariants as plans
use Rattle.vl_plan.specs.declared.projection.Projection.{Projection}
use Rattle.vl_plan.specs.declared.projection.Projection.TheVariants as projections
use Rattle.vl_plan.specs.declared.select_plan.SelectPlan.{SelectPlan}
use Rattle.vl_plan.specs.declared.setting.Setting.{Setting}
use Rattle.vl_plan.specs.declared.sort.Sort.{Sort}
use Rattle.vl_plan.specs.declared.update_plan.UpdatePlan.{UpdatePlan}

pub record IsSettingOf (table : Table) (setting : Setting) : Type 0 where
  pub column : Column
  pub is_column : slice_get table.columns setting.column ≡ Some column
  pub held : is_held column.ty column.nullable setting.value ≡ true
  pub off_key : Contains table.pk setting.column → ⊥

-- ---- routes

-- the values are those of a test of this column
pub record IsTested (pred : Pred) (column : ℕ) (values : List Value) : Type 0 where
  pub test : Test
  pub stands : Contains pred.tests test
  pub tests : test.column ≡ column
  pub tested : test.values ≡ values

pub record IsByPrimary (table : Table) (pred : Pred) (values : List Value) : Type 0 where
  pub primary : Primary
  pub is_primary : table.primary ≡ Some primary
  pub tested : IsTested pred primary.column values

-- the lookup is one of the table's
pub record IsByLookup (catalog : Catalog) (table : Table) (pred : Pred) (l : ℕ) (values : List Value) : Type 0 where
  pub lookup : Lookup
  pub listed : Contains table.lookups l
  pub is_lookup : slice_get catalog.lookups l ≡ Some lookup
  pub column : ℕ
  pub has_column : lookup.column ≡ Some column
  pub tested : IsTested pred column values

abbrev pub IsRouteOf : Catalog → Table → Pred → Route → Type 0
IsRouteOf catalog table pred (routes.Primary values) = IsByPrimary table pred values
IsRouteOf catalog table pred (routes.Lookup l values) = IsByLookup catalog table pred l values
IsRouteOf catalog table pred routes.All = Unit {0}

-- the route of a statement goes by one of its tests
abbrev pub FitsRoute : Catalog → Pred → Route → Type 0
FitsRoute catalog pred route = (table : Table) → slice_get catalog.tables pred.table ≡ Some table → IsRouteOf catalog table pred route

-- ---- entries

-- a value of a lookup's column that isn't NULL has a place for its entries
abbrev pub HasEntryPlace : Catalog → Table → ℕ → Value → Type 0
HasEntryPlace catalog table column value = (l : ℕ) (lookup : Lookup) (entries : ℕ) → Contains table.lookups l → slice_get catalog.lookups l ≡ Some lookup → lookup.column ≡ Some column → lookup.table ≡ Some entries
    → is_null value ≡ false → (shard : ℕ) × (place_of_value catalog entries value ≡ Some shard)

-- ---- statements

pub record FitsInsert (catalog : Catalog) (plan : InsertPlan) : Type 0 where
  pub table : Table
  pub is_table : slice_get catalog.tables plan.table ≡ Some table
  pub plain : is_lookup_table catalog plan.table ≡ false
  pub rows : (row : List Value) → Contains plan.rows row → IsRowOf table row
  pub placed : (row : List Value) → Contains plan.rows row → (shard : ℕ) × (place catalog plan.table row ≡ Some shard)
  pub entries : (row : List Value) (column : ℕ) → Contains plan.rows row → HasEntryPlace catalog table column (slice_index_or row column Null)

-- the columns that a projection names exist
abbrev pub IsProjectionOf : Table → Projection → Type 0
IsProjectionOf table projections.All = Unit {0}
IsProjectionOf table projections.Count = Unit {0}
IsProjectionOf table (projections.Columns columns) = (column : ℕ) → Contains columns column → column < length table.columns

pub record FitsSelect (catalog : Catalog) (plan : SelectPlan) : Type 0 where
  pub pred : FitsPred catalog plan.pred
  pub what : (table : Table) → slice_get catalog.tables plan.pred.table ≡ Some table → IsProjectionOf table plan.what
  pub sorts : (table : Table) (sort : Sort) → slice_get catalog.tables plan.pred.table ≡ Some table → Contains plan.sorts sort → sort.column < length table.columns
  pub route : FitsRoute catalog plan.pred plan.route
  -- FOR UPDATE reads plain tables
  pub locks : plan.locking ≡ true → is_lookup_table catalog plan.pred.table ≡ false

pub record FitsUpdate (catalog : Catalog) (plan : UpdatePlan) : Type 0 where
  pub pred : FitsPred catalog plan.pred
  pub plain : is_lookup_table catalog plan.pred.table ≡ false
  pub settings : (table : Table) (setting : Setting) → slice_get catalog.tables plan.pred.table ≡ Some table → Contains plan.settings setting → IsSettingOf table setting
  pub entries : (table : Table) (setting : Setting) → slice_get catalog.tables plan.pred.table ≡ Some table → Contains plan.settings setting → HasEntryPlace catalog table setting.column setting.value
  pub route : FitsRoute catalog plan.pred plan.route

pub record FitsDelete (catalog : Catalog) (plan : DeletePlan) : Type 0 where
  pub pred : FitsPred catalog plan.pred
  pub plain : is_lookup_table catalog plan.pred.table ≡ false
  pub route : FitsRoute catalog plan.pred plan.route

abbrev pub Fits : Catalog → Plan → Type 0
Fits catalog (plans.Insert plan) = FitsInsert catalog plan
Fits catalog (plans.Select plan) = FitsSelect catalog plan
Fits catalog (plans.Update plan) = FitsUpdate catalog plan
Fits catalog (plans.Delete plan) = FitsDelete catalog plan
Fits catalog (plans.Use name) = is_keyspace catalog name ≡ true
Fits catalog _ = Unit {0}
