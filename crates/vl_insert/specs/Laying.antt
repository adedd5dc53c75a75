-- What is made before a plan is taken apart: its claims, and where its rows go.
use Rattle.std.specs.Prelude.{◌≡◌, ◌≤◌, ℕ, ◌+◌, Bool, false, Contains, List, [], ◌∷◌, ◌++◌, length, map, slice_get, slice_index_or, unwrap_or, Some, vec_capacity}
use Rattle.std.specs.List.{list_any}
use Rattle.vl_values.specs.declared.value.Value.TheVariants.{Null}
use Rattle.vl_values.specs.Value.{is_null}
use Rattle.vl_catalog.specs.declared.catalog.Catalog.{Catalog}
use Rattle.vl_catalog.specs.declared.table.Table.{Table}
use Rattle.vl_catalog.specs.Place.{place}
use Rattle.vl_plan.specs.declared.insert_plan.InsertPlan.{InsertPlan}
use Rattle.vl_port.specs.declared.act.Act.TheVariants.{Insert}
use Rattle.vl_port.specs.View.{Values}
use Rattle.vl_lookup.specs.Progress.{Progress as Claiming}
use Rattle.vl_insert.specs.declared.groundwork.Groundwork.{Groundwork}
use Rattle.vl_insert.specs.declared.outline.Outline.{Outline}
use Rattle.vl_insert.specs.declared.outline.Outline.TheVariants as outlines
use Rattle.vl_insert.specs.declared.target.Target.{Target}
use Rattle.vl_insert.specs.declared.task.Task.{Task}
use Rattle.vl_insert.specs.declared.task.Task.TheVariants as tasks
use Rattle.vl_insert.specs.Begun.{AreClaimsFor, key_in, needed}

-- where a row is inserted
abbrev pub target_of : Catalog → ℕ → Values → Target
target_of catalog number row = record { shard = unwrap_or (place catalog number row) 0; key = key_in catalog number row }

-- whether a row is NULL in one of these columns
abbrev pub lacks_one : Values → List ℕ → Bool
lacks_one row columns = list_any (λ n. is_null (slice_index_or row n Null)) columns

-- no column of the primary key is NULL in the row
abbrev pub HasWholeKey : Catalog → ℕ → Values → Type 0
HasWholeKey catalog number row = (table : Table) (n : ℕ) → slice_get catalog.tables number ≡ Some table → Contains table.pk n → is_null (slice_index_or row n Null) ≡ false

-- claims in these lookups stand behind the others
abbrev pub LaysClaims : Catalog → Values → List ℕ → List Outline → List Outline → Type 0
LaysClaims catalog row lookups old new = (claims : List Claiming) × AreClaimsFor catalog row lookups claims × (new ≡ old ++ map (λ claim. outlines.Claim claim) claims)

-- the claims of a row and the row stand behind the others
abbrev pub LaysRow : Catalog → ℕ → Values → List Outline → List Outline → Type 0
LaysRow catalog number row old new =
    (claims : List Claiming) × AreClaimsFor catalog row (needed catalog number row) claims
    × (new ≡ old ++ (map (λ claim. outlines.Claim claim) claims ++ outlines.Row (target_of catalog number row) ∷ []))

-- the outlines of these rows
abbrev pub AreOutlines : Catalog → ℕ → List Values → List Outline → Type 0
AreOutlines catalog number [] list = list ≡ []
AreOutlines catalog number (row ∷ rows) list =
    (claims : List Claiming) × (rest : List Outline) × AreClaimsFor catalog row (needed catalog number row) claims
    × (list ≡ map (λ claim. outlines.Claim claim) claims ++ outlines.Row (target_of catalog number row) ∷ rest) × AreOutlines catalog number rows rest

-- the groundwork of a plan: the outlines of its rows, and room for a task for each of them
pub record IsLaidFor (catalog : Catalog) (plan : InsertPlan) (laid : Groundwork) : Type 0 where
  pub outlines : AreOutlines catalog plan.table plan.rows laid.outlines.items
  pub none : laid.tasks.items ≡ []
  pub room : length laid.outlines.items ≤ vec_capacity laid.tasks

-- the tasks of the outlines, which take the rows in order
abbrev pub with_rows : List Outline → List Values → List Task
with_rows [] rows = []
with_rows (outlines.Claim claim ∷ list) rows = tasks.Claim claim ∷ with_rows list rows
with_rows (outlines.Row target ∷ list) [] = with_rows list []
with_rows (outlines.Row target ∷ list) (row ∷ rows) = tasks.Row (record { shard = target.shard; act = Insert target.key row }) ∷ with_rows list rows
