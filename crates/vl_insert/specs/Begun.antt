-- What the program of an INSERT begins with: for each row in order, a claim of each entry that it needs in the
-- order of the table's lookups, and then the row.
use Rattle.std.specs.Prelude.{◌≡◌, ℕ, Bool, false, not, List, [], ◌∷◌, ◌++◌, drop, filter, length, map, slice_get, slice_index_or, unwrap_or}
use Rattle.std.specs.Option.{option_map_or}
use Rattle.vl_values.specs.declared.key.Key.{Key}
use Rattle.vl_values.specs.declared.value.Value.TheVariants.{Null}
use Rattle.vl_values.specs.Value.{is_null}
use Rattle.vl_catalog.specs.declared.catalog.Catalog.{Catalog}
use Rattle.vl_catalog.specs.declared.lookup.Lookup.{Lookup}
use Rattle.vl_catalog.specs.declared.table.Table.{Table}
use Rattle.vl_catalog.specs.Fitting.{key_of}
use Rattle.vl_catalog.specs.Place.{place, shard_count}
use Rattle.vl_plan.specs.declared.insert_plan.InsertPlan.{InsertPlan}
use Rattle.vl_port.specs.declared.act.Act.TheVariants.{Insert}
use Rattle.vl_port.specs.View.{Values}
use Rattle.vl_lookup.specs.Making.{IsClaim, IsMadeFor}
use Rattle.vl_lookup.specs.Progress.{Progress as Claiming}
use Rattle.vl_insert.specs.declared.insertion.Insertion.{Insertion}
use Rattle.vl_insert.specs.declared.task.Task.{Task}
use Rattle.vl_insert.specs.declared.task.Task.TheVariants as tasks
use Rattle.vl_insert.specs.Progress.{Progress}

-- ---- the entries that a row needs

-- whether a row isn't NULL in the column of the lookup of this number
abbrev pub is_indexed_by : Catalog → Values → ℕ → Bool
is_indexed_by catalog row l = option_map_or (λ (lookup : Lookup). option_map_or (λ column. not (is_null (slice_index_or row column Null))) lookup.column false) (slice_get catalog.lookups l) false

-- the lookups of the table that a row needs an entry in, in the table's order of them
abbrev pub lookups_of : Catalog → ℕ → List ℕ
lookups_of catalog number = option_map_or (λ (table : Table). table.lookups) (slice_get catalog.tables number) []

abbrev pub needed : Catalog → ℕ → Values → List ℕ
needed catalog number row = filter (is_indexed_by catalog row) (lookups_of catalog number)

-- the claims of a row's entries in these lookups, one for each: each is the one that the row needs, and may be
-- stepped
abbrev pub AreClaimsFor : Catalog → Values → List ℕ → List Claiming → Type 0
AreClaimsFor catalog row [] [] = Unit {0}
AreClaimsFor catalog row [] (claim ∷ claims) = ⊥
AreClaimsFor catalog row (l ∷ lookups) [] = ⊥
AreClaimsFor catalog row (l ∷ lookups) (claim ∷ claims) = IsMadeFor catalog l row claim × IsClaim catalog (shard_count catalog.rings) claim × AreClaimsFor catalog row lookups claims

-- ---- the row

-- the key of a row of the table of this number
abbrev pub key_in : Catalog → ℕ → Values → Key
key_in catalog number row = option_map_or (λ (table : Table). key_of number table row) (slice_get catalog.tables number) (record { table = number; pk = [] })

-- a row is inserted on its place
abbrev pub insertion_of : Catalog → ℕ → Values → Insertion
insertion_of catalog number row = record { shard = unwrap_or (place catalog number row) 0; act = Insert (key_in catalog number row) row }

-- ---- the statement

-- the tasks of these rows of the table of this number
abbrev pub AreTasks : Catalog → ℕ → List Values → List Task → Type 0
AreTasks catalog number [] list = list ≡ []
AreTasks catalog number (row ∷ rows) list =
    (claims : List Claiming) × (rest : List Task) × AreClaimsFor catalog row (needed catalog number row) claims × (list ≡ map (λ claim. tasks.Claim claim) claims ++ tasks.Row (insertion_of catalog number row) ∷ rest)
    × AreTasks catalog number rows rest

-- the program of so many rows whose tasks are all still to be done
abbrev pub beginning : List Task → ℕ → Progress
beginning list rows = record { task = slice_get list 0; later = drop 1 list; rows = rows; wrote = false; tries = 0 }

abbrev pub IsBegun : Catalog → InsertPlan → Progress → Type 0
IsBegun catalog plan p = (list : List Task) × AreTasks catalog plan.table plan.rows list × (p ≡ beginning list (length plan.rows))
