-- The tasks of a plan that fits the catalog: they are made, and how many actions they have.
use Rattle.std.proofs.Common.{◌≡◌, ℕ, suc, ◌+◌, ◌*◌, ◌<◌, ◌≤◌, Bool, true, false, not, List, [], ◌∷◌, ◌++◌, length, map, get_or, Option, Some, inl, inr, refl, sym, ap, ◌∙◌, subst, arith}
use Rattle.std.specs.Prelude.{Contains, slice_get, slice_index_or, unwrap_or, if◌then◌else◌, filter}
use Rattle.std.specs.List.{All, AllByRecursion, list_any, sum_by}
use Rattle.std.proofs.lemmas.Bool.{cases_Bool}
use Rattle.std.proofs.lemmas.List.Folds.{list_any_at}
use Rattle.std.specs.Option.{option_map_or}
use Rattle.std.proofs.lemmas.List.Elements.{All-append, All-cons, All-contains, All-contains_itself, All-filter, All-from_recursion, All-map, All-nil, All-weaker}
use Rattle.std.proofs.lemmas.List.Sums.{count_by-le-length, length-filter, sum_by-cons}
use Rattle.std.proofs.lemmas.Option.{same_Some, slice_get-get_or}
use Rattle.vl_values.specs.declared.key.Key.{Key}
use Rattle.vl_values.specs.declared.value.Value.{Value}
use Rattle.vl_values.specs.declared.value.Value.TheVariants.{Null}
use Rattle.vl_values.specs.Value.{is_null}
use Rattle.vl_catalog.specs.declared.catalog.Catalog.{Catalog}
use Rattle.vl_catalog.specs.declared.lookup.Lookup.{Lookup}
use Rattle.vl_catalog.specs.declared.table.Table.{Table}
use Rattle.vl_catalog.specs.Fitting.{IsPlacedRow, key_of}
use Rattle.vl_catalog.specs.Place.{place, shard_count}
use Rattle.vl_rules.specs.Kept.{IsIn}
use Rattle.vl_rules.specs.Order.{Checked}
use Rattle.vl_rules.proofs.Passed.{not_true, there}
use Rattle.vl_rules.proofs.TablesKept.{table_kept}
use Rattle.vl_model.specs.Entries.{first_column, from_columns, key_but}
use Rattle.vl_route.proofs.Gathering.{given_at}
use Rattle.vl_route.proofs.Homes.{AreCovering, placed_within}
use Rattle.vl_plan.specs.declared.insert_plan.InsertPlan.{InsertPlan}
use Rattle.vl_plan.specs.Fits.{FitsInsert}
use Rattle.vl_port.specs.View.{Values}
use Rattle.vl_lookup.specs.Making.{IsIndexedRow}
use Rattle.vl_lookup.specs.Progress.{Progress as Claiming, acts_left}
use Rattle.vl_insert.specs.declared.task.Task.{Task}
use Rattle.vl_insert.specs.declared.task.Task.TheVariants as tasks
use Rattle.vl_insert.specs.Begun.{AreClaimsFor, AreTasks, beginning, insertion_of, is_indexed_by, key_in, lookups_of, needed}
use Rattle.vl_insert.specs.Laying.{HasWholeKey, lacks_one}
use Rattle.vl_insert.specs.Making.{IsInsertion, IsMade, IsTask}
use Rattle.vl_insert.specs.Progress.{actions_left, task_actions}

-- ---- a row and its entries

lookups_are : (catalog : Catalog) (number : ℕ) (table : Table) → slice_get catalog.tables number ≡ Some table → lookups_of catalog number ≡ table.lookups
lookups_are catalog number table at = ap (λ (o : Option Table). option_map_or (λ (t : Table). t.lookups) o []) at

pub lookups_found : (read : List Table) (catalog : Catalog) (number : ℕ) (table : Table) → read ≡ catalog.tables → number < length read → table ≡ get_or read number table → lookups_of catalog number ≡ table.lookups
lookups_found read catalog number table same within at =
    lookups_are catalog number table (subst (λ (ts : List Table). slice_get ts number ≡ Some table) same (slice_get-get_or read number table within ∙ ap (λ (t : Table). Some t) (sym at)))

is_in : (numbers : List ℕ) (n : ℕ) → Contains numbers n → IsIn numbers n
is_in numbers n (k, within, at) = (k, slice_get-get_or numbers k n within ∙ ap (λ (m : ℕ). Some m) at)

has_column : (catalog : Catalog) (row : Values) (l : ℕ) (lookup : Lookup) → slice_get catalog.lookups l ≡ Some lookup → is_indexed_by catalog row l ≡ true
    → (column : ℕ) × (lookup.column ≡ Some column) × (is_null (slice_index_or row column Null) ≡ false)
has_column catalog row l lookup at is =
    let tested : option_map_or (λ column. not (is_null (slice_index_or row column Null))) lookup.column false ≡ true =
    sym (ap (λ (o : Option Lookup). option_map_or (λ (it : Lookup). option_map_or (λ column. not (is_null (slice_index_or row column Null))) it.column false) o false) at) ∙ is in
    let it = there (λ column. not (is_null (slice_index_or row column Null))) lookup.column tested in
    (it.0, it.1, not_true (is_null (slice_index_or row it.0 Null)) it.2)

abbrev IsSome_at : Values → ℕ → Type 0
IsSome_at row n = is_null (slice_index_or row n Null) ≡ false

key_whole : (row : Values) (key : List ℕ) → ((n : ℕ) → Contains key n → IsSome_at row n) → All (IsSome_at row) key
key_whole row key whole = All-weaker (Contains key) (IsSome_at row) (λ n among. whole n among) key (All-contains_itself key)

others_whole : (row : Values) (key : List ℕ) (unique : Bool) (column : ℕ) → ((n : ℕ) → Contains key n → IsSome_at row n) → All (IsSome_at row) (if unique then [] else key_but (Some column) key)
others_whole row key true column whole = All-nil (IsSome_at row)
others_whole row key false column whole = All-filter _ (IsSome_at row) key (key_whole row key whole)

columns_whole : (row : Values) (lookup : Lookup) (owner : Table) (column : ℕ) → lookup.column ≡ Some column → IsSome_at row column → ((n : ℕ) → Contains owner.pk n → IsSome_at row n)
    → All (IsSome_at row) (from_columns lookup owner)
columns_whole row lookup owner column has some whole =
    subst (λ (o : Option ℕ). All (IsSome_at row) (first_column o ++ (if lookup.unique then [] else key_but o owner.pk))) (sym has)
    (All-append (IsSome_at row) (column ∷ []) (if lookup.unique then [] else key_but (Some column) owner.pk) (All-cons (IsSome_at row) column [] some (All-nil (IsSome_at row))) (others_whole row owner.pk lookup.unique column whole))

-- what no column of a list has, none of its columns has
absent : (p : ℕ → Bool) (xs : List ℕ) (n : ℕ) → list_any p xs ≡ false → Contains xs n → p n ≡ false
absent p xs n none among =
    elim (cases_Bool (p n)) [
      | inl has ↦ absurd (cc (list_any_at p xs among.0 n among.1 (ap p among.2 ∙ has), none))
      | inr lacks ↦ lacks
    ]

-- the table that was looked up is the one of its number
pub whole_key : (catalog : Catalog) (number : ℕ) (row : Values) (read : List Table) (table : Table) (key : List ℕ) → read ≡ catalog.tables → number < length read → table ≡ get_or read number table → key ≡ table.pk
    → lacks_one row key ≡ false → HasWholeKey catalog number row
whole_key catalog number row read table key tables within is key_is whole other n at among =
    let same : table ≡ other = same_Some table other (sym (given_at read catalog.tables number table tables within is) ∙ at) in
    absent (λ m. is_null (slice_index_or row m Null)) key n whole (subst (λ (ns : List ℕ). Contains ns n) (sym (key_is ∙ ap (λ (t : Table). t.pk) same)) among)

-- a row of the plan that isn't NULL in the column of a lookup of its table has an entry there
pub indexed : (catalog : Catalog) (plan : InsertPlan) (row : Values) → Checked catalog → FitsInsert catalog plan → Contains plan.rows row → HasWholeKey catalog plan.table row → (l : ℕ) → Contains (lookups_of catalog plan.table) l
    → is_indexed_by catalog row l ≡ true → IsIndexedRow catalog l row
indexed catalog plan row checked fits among whole l listed is =
    let table = fits.table in
    let there_is = is_in table.lookups l (subst (λ (ls : List ℕ). Contains ls l) (lookups_are catalog plan.table table fits.is_table) listed) in
    let owns = (table_kept catalog plan.table table checked fits.is_table).lookups l there_is in
    let lookup = owns.0 in
    let column = has_column catalog row l lookup owns.1 is in
    record {
      lookup = lookup;
      owner_number = plan.table;
      owner = table;
      owned = record { is_lookup = owns.1; has_owner = owns.2; is_owner = fits.is_table };
      fits = fits.rows row among;
      whole = All-map (λ (value : Value). is_null value ≡ false) (λ n. slice_index_or row n Null) (from_columns lookup table) (columns_whole row lookup table column.0 column.1 column.2 (λ n of_key. whole table n fits.is_table of_key));
    }

-- ---- the row

placed_below : (catalog : Catalog) (number : ℕ) (table : Table) (row : Values) (shard : ℕ) → Checked catalog → AreCovering catalog.rings (length catalog.rings) → slice_get catalog.tables number ≡ Some table
    → place catalog number row ≡ Some shard → shard < shard_count catalog.rings
placed_below catalog number table row shard checked covering at e = placed_within catalog number table row shard (covering table.keyspace (table_kept catalog number table checked at).keyspace) at e

inserts : (catalog : Catalog) (plan : InsertPlan) (row : Values) → Checked catalog → AreCovering catalog.rings (length catalog.rings) → FitsInsert catalog plan → Contains plan.rows row
    → IsInsertion catalog (shard_count catalog.rings) (insertion_of catalog plan.table row)
inserts catalog plan row checked covering fits among =
    let placed = fits.placed row among in
    let shard_is : unwrap_or (place catalog plan.table row) 0 ≡ placed.0 = ap (λ (o : Option ℕ). unwrap_or o 0) placed.1 in
    let key_is : key_in catalog plan.table row ≡ key_of plan.table fits.table row = ap (λ (o : Option Table). option_map_or (λ (table : Table). key_of plan.table table row) o (record { table = plan.table; pk = [] })) fits.is_table in
    let whole : IsPlacedRow catalog placed.0 (key_of plan.table fits.table row) row = record { table = fits.table; is_table = fits.is_table; fits = fits.rows row among; keyed = refl; placed = placed.1 } in
    record {
      shard = subst (λ (s : ℕ). s < shard_count catalog.rings) (sym shard_is) (placed_below catalog plan.table fits.table row placed.0 checked covering fits.is_table placed.1);
      key = key_in catalog plan.table row;
      row = row;
      inserts = refl;
      placed = subst (λ (s : ℕ). IsPlacedRow catalog s (key_in catalog plan.table row) row) (sym shard_is) (subst (λ (k : Key). IsPlacedRow catalog placed.0 k row) (sym key_is) whole);
    }

-- ---- the tasks may be done

claims_then : (catalog : Catalog) (row : Values) (lookups : List ℕ) (claims : List Claiming) (rest : List Task) → AreClaimsFor catalog row lookups claims → AllByRecursion (IsTask catalog (shard_count catalog.rings)) rest
    → AllByRecursion (IsTask catalog (shard_count catalog.rings)) (map (λ claim. tasks.Claim claim) claims ++ rest)
claims_then catalog row [] [] rest are ready = ready
claims_then catalog row [] (claim ∷ claims) rest are ready = absurd are
claims_then catalog row (l ∷ lookups) [] rest are ready = absurd are
claims_then catalog row (l ∷ lookups) (claim ∷ claims) rest are ready = (are.1, claims_then catalog row lookups claims rest are.2 ready)

tasks_ready : (catalog : Catalog) (number : ℕ) (rows : List Values) (list : List Task) → ((row : Values) → Contains rows row → IsInsertion catalog (shard_count catalog.rings) (insertion_of catalog number row))
    → AreTasks catalog number rows list → AllByRecursion (IsTask catalog (shard_count catalog.rings)) list
tasks_ready catalog number [] list each are = subst (AllByRecursion (IsTask catalog (shard_count catalog.rings))) (sym are) tt
tasks_ready catalog number (row ∷ rows) list each (claims, rest, are, is, more) =
    subst (AllByRecursion (IsTask catalog (shard_count catalog.rings))) (sym is)
    (claims_then catalog row (needed catalog number row) claims (tasks.Row (insertion_of catalog number row) ∷ rest) are
    (each row (0, omega arith, refl), tasks_ready catalog number rows rest (λ other among. each other (suc among.0, omega (arith, among.1), among.2)) more))

made_from : (catalog : Catalog) (count limit rows : ℕ) (list : List Task) → AllByRecursion (IsTask catalog count) list → 1 ≤ limit → IsMade catalog count limit (beginning list rows)
made_from catalog count limit rows [] ready least = record { task = λ task is. absurd (cc is); later = λ task among. absurd (omega (arith, among.1)); tries = omega (arith, least) }
made_from catalog count limit rows (first ∷ list) ready least = record {
  task = λ task is. subst (IsTask catalog count) (same_Some first task is) ready.0;
  later = λ task among. All-contains (IsTask catalog count) list task (All-from_recursion (IsTask catalog count) list ready.1) among;
  tries = omega (arith, least);
}

pub begun_made : (catalog : Catalog) (plan : InsertPlan) (list : List Task) (limit : ℕ) → Checked catalog → AreCovering catalog.rings (length catalog.rings) → FitsInsert catalog plan → AreTasks catalog plan.table plan.rows list → 1 ≤ limit
    → IsMade catalog (shard_count catalog.rings) limit (beginning list (length plan.rows))
begun_made catalog plan list limit checked covering fits are least =
    made_from catalog (shard_count catalog.rings) limit (length plan.rows) list (tasks_ready catalog plan.table plan.rows list (λ row among. inserts catalog plan row checked covering fits among) are) least

-- ---- how many actions they have

claims_sum : (catalog : Catalog) (row : Values) (lookups : List ℕ) (claims : List Claiming) (rest : List Task) → AreClaimsFor catalog row lookups claims
    → sum_by task_actions (map (λ claim. tasks.Claim claim) claims ++ rest) ≡ 3 * length lookups + sum_by task_actions rest
claims_sum catalog row [] [] rest are = omega arith
claims_sum catalog row [] (claim ∷ claims) rest are = absurd are
claims_sum catalog row (l ∷ lookups) [] rest are = absurd are
claims_sum catalog row (l ∷ lookups) (claim ∷ claims) rest are = omega (
  arith,
  sum_by-cons task_actions (tasks.Claim claim) (map (λ it. tasks.Claim it) claims ++ rest),
  ap acts_left are.0.first,
  claims_sum catalog row lookups claims rest are.2,
)

few_needed : (catalog : Catalog) (number : ℕ) (table : Table) (row : Values) → Checked catalog → slice_get catalog.tables number ≡ Some table → length (needed catalog number row) ≤ 8
few_needed catalog number table row checked at = omega (
  arith,
  ap length (ap (filter (is_indexed_by catalog row)) (lookups_are catalog number table at)),
  length-filter (is_indexed_by catalog row) table.lookups,
  count_by-le-length (is_indexed_by catalog row) table.lookups,
  (table_kept catalog number table checked at).few_lookups,
)

tasks_few : (catalog : Catalog) (number : ℕ) (rows : List Values) (list : List Task) → ((row : Values) → length (needed catalog number row) ≤ 8) → AreTasks catalog number rows list → sum_by task_actions list ≤ 25 * length rows
tasks_few catalog number [] list few are = omega (arith, ap (sum_by task_actions) are)
tasks_few catalog number (row ∷ rows) list few (claims, rest, are, is, more) = omega (
  arith,
  ap (sum_by task_actions) is,
  claims_sum catalog row (needed catalog number row) claims (tasks.Row (insertion_of catalog number row) ∷ rest) are,
  sum_by-cons task_actions (tasks.Row (insertion_of catalog number row)) rest,
  few row,
  tasks_few catalog number rows rest few more,
)

left_at_first : (list : List Task) (rows : ℕ) → actions_left (beginning list rows) ≡ sum_by task_actions list
left_at_first [] rows = refl
left_at_first (task ∷ list) rows = sym (sum_by-cons task_actions task list)

pub begun_few : (catalog : Catalog) (plan : InsertPlan) (list : List Task) → Checked catalog → FitsInsert catalog plan → AreTasks catalog plan.table plan.rows list → actions_left (beginning list (length plan.rows)) ≤ 25 * length plan.rows
begun_few catalog plan list checked fits are =
    omega (arith, left_at_first list (length plan.rows), tasks_few catalog plan.table plan.rows list (λ row. few_needed catalog plan.table fits.table row checked fits.is_table) are)
