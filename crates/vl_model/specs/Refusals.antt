-- Every refusal of a statement by its plan, in the order in which they are looked for: the first is told.
use Rattle.std.specs.Prelude.{◌≡◌, ℕ, ◌+◌, Bool, true, false, ◌&&◌, ◌||◌, ◌==◌, nat_lt, if◌then◌else◌, List, [], ◌∷◌, ◌++◌, length, map, filter, slice_get, Option, Some, None, Result, Ok, Err, is_some, is_none}
use Rattle.std.specs.List.{filter_map, flat_map, list_any}
use Rattle.std.specs.Option.{option_map_or}
use Rattle.std.specs.Str.{bytes_eq}
use Rattle.vl_values.specs.declared.cause.Cause.{Cause}
use Rattle.vl_values.specs.declared.cause.Cause.TheVariants.{OutOfMemory, NotSupported, RowCount, UnknownColumn, UnknownDatabase, UnknownTable}
use Rattle.vl_values.specs.declared.unsupported.Unsupported.{Unsupported}
use Rattle.vl_values.specs.declared.unsupported.Unsupported.TheVariants.{WriteToLookupTable, LockOnLookupTable, ChangeOfKeyColumn, CountWithMore}
use Rattle.vl_values.specs.declared.value.Value.{Value}
use Rattle.vl_catalog.specs.declared.catalog.Catalog.{Catalog}
use Rattle.vl_catalog.specs.declared.column.Column.{Column}
use Rattle.vl_catalog.specs.declared.keyspace.Keyspace.{Keyspace}
use Rattle.vl_catalog.specs.declared.table.Table.{Table}
use Rattle.vl_catalog.specs.Build.{Names, column_number}
use Rattle.vl_sql.specs.declared.assignment.Assignment.{Assignment}
use Rattle.vl_sql.specs.declared.order.Order.{Order}
use Rattle.vl_sql.specs.declared.stmt.Stmt.{Stmt}
use Rattle.vl_sql.specs.declared.stmt.Stmt.TheVariants as stmts
use Rattle.vl_sql.specs.declared.table.TableName.{TableName}
use Rattle.vl_sql.specs.declared.what.What.{What}
use Rattle.vl_sql.specs.declared.what.What.TheVariants as whats
use Rattle.vl_model.specs.Columns.{columns_named, row_stored, set_stored, table_named, table_of_stmt, test_compared}
use Rattle.vl_model.specs.Entries.{is_lookup_table}

-- ---- 1054

abbrev pub unknown_among : List Column → Names → List Cause
unknown_among columns names = map (λ name. UnknownColumn name) (filter (λ name. is_none (column_number columns name)) names)

abbrev pub unknown_columns : Table → Stmt → List Cause
unknown_columns table stmt = unknown_among table.columns (columns_named stmt)

-- ---- 1136, each row with its number, counted from 1

abbrev pub miscounted_from : ℕ → ℕ → List (List Value) → List Cause
miscounted_from columns row [] = []
miscounted_from columns row (values ∷ rest) =
    (if length values == columns then [] else RowCount row (length values) columns ∷ []) ++ miscounted_from columns (row + 1) rest

abbrev pub miscounted : Stmt → List Cause
miscounted (stmts.Insert t names rows) = miscounted_from (length names) 1 rows
miscounted _ = []

-- ---- 1048, 1264, 1366 and 1406: by row, then by the table's columns; what is set before what is tested

abbrev pub fault_of : Result Value Cause → Option Cause
fault_of (Ok value) = None
fault_of (Err cause) = Some cause

abbrev pub faults : List (Result Value Cause) → List Cause
faults results = filter_map fault_of results

abbrev pub misfits : Catalog → Table → Stmt → List Cause
misfits catalog table (stmts.Insert t names rows) = flat_map (λ row. faults (row_stored catalog table names row 0 table.columns)) rows
misfits catalog table (stmts.Select what t tests orders limit lock) = flat_map (λ test. faults (test_compared catalog table test)) tests
misfits catalog table (stmts.Update t assignments tests) =
    faults (map (λ set. set.1) (set_stored catalog table assignments 0 table.columns)) ++ flat_map (λ test. faults (test_compared catalog table test)) tests
misfits catalog table (stmts.Delete t tests) = flat_map (λ test. faults (test_compared catalog table test)) tests
misfits catalog table _ = []

-- ---- 1235

abbrev pub told_if : Bool → Unsupported → List Cause
told_if true what = NotSupported what ∷ []
told_if false what = []

abbrev pub is_key_column : Table → List ℕ → Bool
is_key_column table name = list_any (λ k. option_map_or (λ (column : Column). bytes_eq column.name name) (slice_get table.columns k) false) table.pk

abbrev pub sets_a_key_column : Table → List Assignment → Bool
sets_a_key_column table assignments = list_any (λ (assignment : Assignment). is_key_column table assignment.column) assignments

abbrev pub is_count : What → Bool
is_count whats.All = false
is_count whats.Count = true
is_count (whats.Columns names) = false

abbrev pub has_more : List Order → Option ℕ → Bool → Bool
has_more orders limit lock = nat_lt 0 (length orders) || is_some limit || lock

abbrev pub unsupported : Catalog → ℕ → Table → Stmt → List Cause
unsupported catalog n table (stmts.Insert t names rows) = told_if (is_lookup_table catalog n) WriteToLookupTable
unsupported catalog n table (stmts.Select what t tests orders limit lock) =
    told_if (lock && is_lookup_table catalog n) LockOnLookupTable ++ told_if (is_count what && has_more orders limit lock) CountWithMore
unsupported catalog n table (stmts.Update t assignments tests) =
    told_if (is_lookup_table catalog n) WriteToLookupTable ++ told_if (sets_a_key_column table assignments) ChangeOfKeyColumn
unsupported catalog n table (stmts.Delete t tests) = told_if (is_lookup_table catalog n) WriteToLookupTable
unsupported catalog n table _ = []

-- ---- all

-- a statement on the table of number n
abbrev pub refusals_in : Catalog → ℕ → Table → Stmt → List Cause
refusals_in catalog n table stmt =
    unknown_columns table stmt ++ (miscounted stmt ++ (misfits catalog table stmt ++ unsupported catalog n table stmt))

abbrev pub refusals_on : Catalog → Stmt → TableName → Option ℕ → List Cause
refusals_on catalog stmt t None = UnknownTable t.name ∷ []
refusals_on catalog stmt t (Some n) = option_map_or (λ table. refusals_in catalog n table stmt) (slice_get catalog.tables n) []

abbrev pub is_keyspace : Catalog → List ℕ → Bool
is_keyspace catalog name = list_any (λ (keyspace : Keyspace). bytes_eq keyspace.name name) catalog.keyspaces

-- USE of an unknown keyspace is the one refusal without a table
abbrev pub refusals_besides : Catalog → Stmt → List Cause
refusals_besides catalog (stmts.Use name) = if is_keyspace catalog name then [] else UnknownDatabase name ∷ []
refusals_besides catalog _ = []

abbrev pub refusals : Catalog → Stmt → List Cause
refusals catalog stmt = by (table_of_stmt stmt)
  where
    by : Option TableName → List Cause
    by None = refusals_besides catalog stmt
    by (Some t) = refusals_on catalog stmt t (table_named catalog t)

-- an answer is refused exactly as the first of these says, if there is one, unless memory ran out
abbrev pub IsFirst : Cause → List Cause → Type 0
IsFirst OutOfMemory causes = Unit {0}
IsFirst cause causes = slice_get causes 0 ≡ Some cause
