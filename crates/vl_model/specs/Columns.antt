-- The table and the columns that a statement names, and the value that a column takes in it.
use Rattle.std.specs.Prelude.{ℕ, ◌+◌, negsuc, Bool, true, false, not, ◌&&◌, ◌||◌, ◌==◌, if◌then◌else◌, List, [], ◌∷◌, ◌++◌, map, filter, find, position, slice_get, unwrap_or, option_and_then, Option, Some, None, Result, Ok, Err}
use Rattle.std.specs.List.{filter_map, list_any}
use Rattle.std.specs.Option.{option_map_or}
use Rattle.std.specs.Str.{bytes_eq}
use Rattle.vl_values.specs.declared.cause.Cause.{Cause}
use Rattle.vl_values.specs.declared.cause.Cause.TheVariants as causes
use Rattle.vl_values.specs.declared.col_type.ColType.{ColType}
use Rattle.vl_values.specs.declared.col_type.ColType.TheVariants as types
use Rattle.vl_values.specs.declared.fit_fault.FitFault.{FitFault}
use Rattle.vl_values.specs.declared.fit_fault.FitFault.TheVariants as faults
use Rattle.vl_values.specs.declared.value.Value.{Value}
use Rattle.vl_values.specs.declared.value.Value.TheVariants.{Null, Int}
use Rattle.vl_values.specs.Fit.{fitted}
use Rattle.vl_catalog.specs.declared.catalog.Catalog.{Catalog}
use Rattle.vl_catalog.specs.declared.column.Column.{Column}
use Rattle.vl_catalog.specs.declared.keyspace.Keyspace.{Keyspace}
use Rattle.vl_catalog.specs.declared.lookup.Lookup.{Lookup}
use Rattle.vl_catalog.specs.declared.primary.Primary.{Primary}
use Rattle.vl_catalog.specs.declared.table.Table.{Table}
use Rattle.vl_catalog.specs.declared.vindex.Vindex.{Vindex}
use Rattle.vl_catalog.specs.declared.vindex.Vindex.TheVariants.{Numeric, BinaryMd5}
use Rattle.vl_catalog.specs.Build.{Names, column_number, table_at}
use Rattle.vl_sql.specs.declared.assignment.Assignment.{Assignment}
use Rattle.vl_sql.specs.declared.order.Order.{Order}
use Rattle.vl_sql.specs.declared.stmt.Stmt.{Stmt}
use Rattle.vl_sql.specs.declared.stmt.Stmt.TheVariants as stmts
use Rattle.vl_sql.specs.declared.table.TableName.{TableName}
use Rattle.vl_sql.specs.declared.test.Test.{Test}
use Rattle.vl_sql.specs.declared.test.Test.TheVariants as tests
use Rattle.vl_sql.specs.declared.what.What.{What}
use Rattle.vl_sql.specs.declared.what.What.TheVariants as whats

-- ---- the table

-- the keyspace that stands before a table's name, if one does, is the table's
abbrev pub is_in : Catalog → Option (List ℕ) → Table → Bool
is_in catalog None table = true
is_in catalog (Some name) table = option_map_or (λ (keyspace : Keyspace). bytes_eq keyspace.name name) (slice_get catalog.keyspaces table.keyspace) false

abbrev pub table_named : Catalog → TableName → Option ℕ
table_named catalog t = position (λ (table : Table). bytes_eq table.name t.name && is_in catalog t.keyspace table) catalog.tables

-- the table of a statement that has one
abbrev pub table_of_stmt : Stmt → Option TableName
table_of_stmt (stmts.Insert t names rows) = Some t
table_of_stmt (stmts.Select what t conditions orders limit lock) = Some t
table_of_stmt (stmts.Update t assignments conditions) = Some t
table_of_stmt (stmts.Delete t conditions) = Some t
table_of_stmt _ = None

-- ---- the columns, as they are written

abbrev pub column_tested : Test → List ℕ
column_tested (tests.Equals name value) = name
column_tested (tests.Among name values) = name

abbrev pub names_selected : What → Names
names_selected whats.All = []
names_selected whats.Count = []
names_selected (whats.Columns names) = names

abbrev pub columns_named : Stmt → Names
columns_named (stmts.Insert t names rows) = names
columns_named (stmts.Select what t conditions orders limit lock) = names_selected what ++ (map column_tested conditions ++ map (λ (order : Order). order.column) orders)
columns_named (stmts.Update t assignments conditions) = map (λ (assignment : Assignment). assignment.column) assignments ++ map column_tested conditions
columns_named (stmts.Delete t conditions) = map column_tested conditions
columns_named _ = []

-- ---- the value that a column takes

abbrev pub is_numeric : Vindex → Bool
is_numeric Numeric = true
is_numeric BinaryMd5 = false

abbrev pub is_on : ℕ → Lookup → Bool
is_on n lookup = option_map_or (λ m. m == n) lookup.column false

-- the table's lookups on its column n
abbrev pub lookups_on : Catalog → Table → ℕ → List Lookup
lookups_on catalog table n = filter (is_on n) (filter_map (slice_get catalog.lookups) table.lookups)

-- NULL has no place in the primary key, and none in a column of a lookup that doesn't ignore it
abbrev pub needs_value : Catalog → Table → ℕ → Bool
needs_value catalog table n = list_any (λ k. k == n) table.pk || list_any (λ (lookup : Lookup). not lookup.ignore_nulls) (lookups_on catalog table n)

abbrev pub is_mapped_by : Option Table → Bool
is_mapped_by table = option_map_or (λ (t : Table). option_map_or (λ (primary : Primary). is_numeric primary.vindex) t.primary false) table false

-- `numeric` maps the column, or the entries of a lookup on it
abbrev pub is_numbered : Catalog → Table → ℕ → Bool
is_numbered catalog table n =
    option_map_or (λ (primary : Primary). (primary.column == n) && is_numeric primary.vindex) table.primary false
    || list_any (λ (lookup : Lookup). is_mapped_by (table_at catalog.tables lookup.table)) (lookups_on catalog table n)

abbrev pub is_negative : Value → Bool
is_negative (Int (negsuc n)) = true
is_negative value = false

abbrev pub most_bytes : ColType → ℕ
most_bytes (types.VarChar most) = most
most_bytes (types.VarBinary most) = most
most_bytes ty = 0

abbrev pub misfit : Column → FitFault → Cause
misfit column faults.Null = causes.NotNull column.name
misfit column faults.Range = causes.OutOfRange column.name
misfit column faults.NotNumber = causes.NotNumber column.name
misfit column faults.TooLong = causes.TooLong column.name (most_bytes column.ty)
misfit column faults.Memory = causes.OutOfMemory

-- what fits the column's type is looked at by its vindexes
abbrev pub taken : Bool → Bool → Column → Result Value FitFault → Result Value Cause
taken needs numbered column (Err fault) = Err (misfit column fault)
taken needs numbered column (Ok Null) = if needs then Err (causes.NotNull column.name) else Ok Null
taken needs numbered column (Ok value) = if numbered && is_negative value then Err (causes.OutOfRange column.name) else Ok value

-- a value that is to be stored in column n
abbrev pub stored : Catalog → Table → ℕ → Column → Value → Result Value Cause
stored catalog table n column value = taken (needs_value catalog table n) (is_numbered catalog table n) column (fitted value column.ty column.nullable)

-- a value that column n is tested against; NULL may stand there, and matches nothing
abbrev pub compared : Catalog → Table → ℕ → Column → Value → Result Value Cause
compared catalog table n column value = taken false (is_numbered catalog table n) column (fitted value column.ty true)

-- ---- all of a statement's values, in the order in which their faults are told

-- the value of a row in the column of this name; NULL where the row has none
abbrev pub value_named : Names → List Value → List ℕ → Value
value_named names values name = unwrap_or (option_and_then (slice_get values) (position (λ n. bytes_eq n name) names)) Null

-- a row of INSERT, in the order of the table's columns from number n on
abbrev pub row_stored : Catalog → Table → Names → List Value → ℕ → List Column → List (Result Value Cause)
row_stored catalog table names row n [] = []
row_stored catalog table names row n (column ∷ columns) =
    stored catalog table n column (value_named names row column.name) ∷ row_stored catalog table names row (n + 1) columns

abbrev pub assigned : List Assignment → List ℕ → Option Assignment
assigned assignments name = find (λ (assignment : Assignment). bytes_eq assignment.column name) assignments

-- the columns that SET names, in the order of the table's columns from number n on: each with its number
abbrev pub set_stored : Catalog → Table → List Assignment → ℕ → List Column → List (ℕ × Result Value Cause)
set_stored catalog table assignments n [] = []
set_stored catalog table assignments n (column ∷ columns) =
    option_map_or (λ (assignment : Assignment). (n, stored catalog table n column assignment.value) ∷ []) (assigned assignments column.name) []
    ++ set_stored catalog table assignments (n + 1) columns

abbrev pub literals : Test → List Value
literals (tests.Equals name value) = value ∷ []
literals (tests.Among name values) = values

-- the literals of a test, as they are written
abbrev pub test_compared : Catalog → Table → Test → List (Result Value Cause)
test_compared catalog table test =
    option_map_or (λ n. option_map_or (λ column. map (compared catalog table n column) (literals test)) (slice_get table.columns n) [])
    (column_number table.columns (column_tested test))
    []
