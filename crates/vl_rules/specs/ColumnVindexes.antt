-- Column vindexes: what each of a table's names, and how many columns it means.
use Rattle.std.specs.Prelude.{ℕ, Bool, false, ◌&&◌, ◌==◌, List, length, find, slice_get, Option, Some, None}
use Rattle.std.specs.Option.{option_map_or}
use Rattle.std.specs.Str.{bytes_eq}
use Rattle.vl_catalog.specs.declared.catalog.Catalog.{Catalog}
use Rattle.vl_catalog.specs.declared.column.Column.{Column}
use Rattle.vl_catalog.specs.declared.column_vindex.ColumnVindex.{ColumnVindex}
use Rattle.vl_catalog.specs.declared.keyspace.Keyspace.{Keyspace}
use Rattle.vl_catalog.specs.declared.lookup.Lookup.{Lookup}
use Rattle.vl_catalog.specs.declared.table.Table.{Table}
use Rattle.vl_catalog.specs.Build.{Names, column_number, meant_columns, table_at}

-- whether the table stands in a sharded keyspace
abbrev pub is_sharded : Catalog → Table → Bool
is_sharded catalog table = option_map_or (λ (keyspace : Keyspace). keyspace.sharded) (slice_get catalog.keyspaces table.keyspace) false

-- whether the column vindex of a table of keyspace k names this lookup
abbrev pub is_named : ℕ → ColumnVindex → Lookup → Bool
is_named k vindex lookup = (lookup.keyspace == k) && bytes_eq lookup.name vindex.vindex

-- the lookup that a table's column vindex names, if that is one
abbrev pub lookup_named : Catalog → Table → ColumnVindex → Option Lookup
lookup_named catalog table vindex = find (is_named table.keyspace vindex) catalog.lookups

-- the columns that a column vindex means, whose names behind a lookup's column may be cut off
abbrev pub meant_by : Catalog → Option Lookup → Names → Names
meant_by catalog None names = names
meant_by catalog (Some lookup) names = meant_columns lookup.unique (table_at catalog.tables lookup.owner) names

abbrev pub has_one_column : Catalog → Table → ColumnVindex → Bool
has_one_column catalog table vindex = length (meant_by catalog (lookup_named catalog table vindex) vindex.columns) == 1

-- whether the table has a first column vindex, with exactly one column
abbrev pub first_has_one : Catalog → Table → Bool
first_has_one catalog table = option_map_or (has_one_column catalog table) (slice_get table.column_vindexes 0) false

-- whether the name is that of column n
abbrev pub names_column : List Column → List ℕ → ℕ → Bool
names_column columns name n = option_map_or (λ m. m == n) (column_number columns name) false
