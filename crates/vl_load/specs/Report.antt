-- The report of a loaded catalog: a count, a line for each table with one for each of its lookups, and a
-- line for each ignored path. Each line has its LF.
use Rattle.std.specs.Prelude.{ℕ, List, [], ◌++◌, codes, decimal, length, map, slice_get, Option, Some, None, option_and_then, if◌then◌else◌}
use Rattle.std.specs.List.{flat_map}
use Rattle.std.specs.Option.{option_map_or}
use Rattle.vl_catalog.specs.Place.{shard_count}
use Rattle.vl_catalog.specs.declared.catalog.Catalog.{Catalog}
use Rattle.vl_catalog.specs.declared.column.Column.{Column}
use Rattle.vl_catalog.specs.declared.keyspace.Keyspace.{Keyspace}
use Rattle.vl_catalog.specs.declared.lookup.Lookup.{Lookup}
use Rattle.vl_catalog.specs.declared.primary.Primary.{Primary}
use Rattle.vl_catalog.specs.declared.table.Table.{Table}
use Rattle.vl_catalog.specs.declared.vindex.Vindex.{Vindex}
use Rattle.vl_catalog.specs.declared.vindex.Vindex.TheVariants.{Numeric, BinaryMd5}
use Rattle.vl_load.specs.declared.loaded.Loaded.{Loaded}

-- ---- names; what doesn't exist has none

abbrev pub keyspace_name : Catalog → ℕ → List ℕ
keyspace_name catalog k = option_map_or (λ (keyspace : Keyspace). keyspace.name) (slice_get catalog.keyspaces k) []

abbrev pub column_name : Table → ℕ → List ℕ
column_name table n = option_map_or (λ (column : Column). column.name) (slice_get table.columns n) []

-- KEYSPACE.TABLE
abbrev pub full_name : Catalog → Table → List ℕ
full_name catalog table = keyspace_name catalog table.keyspace ++ (codes "." ++ table.name)

abbrev pub vindex_name : Vindex → List ℕ
vindex_name Numeric = codes "numeric"
vindex_name BinaryMd5 = codes "binary_md5"

-- ---- the lines

abbrev pub count_line : Catalog → List ℕ
count_line catalog = codes "catalog: "
    ++ (decimal (length catalog.keyspaces) ++ (codes " keyspaces, "
    ++ (decimal (shard_count catalog.rings) ++ (codes " shards, "
    ++ (decimal (length catalog.tables) ++ (codes " tables, "
    ++ (decimal (length catalog.lookups) ++ codes " lookups\n")))))))

-- how a table is placed
abbrev pub placement : Table → Option Primary → List ℕ
placement table None = codes " unsharded\n"
placement table (Some primary) =
    codes " primary " ++ (column_name table primary.column ++ (codes " " ++ (vindex_name primary.vindex ++ codes "\n")))

abbrev pub table_line : Catalog → Table → List ℕ
table_line catalog table = codes "table " ++ (full_name catalog table ++ placement table table.primary)

-- KEYSPACE.OWNER(column)
abbrev pub owner_text : Catalog → Option ℕ → Table → List ℕ
owner_text catalog column owner = full_name catalog owner ++ (codes "(" ++ (option_map_or (column_name owner) column [] ++ codes ")"))

-- KEYSPACE.TABLE(from columns, to column)
abbrev pub entry_text : Catalog → Lookup → Table → List ℕ
entry_text catalog lookup table = full_name catalog table
    ++ (codes "(" ++ (flat_map (λ n. column_name table n ++ codes ", ") lookup.from
    ++ (option_map_or (column_name table) lookup.to [] ++ codes ")")))

abbrev pub table_at : Catalog → Option ℕ → Option Table
table_at catalog number = option_and_then (slice_get catalog.tables) number

abbrev pub lookup_line : Catalog → Lookup → List ℕ
lookup_line catalog lookup = codes "lookup "
    ++ (lookup.name ++ ((if lookup.unique then codes " unique " else codes " many ")
    ++ (option_map_or (owner_text catalog lookup.column) (table_at catalog lookup.owner) []
    ++ (codes " to "
    ++ (option_map_or (entry_text catalog lookup) (table_at catalog lookup.table) [] ++ codes "\n")))))

-- the lookup of this number
abbrev pub lookup_text : Catalog → ℕ → List ℕ
lookup_text catalog l = option_map_or (lookup_line catalog) (slice_get catalog.lookups l) []

-- a table, and then the lookups that it lists
abbrev pub table_text : Catalog → Table → List ℕ
table_text catalog table = table_line catalog table ++ flat_map (lookup_text catalog) table.lookups

abbrev pub ignored_line : List ℕ → List ℕ
ignored_line path = codes "ignored " ++ (path ++ codes "\n")

abbrev pub report_of : Loaded → List ℕ
report_of loaded = count_line loaded.catalog
    ++ (flat_map (table_text loaded.catalog) loaded.catalog.tables ++ flat_map ignored_line loaded.ignored)
