-- The rules that speak of a table: C1 to C5 and C12. C11 stands in Limits.
use Rattle.std.specs.Prelude.{ℕ, ◌+◌, Bool, true, false, not, ◌&&◌, ◌||◌, ◌==◌, nat_lt, is_none, is_some, if◌then◌else◌, List, [], ◌∷◌, length, drop, slice_get, slice_index_or}
use Rattle.std.specs.Cmp.Lexicographic.{pointwise}
use Rattle.std.specs.List.{list_all, list_any}
use Rattle.std.specs.Option.{option_map_or}
use Rattle.std.specs.Str.{bytes_eq}
use Rattle.vl_values.specs.declared.col_type.ColType.{ColType}
use Rattle.vl_values.specs.declared.col_type.ColType.TheVariants.{BigInt, BigUint, Int, Uint32, VarChar, VarBinary}
use Rattle.vl_catalog.specs.declared.catalog.Catalog.{Catalog}
use Rattle.vl_catalog.specs.declared.column.Column.{Column}
use Rattle.vl_catalog.specs.declared.column_vindex.ColumnVindex.{ColumnVindex}
use Rattle.vl_catalog.specs.declared.primary.Primary.{Primary}
use Rattle.vl_catalog.specs.declared.table.Table.{Table}
use Rattle.vl_catalog.specs.declared.vindex.Vindex.{Vindex}
use Rattle.vl_catalog.specs.declared.vindex.Vindex.TheVariants.{Numeric, BinaryMd5}
use Rattle.vl_rules.specs.ColumnVindexes.{first_has_one, has_one_column, is_named, is_sharded, lookup_named}

-- C1: the name of the table at place i stands again behind it, in its keyspace or in another
abbrev pub breaks_c1 : Catalog → ℕ → Table → Bool
breaks_c1 catalog i table = list_any (λ (other : Table). bytes_eq other.name table.name) (drop (i + 1) catalog.tables)

-- ---- C2

-- there are numbers, and each is that of a column
abbrev pub are_columns : List Column → List ℕ → Bool
are_columns columns numbers = nat_lt 0 (length numbers) && list_all (λ n. nat_lt n (length columns)) numbers

-- the table stands in only one of the two files; one of an unsharded keyspace need not be in the VSchema
abbrev pub stands_in_one : Catalog → Table → Bool
stands_in_one catalog table = not table.in_schema || (is_sharded catalog table && not table.in_vschema)

-- C2: no primary key, or only one of VSchema and schema
abbrev pub breaks_c2 : Catalog → Table → Bool
breaks_c2 catalog table = not (are_columns table.columns table.pk) || stands_in_one catalog table

-- ---- C3

abbrev pub shards_of : Catalog → Table → ℕ
shards_of catalog table = length (slice_index_or catalog.rings table.keyspace [])

-- the table lists this lookup by this column vindex
abbrev pub is_lookup_of : Catalog → Table → ColumnVindex → ℕ → Bool
is_lookup_of catalog table vindex l = option_map_or (is_named table.keyspace vindex) (slice_get catalog.lookups l) false

-- the first column vindex is no lookup, and the later ones are the table's lookups
abbrev pub are_in_order : Catalog → Table → List ColumnVindex → Bool
are_in_order catalog table [] = false
are_in_order catalog table (first ∷ later) = is_none (lookup_named catalog table first) && pointwise (is_lookup_of catalog table) later table.lookups

-- the table has a column vindex, or what comes of one
abbrev pub has_vindex : Table → Bool
has_vindex table = nat_lt 0 (length table.column_vindexes) || is_some table.primary || nat_lt 0 (length table.lookups)

-- C3: a sharded table's column vindexes aren't one that is no lookup and then lookups; or an unsharded
-- table has one, or stands in a keyspace of several shards
abbrev pub breaks_c3 : Catalog → Table → Bool
breaks_c3 catalog table =
    if is_sharded catalog table
    then (not (are_in_order catalog table table.column_vindexes) || (shards_of catalog table == 0))
    else (has_vindex table || not (shards_of catalog table == 1))

-- ---- C4 and C5

abbrev pub primary_in_key : Table → Bool
primary_in_key table = option_map_or (λ (primary : Primary). list_any (λ n. n == primary.column) table.pk) table.primary false

-- C4: the column of the primary vindex isn't in the primary key; not looked at where that column vindex
-- breaks C12
abbrev pub breaks_c4 : Catalog → Table → Bool
breaks_c4 catalog table = first_has_one catalog table && not (primary_in_key table)

abbrev pub is_numeric : Vindex → Bool
is_numeric Numeric = true
is_numeric BinaryMd5 = false

abbrev pub is_number_type : ColType → Bool
is_number_type BigInt = true
is_number_type BigUint = true
is_number_type Int = true
is_number_type Uint32 = true
is_number_type (VarChar n) = false
is_number_type (VarBinary n) = false

abbrev pub is_number_column : List Column → ℕ → Bool
is_number_column columns n = option_map_or (λ (column : Column). is_number_type column.ty) (slice_get columns n) false

-- `numeric` stands on a column that isn't BIGINT or INT, signed or not
abbrev pub has_numeric_text : Table → Bool
has_numeric_text table =
    option_map_or (λ (primary : Primary). is_numeric primary.vindex && not (is_number_column table.columns primary.column)) table.primary false

-- C5: that; not looked at where that column vindex breaks C12
abbrev pub breaks_c5 : Catalog → Table → Bool
breaks_c5 catalog table = first_has_one catalog table && has_numeric_text table

-- C12: a column vindex hasn't exactly one column
abbrev pub breaks_c12 : Catalog → Table → Bool
breaks_c12 catalog table = list_any (λ (vindex : ColumnVindex). not (has_one_column catalog table vindex)) table.column_vindexes
