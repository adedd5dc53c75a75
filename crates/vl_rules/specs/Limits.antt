-- C11: the limits of a catalog, and of one table.
use Rattle.std.specs.Prelude.{ℕ, Bool, ◌||◌, ◌==◌, nat_lt, List, length, sum_by}
use Rattle.std.specs.List.{list_any}
use Rattle.vl_values.specs.declared.col_type.ColType.{ColType}
use Rattle.vl_values.specs.declared.col_type.ColType.TheVariants.{BigInt, BigUint, Int, Uint32, VarChar, VarBinary}
use Rattle.vl_catalog.specs.declared.catalog.Catalog.{Catalog}
use Rattle.vl_catalog.specs.declared.column.Column.{Column}
use Rattle.vl_catalog.specs.declared.column_vindex.ColumnVindex.{ColumnVindex}
use Rattle.vl_catalog.specs.declared.keyspace.Keyspace.{Keyspace}
use Rattle.vl_catalog.specs.declared.table.Table.{Table}
use Rattle.vl_catalog.specs.Place.{shard_count}

-- a name has at most 64 bytes
abbrev pub is_long : List ℕ → Bool
is_long name = nat_lt 64 (length name)

-- at most 16 keyspaces, 64 shards in all and 256 tables
abbrev pub passes_a_limit : Catalog → Bool
passes_a_limit catalog =
    nat_lt 16 (length catalog.keyspaces) || nat_lt 64 (shard_count catalog.rings) || nat_lt 256 (length catalog.tables)
    || list_any (λ (keyspace : Keyspace). is_long keyspace.name) catalog.keyspaces

-- the greatest number of bytes of a value of the type, where a number counts 8
abbrev pub most_bytes : ColType → ℕ
most_bytes BigInt = 8
most_bytes BigUint = 8
most_bytes Int = 8
most_bytes Uint32 = 8
most_bytes (VarChar n) = n
most_bytes (VarBinary n) = n

-- n of VARCHAR and VARBINARY is from 1 to 16,383
abbrev pub is_off_size : ColType → Bool
is_off_size ty = (most_bytes ty == 0) || nat_lt 16383 (most_bytes ty)

-- the greatest number of bytes of a row
abbrev pub row_bytes : List Column → ℕ
row_bytes columns = sum_by (λ (column : Column). most_bytes column.ty) columns

abbrev pub has_long_name : Table → Bool
has_long_name table =
    is_long table.name || list_any (λ (column : Column). is_long column.name) table.columns
    || list_any (λ (vindex : ColumnVindex). is_long vindex.vindex) table.column_vindexes

-- at most 64 columns, 8 lookups and 65,535 bytes of a row
abbrev pub breaks_c11 : Table → Bool
breaks_c11 table =
    nat_lt 64 (length table.columns) || nat_lt 8 (length table.lookups) || has_long_name table
    || list_any (λ (column : Column). is_off_size column.ty) table.columns
    || nat_lt 65535 (row_bytes table.columns)
