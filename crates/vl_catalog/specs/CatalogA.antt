-- The built-in catalog: keyspace commerce with the shards `-80` and `80-`, the tables t1 and t2, and
-- the tables of their lookups t1_u, t2_a and t2_b.
use Rattle.std.specs.Prelude.{ℕ, Bool, true, false, List, [], ◌∷◌, codes, Some, None}
use Rattle.vl_values.specs.declared.col_type.ColType.{ColType}
use Rattle.vl_values.specs.declared.col_type.ColType.TheVariants.{BigUint, VarChar, VarBinary}
use Rattle.vl_vindex.specs.KeyRange.{Range}
use Rattle.vl_catalog.specs.declared.catalog.Catalog.{Catalog}
use Rattle.vl_catalog.specs.declared.column.Column.{Column}
use Rattle.vl_catalog.specs.declared.column_vindex.ColumnVindex.{ColumnVindex}
use Rattle.vl_catalog.specs.declared.keyspace_parts.KeyspaceParts.{KeyspaceParts}
use Rattle.vl_catalog.specs.declared.keyspace_vschema.KeyspaceVschema.{KeyspaceVschema}
use Rattle.vl_catalog.specs.declared.lookup.Lookup.{Lookup}
use Rattle.vl_catalog.specs.declared.table.Table.{Table}
use Rattle.vl_catalog.specs.declared.table_def.TableDef.{TableDef}
use Rattle.vl_catalog.specs.declared.table_vschema.TableVschema.{TableVschema}
use Rattle.vl_catalog.specs.declared.vindex.Vindex.{Vindex}
use Rattle.vl_catalog.specs.declared.vindex.Vindex.TheVariants.{Numeric, BinaryMd5}
use Rattle.vl_catalog.specs.declared.vindex_def.VindexDef.{VindexDef}
use Rattle.vl_catalog.specs.declared.vindex_def.VindexKind.TheVariants.{Primary as APrimary, Lookup as ALookup}
use Rattle.vl_catalog.specs.Build.{Names}

-- ---- the shards

abbrev pub low_half : Range
low_half = record { start = []; end = 0x80 ∷ [] }

abbrev pub high_half : Range
high_half = record { start = 0x80 ∷ []; end = [] }

abbrev pub halves : List Range
halves = low_half ∷ high_half ∷ []

-- ---- the files

abbrev pub column : List ℕ → ColType → Bool → Column
column name ty nullable = record { name = name; ty = ty; nullable = nullable }

abbrev pub keyspace_id : Column
keyspace_id = column (codes "keyspace_id") (VarBinary 16) true

abbrev pub table_def : List ℕ → List Column → Names → TableDef
table_def name columns key = record { name = name; columns = columns; key = key; ignored = [] }

abbrev pub t1_def : TableDef
t1_def = table_def (codes "t1") (column (codes "id") BigUint false ∷ column (codes "u") BigUint true ∷ []) (codes "id" ∷ [])

abbrev pub t1_u_idx_def : TableDef
t1_u_idx_def = table_def (codes "t1_u_idx") (column (codes "u") BigUint false ∷ keyspace_id ∷ []) (codes "u" ∷ [])

abbrev pub t2_def : TableDef
t2_def =
    table_def (codes "t2")
    (column (codes "id") BigUint false ∷ column (codes "a") BigUint true ∷ column (codes "b") (VarChar 32) true ∷ [])
    (codes "id" ∷ [])

abbrev pub t2_a_idx_def : TableDef
t2_a_idx_def = table_def (codes "t2_a_idx") (column (codes "a") BigUint false ∷ keyspace_id ∷ []) (codes "a" ∷ [])

abbrev pub t2_b_idx_def : TableDef
t2_b_idx_def =
    table_def (codes "t2_b_idx")
    (column (codes "b") (VarChar 32) false ∷ column (codes "id") BigUint false ∷ keyspace_id ∷ [])
    (codes "b" ∷ codes "id" ∷ [])

abbrev pub primary_def : List ℕ → Vindex → VindexDef
primary_def name vindex = record { name = name; kind = APrimary vindex }

-- a lookup whose table stands in the same keyspace
abbrev pub lookup_def : List ℕ → Bool → List ℕ → List ℕ → Names → Bool → VindexDef
lookup_def name unique owner table from ignore_nulls = record {
  name = name;
  kind = ALookup (record {
    unique = unique;
    owner = owner;
    keyspace = None;
    table = table;
    from = from;
    to = codes "keyspace_id";
    ignore_nulls = ignore_nulls;
    write_only = false;
  });
}

abbrev pub column_vindex : List ℕ → List ℕ → ColumnVindex
column_vindex column vindex = record { columns = column ∷ []; vindex = vindex }

abbrev pub table_vschema : List ℕ → List ColumnVindex → TableVschema
table_vschema name column_vindexes = record { name = name; column_vindexes = column_vindexes }

abbrev pub vindexes_a : List VindexDef
vindexes_a =
    primary_def (codes "by_md5") BinaryMd5
    ∷ primary_def (codes "by_num") Numeric
    ∷ lookup_def (codes "t1_u") true (codes "t1") (codes "t1_u_idx") (codes "u" ∷ []) true
    ∷ lookup_def (codes "t2_a") true (codes "t2") (codes "t2_a_idx") (codes "a" ∷ []) false
    ∷ lookup_def (codes "t2_b") false (codes "t2") (codes "t2_b_idx") (codes "b" ∷ codes "id" ∷ []) true
    ∷ []

abbrev pub t2_vschema : TableVschema
t2_vschema =
    table_vschema (codes "t2")
    (column_vindex (codes "id") (codes "by_num") ∷ column_vindex (codes "a") (codes "t2_a") ∷ column_vindex (codes "b") (codes "t2_b") ∷ [])

abbrev pub tables_a : List TableVschema
tables_a =
    table_vschema (codes "t1") (column_vindex (codes "id") (codes "by_num") ∷ column_vindex (codes "u") (codes "t1_u") ∷ [])
    ∷ table_vschema (codes "t1_u_idx") (column_vindex (codes "u") (codes "by_num") ∷ [])
    ∷ t2_vschema
    ∷ table_vschema (codes "t2_a_idx") (column_vindex (codes "a") (codes "by_num") ∷ [])
    ∷ table_vschema (codes "t2_b_idx") (column_vindex (codes "b") (codes "by_md5") ∷ [])
    ∷ []

abbrev pub vschema_a : KeyspaceVschema
vschema_a = record { sharded = true; vindexes = vindexes_a; tables = tables_a; ignored = [] }

abbrev pub defs_a : List TableDef
defs_a = t1_def ∷ t1_u_idx_def ∷ t2_def ∷ t2_a_idx_def ∷ t2_b_idx_def ∷ []

abbrev pub parts_a : KeyspaceParts
parts_a = record { name = codes "commerce"; ring = halves; vschema = vschema_a; tables = defs_a }

-- ---- the catalog that they mean

abbrev pub table : TableDef → List ℕ → Vindex → List ColumnVindex → List ℕ → Table
table def key vindex column_vindexes lookups = record {
  name = def.name;
  keyspace = 0;
  in_schema = true;
  in_vschema = true;
  columns = def.columns;
  pk = key;
  primary = Some (record { column = 0; vindex = vindex });
  column_vindexes = column_vindexes;
  lookups = lookups;
}

abbrev pub t1 : Table
t1 = table t1_def (0 ∷ []) Numeric (column_vindex (codes "id") (codes "by_num") ∷ column_vindex (codes "u") (codes "t1_u") ∷ []) (0 ∷ [])

abbrev pub t1_u_idx : Table
t1_u_idx = table t1_u_idx_def (0 ∷ []) Numeric (column_vindex (codes "u") (codes "by_num") ∷ []) []

abbrev pub t2 : Table
t2 =
    table t2_def (0 ∷ []) Numeric
    (column_vindex (codes "id") (codes "by_num") ∷ column_vindex (codes "a") (codes "t2_a") ∷ column_vindex (codes "b") (codes "t2_b") ∷ [])
    (1 ∷ 2 ∷ [])

abbrev pub t2_a_idx : Table
t2_a_idx = table t2_a_idx_def (0 ∷ []) Numeric (column_vindex (codes "a") (codes "by_num") ∷ []) []

abbrev pub t2_b_idx : Table
t2_b_idx = table t2_b_idx_def (0 ∷ 1 ∷ []) BinaryMd5 (column_vindex (codes "b") (codes "by_md5") ∷ []) []

abbrev pub lookup : List ℕ → Bool → ℕ → Bool → ℕ → List ℕ → ℕ → List ℕ → List ℕ → ℕ → Lookup
lookup name unique column ignore_nulls owner owner_name table table_name from to = record {
  name = name;
  keyspace = 0;
  unique = unique;
  column = Some column;
  ignore_nulls = ignore_nulls;
  write_only = false;
  owner = Some owner;
  owner_name = owner_name;
  table = Some table;
  table_keyspace = None;
  table_name = table_name;
  from = from;
  to = Some to;
}

abbrev pub t1_u : Lookup
t1_u = lookup (codes "t1_u") true 1 true 0 (codes "t1") 1 (codes "t1_u_idx") (0 ∷ []) 1

abbrev pub t2_a : Lookup
t2_a = lookup (codes "t2_a") true 1 false 2 (codes "t2") 3 (codes "t2_a_idx") (0 ∷ []) 1

abbrev pub t2_b : Lookup
t2_b = lookup (codes "t2_b") false 2 true 2 (codes "t2") 4 (codes "t2_b_idx") (0 ∷ 1 ∷ []) 2

abbrev pub catalog_a : Catalog
catalog_a = record {
  keyspaces = record { name = codes "commerce"; sharded = true } ∷ [];
  tables = t1 ∷ t1_u_idx ∷ t2 ∷ t2_a_idx ∷ t2_b_idx ∷ [];
  lookups = t1_u ∷ t2_a ∷ t2_b ∷ [];
  rings = halves ∷ [];
}
