-- The catalog that the parts of its keyspaces mean: names become places, and a name that stands for
-- nothing has none.
use Rattle.std.specs.Prelude.{ℕ, ◌+◌, Bool, true, false, not, ◌&&◌, ◌==◌, List, [], ◌∷◌, ◌++◌, length, map, filter, find, fold, position, slice_get, unwrap_or, option_and_then, Option, Some, None, is_some, if◌then◌else◌, nat_eq}
use Rattle.std.specs.Cmp.Lexicographic.{pointwise}
use Rattle.std.specs.List.{filter_map, list_any}
use Rattle.std.specs.Option.{option_map}
use Rattle.std.specs.Str.{bytes_eq}
use Rattle.vl_catalog.specs.declared.catalog.Catalog.{Catalog}
use Rattle.vl_catalog.specs.declared.column.Column.{Column}
use Rattle.vl_catalog.specs.declared.column_vindex.ColumnVindex.{ColumnVindex}
use Rattle.vl_catalog.specs.declared.keyspace.Keyspace.{Keyspace}
use Rattle.vl_catalog.specs.declared.keyspace_parts.KeyspaceParts.{KeyspaceParts}
use Rattle.vl_catalog.specs.declared.keyspace_vschema.KeyspaceVschema.{KeyspaceVschema}
use Rattle.vl_catalog.specs.declared.lookup.Lookup.{Lookup}
use Rattle.vl_catalog.specs.declared.lookup_def.LookupDef.{LookupDef}
use Rattle.vl_catalog.specs.declared.lookup_id.LookupId.{LookupId}
use Rattle.vl_catalog.specs.declared.primary.Primary.{Primary}
use Rattle.vl_catalog.specs.declared.table.Table.{Table}
use Rattle.vl_catalog.specs.declared.table_def.TableDef.{TableDef}
use Rattle.vl_catalog.specs.declared.table_vschema.TableVschema.{TableVschema}
use Rattle.vl_catalog.specs.declared.vindex_def.VindexDef.{VindexDef}
use Rattle.vl_catalog.specs.declared.vindex_def.VindexKind.{VindexKind}
use Rattle.vl_catalog.specs.declared.vindex_def.VindexKind.TheVariants.{Primary as APrimary, Lookup as ALookup}

abbrev pub Names : Type 0
Names = List (List ℕ)

-- ---- columns

-- the place of the column of this name
abbrev pub column_number : List Column → List ℕ → Option ℕ
column_number columns name = position (λ column. bytes_eq column.name name) columns

-- all the numbers, where none is missing
abbrev pub all_numbers : List (Option ℕ) → Option (List ℕ)
all_numbers [] = Some []
all_numbers (None ∷ rest) = None
all_numbers (Some n ∷ rest) = option_map (λ numbers. n ∷ numbers) (all_numbers rest)

-- the places of the columns of these names; none where one of them doesn't exist
abbrev pub column_numbers : List Column → Names → List ℕ
column_numbers columns names = unwrap_or (all_numbers (map (column_number columns) names)) []

-- ---- tables, but for their lookups

abbrev pub kind_of : List VindexDef → List ℕ → Option VindexKind
kind_of vindexes name = option_map (λ vindex. vindex.kind) (find (λ vindex. bytes_eq vindex.name name) vindexes)

abbrev pub primary_by : Option VindexKind → Option ℕ → Option Primary
primary_by (Some (APrimary vindex)) (Some column) = Some (record { column = column; vindex = vindex })
primary_by _ _ = None

-- the column of a column vindex that has one
abbrev pub one_column : List Column → Names → Option ℕ
one_column columns (name ∷ []) = column_number columns name
one_column columns _ = None

-- the first column vindex gives the primary vindex, where its vindex is none that looks up and its
-- one column exists
abbrev pub primary_of : List VindexDef → List Column → List ColumnVindex → Option Primary
primary_of vindexes columns column_vindexes =
    option_and_then (λ (first : ColumnVindex). primary_by (kind_of vindexes first.vindex) (one_column columns first.columns))
    (slice_get column_vindexes 0)

abbrev pub vschema_of : List TableVschema → List ℕ → Option TableVschema
vschema_of tables name = find (λ table. bytes_eq table.name name) tables

abbrev pub column_vindexes_of : Option TableVschema → List ColumnVindex
column_vindexes_of None = []
column_vindexes_of (Some table) = table.column_vindexes

-- a table of the schema file, with what the VSchema says of it
abbrev pub defined_table : ℕ → KeyspaceVschema → TableDef → Table
defined_table k vschema def = record {
  name = def.name;
  keyspace = k;
  in_schema = true;
  in_vschema = is_some (vschema_of vschema.tables def.name);
  columns = def.columns;
  pk = column_numbers def.columns def.key;
  primary = primary_of vschema.vindexes def.columns (column_vindexes_of (vschema_of vschema.tables def.name));
  column_vindexes = column_vindexes_of (vschema_of vschema.tables def.name);
  lookups = [];
}

-- a table that stands in the VSchema alone
abbrev pub undefined_table : ℕ → TableVschema → Table
undefined_table k table = record {
  name = table.name;
  keyspace = k;
  in_schema = false;
  in_vschema = true;
  columns = [];
  pk = [];
  primary = None;
  column_vindexes = table.column_vindexes;
  lookups = [];
}

abbrev pub is_defined : List TableDef → List ℕ → Bool
is_defined defs name = list_any (λ def. bytes_eq def.name name) defs

-- the tables of the schema file in its order, then those of the VSchema alone
abbrev pub tables_of : ℕ → KeyspaceParts → List Table
tables_of k parts = map (defined_table k parts.vschema) parts.tables
    ++ map (undefined_table k) (filter (λ table. not (is_defined parts.tables table.name)) parts.vschema.tables)

-- the keyspaces from the one at k on
abbrev pub tables_from : ℕ → List KeyspaceParts → List Table
tables_from k [] = []
tables_from k (parts ∷ rest) = tables_of k parts ++ tables_from (k + 1) rest

-- ---- the numbers of lookups

-- which vindex of its keyspace's VSchema a lookup is
abbrev pub is_id : LookupId → LookupId → Bool
is_id a b = (a.keyspace == b.keyspace) && (a.vindex == b.vindex)

abbrev pub is_lookup_kind : VindexKind → Bool
is_lookup_kind (APrimary vindex) = false
is_lookup_kind (ALookup def) = true

abbrev pub is_lookup : Option VindexDef → Bool
is_lookup None = false
is_lookup (Some vindex) = is_lookup_kind vindex.kind

-- the lookup at this place of a keyspace's vindexes
abbrev pub id_at : ℕ → List VindexDef → ℕ → Option LookupId
id_at k vindexes v = if is_lookup (slice_get vindexes v) then Some (record { keyspace = k; vindex = v }) else None

abbrev pub vindex_number : List VindexDef → List ℕ → Option ℕ
vindex_number vindexes name = position (λ vindex. bytes_eq vindex.name name) vindexes

-- the lookup of this name in a keyspace
abbrev pub id_of : ℕ → List VindexDef → List ℕ → Option LookupId
id_of k vindexes name = option_and_then (id_at k vindexes) (vindex_number vindexes name)

abbrev pub vindexes_by : Option KeyspaceParts → List VindexDef
vindexes_by None = []
vindexes_by (Some part) = part.vschema.vindexes

-- the vindexes of keyspace k
abbrev pub vindexes_in : List KeyspaceParts → ℕ → List VindexDef
vindexes_in parts k = vindexes_by (slice_get parts k)

abbrev pub has_id : List LookupId → LookupId → Bool
has_id ids id = list_any (λ other. is_id other id) ids

-- a lookup has the next number, where it has none yet
abbrev pub with_id : List LookupId → Option LookupId → List LookupId
with_id ids None = ids
with_id ids (Some id) = if has_id ids id then ids else ids ++ id ∷ []

abbrev pub with_vindex : ℕ → List VindexDef → List LookupId → ColumnVindex → List LookupId
with_vindex k vindexes ids vindex = with_id ids (id_of k vindexes vindex.vindex)

-- the lookups that a table lists, in the order of its column vindexes
abbrev pub with_listed : List KeyspaceParts → List LookupId → Table → List LookupId
with_listed parts ids table = fold (with_vindex table.keyspace (vindexes_in parts table.keyspace)) ids table.column_vindexes

-- those that tables list come first, table by table
abbrev pub ids_listed : List KeyspaceParts → List Table → List LookupId
ids_listed parts tables = fold (with_listed parts) [] tables

-- then those that none lists, in the order of a keyspace's vindexes
abbrev pub with_def : ℕ → List VindexDef → List LookupId → VindexDef → List LookupId
with_def k vindexes ids vindex = with_id ids (id_of k vindexes vindex.name)

abbrev pub with_declared : ℕ → List VindexDef → List LookupId → List LookupId
with_declared k vindexes ids = fold (with_def k vindexes) ids vindexes

-- keyspace by keyspace, from the one at k on
abbrev pub declared_from : ℕ → List KeyspaceParts → List LookupId → List LookupId
declared_from k [] ids = ids
declared_from k (part ∷ rest) ids = declared_from (k + 1) rest (with_declared k part.vschema.vindexes ids)

abbrev pub lookup_ids : List KeyspaceParts → List Table → List LookupId
lookup_ids parts tables = declared_from 0 parts (ids_listed parts tables)

abbrev pub place_of : List LookupId → LookupId → Option ℕ
place_of ids id = position (λ other. is_id other id) ids

abbrev pub number_of : List LookupId → Option LookupId → Option ℕ
number_of ids None = None
number_of ids (Some id) = place_of ids id

-- the number of the lookup that a column vindex of keyspace k names
abbrev pub number_listed : List LookupId → ℕ → List VindexDef → ColumnVindex → Option ℕ
number_listed ids k vindexes vindex = number_of ids (id_of k vindexes vindex.vindex)

-- the numbers of the lookups that a table lists
abbrev pub lookups_of : List KeyspaceParts → List LookupId → Table → List ℕ
lookups_of parts ids table = filter_map (number_listed ids table.keyspace (vindexes_in parts table.keyspace)) table.column_vindexes

-- ---- lookups

abbrev pub is_table : ℕ → List ℕ → Table → Bool
is_table k name table = (table.keyspace == k) && bytes_eq table.name name

abbrev pub table_number : List Table → ℕ → List ℕ → Option ℕ
table_number tables k name = position (is_table k name) tables

abbrev pub keyspace_number : List KeyspaceParts → List ℕ → Option ℕ
keyspace_number parts name = position (λ part. bytes_eq part.name name) parts

-- the keyspace that is named, or else the lookup's own
abbrev pub keyspace_by : List KeyspaceParts → ℕ → Option (List ℕ) → Option ℕ
keyspace_by parts k None = Some k
keyspace_by parts k (Some name) = keyspace_number parts name

-- the table of this name in the keyspace, if there is one
abbrev pub table_in : List Table → Option ℕ → List ℕ → Option ℕ
table_in tables None name = None
table_in tables (Some k) name = table_number tables k name

abbrev pub table_at : List Table → Option ℕ → Option Table
table_at tables number = option_and_then (slice_get tables) number

abbrev pub columns_of : Option Table → List Column
columns_of None = []
columns_of (Some table) = table.columns

-- the primary key's columns other than this one
abbrev pub other_keys : List ℕ → Option ℕ → List ℕ
other_keys key None = key
other_keys key (Some n) = filter (λ m. not (m == n)) key

-- the names are the owner's primary key columns other than this column, in their order
abbrev pub is_key_rest : Option Table → List ℕ → Names → Bool
is_key_rest None column rest = false
is_key_rest (Some owner) column rest =
    pointwise nat_eq (column_numbers owner.columns rest) (other_keys owner.pk (column_number owner.columns column))
    && (length rest == length (other_keys owner.pk (column_number owner.columns column)))

-- a `consistent_lookup` may name behind its column the owner's primary key columns other than it, which
-- means the same as its column alone
abbrev pub meant_columns : Bool → Option Table → Names → Names
meant_columns unique owner [] = []
meant_columns unique owner (column ∷ rest) = if not unique && is_key_rest owner column rest then column ∷ [] else column ∷ rest

abbrev pub has_vindex : List ℕ → ColumnVindex → Bool
has_vindex name vindex = bytes_eq vindex.vindex name

abbrev pub lists : ℕ → List ℕ → Table → Bool
lists k name table = (table.keyspace == k) && list_any (has_vindex name) table.column_vindexes

-- the first table that lists the lookup
abbrev pub listing : List Table → ℕ → List ℕ → Option Table
listing tables k name = find (lists k name) tables

abbrev pub columns_by : Option ColumnVindex → Names
columns_by None = []
columns_by (Some vindex) = vindex.columns

abbrev pub columns_listed : List ColumnVindex → List ℕ → Names
columns_listed vindexes name = columns_by (find (has_vindex name) vindexes)

-- the one column by which the table lists the lookup
abbrev pub column_in : Option Table → Bool → Option Table → List ℕ → Option ℕ
column_in None unique owner name = None
column_in (Some table) unique owner name = one_column table.columns (meant_columns unique owner (columns_listed table.column_vindexes name))

-- the lookup of this name that the VSchema of keyspace k defines
abbrev pub lookup_by : List KeyspaceParts → List Table → ℕ → List ℕ → LookupDef → Lookup
lookup_by parts tables k name def =
    let owner = table_number tables k def.owner in
    let table = table_in tables (keyspace_by parts k def.keyspace) def.table in
    let columns = columns_of (table_at tables table) in
    record {
      name = name;
      keyspace = k;
      unique = def.unique;
      column = column_in (listing tables k name) def.unique (table_at tables owner) name;
      ignore_nulls = def.ignore_nulls;
      write_only = def.write_only;
      owner = owner;
      owner_name = def.owner;
      table = table;
      table_keyspace = def.keyspace;
      table_name = def.table;
      from = column_numbers columns def.from;
      to = column_number columns def.to;
    }

abbrev pub lookup_of_kind : List KeyspaceParts → List Table → ℕ → List ℕ → VindexKind → Option Lookup
lookup_of_kind parts tables k name (APrimary vindex) = None
lookup_of_kind parts tables k name (ALookup def) = Some (lookup_by parts tables k name def)

abbrev pub lookup_of : List KeyspaceParts → List Table → LookupId → Option Lookup
lookup_of parts tables id =
    option_and_then (λ (vindex : VindexDef). lookup_of_kind parts tables id.keyspace vindex.name vindex.kind)
    (slice_get (vindexes_in parts id.keyspace) id.vindex)

-- ---- the catalog

abbrev pub with_lookups : List KeyspaceParts → List LookupId → Table → Table
with_lookups parts ids table = record table { lookups = lookups_of parts ids table }

abbrev pub keyspace_of : KeyspaceParts → Keyspace
keyspace_of part = record { name = part.name; sharded = part.vschema.sharded }

abbrev pub catalog_by : List KeyspaceParts → List Table → List LookupId → Catalog
catalog_by parts tables ids = record {
  keyspaces = map keyspace_of parts;
  tables = map (with_lookups parts ids) tables;
  lookups = filter_map (lookup_of parts tables) ids;
  rings = map (λ part. part.ring) parts;
}

abbrev pub catalog_of : List KeyspaceParts → Catalog
catalog_of parts = catalog_by parts (tables_from 0 parts) (lookup_ids parts (tables_from 0 parts))
