-- The columns of a result set.
use Rattle.std.specs.Prelude.{ℕ, ◌+◌, Bool, not, List, [], ◌∷◌, codes, length, if◌then◌else◌, slice_get, ◌==◌, Option}
use Rattle.std.specs.List.{filter_map, list_any, range_with_len}
use Rattle.std.specs.Option.{option_map, option_map_or}
use Rattle.vl_values.specs.declared.col_type.ColType.{ColType}
use Rattle.vl_values.specs.declared.col_type.ColType.TheVariants as types
use Rattle.vl_values.specs.declared.reply_column.ReplyColumn.{ReplyColumn}
use Rattle.vl_catalog.specs.declared.catalog.Catalog.{Catalog}
use Rattle.vl_catalog.specs.declared.column.Column.{Column}
use Rattle.vl_catalog.specs.declared.keyspace.Keyspace.{Keyspace}
use Rattle.vl_catalog.specs.declared.table.Table.{Table}
use Rattle.vl_plan.specs.declared.projection.Projection.{Projection}
use Rattle.vl_plan.specs.declared.projection.Projection.TheVariants as projections

-- ---- the flags of a column of a table

abbrev pub unsigned_flag : ColType → ℕ
unsigned_flag types.BigInt = 0
unsigned_flag types.BigUint = 32
unsigned_flag types.Int = 0
unsigned_flag types.Uint32 = 32
unsigned_flag (types.VarChar n) = 0
unsigned_flag (types.VarBinary n) = 0

abbrev pub flag : ℕ → Bool → ℕ
flag bit is = if is then bit else 0

-- 1 for a column that isn't NULL, 2 for one of the primary key, 32 for an unsigned number
abbrev pub flags_of : Table → ℕ → Column → ℕ
flags_of table n column = flag 1 (not column.nullable) + flag 2 (list_any (λ k. k == n) table.pk) + unsigned_flag column.ty

-- ---- columns

abbrev pub keyspace_name : Catalog → ℕ → List ℕ
keyspace_name catalog k = option_map_or (λ (keyspace : Keyspace). keyspace.name) (slice_get catalog.keyspaces k) []

abbrev pub column_of : Catalog → Table → ℕ → Column → ReplyColumn
column_of catalog table n column = record { schema = keyspace_name catalog table.keyspace; table = table.name; name = column.name; ty = column.ty; flags = flags_of table n column }

-- column n of a table, if it exists
abbrev pub column_at : Catalog → Table → ℕ → Option ReplyColumn
column_at catalog table n = option_map (column_of catalog table n) (slice_get table.columns n)

-- an unsigned number that isn't NULL, and is of no table
abbrev pub count_column : ReplyColumn
count_column = record { schema = []; table = []; name = codes "COUNT(*)"; ty = types.BigUint; flags = 33 }

abbrev pub columns_in : Catalog → Projection → Table → List ReplyColumn
columns_in catalog projections.All table = filter_map (column_at catalog table) (range_with_len 0 (length table.columns))
columns_in catalog projections.Count table = count_column ∷ []
columns_in catalog (projections.Columns numbers) table = filter_map (column_at catalog table) numbers

-- those of a SELECT from the table of this number
abbrev pub columns_of : Catalog → ℕ → Projection → List ReplyColumn
columns_of catalog number what = option_map_or (columns_in catalog what) (slice_get catalog.tables number) []
