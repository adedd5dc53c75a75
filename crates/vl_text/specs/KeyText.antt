-- The text of a key: its values as they are shown, with `, ` between each two.
use Rattle.std.specs.Prelude.{ℕ, List, codes, slice_get}
use Rattle.std.specs.Option.{option_map_or}
use Rattle.vl_values.specs.declared.col_type.ColType.{ColType}
use Rattle.vl_values.specs.declared.col_type.ColType.TheVariants.{VarBinary}
use Rattle.vl_values.specs.declared.key.Key.{Key}
use Rattle.vl_catalog.specs.declared.catalog.Catalog.{Catalog}
use Rattle.vl_catalog.specs.declared.column.Column.{Column}
use Rattle.vl_catalog.specs.declared.table.Table.{Table}
use Rattle.vl_text.specs.Listed.{listed}
use Rattle.vl_text.specs.Shown.{shown}

-- the type of a column that doesn't exist, whose bytes aren't known to be a text
abbrev pub unknown_type : ColType
unknown_type = VarBinary 0

abbrev pub column_type : List Column → ℕ → ColType
column_type columns column = option_map_or (λ (c : Column). c.ty) (slice_get columns column) unknown_type

-- the type of the table's key column n
abbrev pub key_type_in : ℕ → Table → ColType
key_type_in n table = option_map_or (column_type table.columns) (slice_get table.pk n) unknown_type

-- the same of the table of a number
abbrev pub key_type : Catalog → ℕ → ℕ → ColType
key_type catalog table n = option_map_or (key_type_in n) (slice_get catalog.tables table) unknown_type

abbrev pub key_text : Catalog → Key → List ℕ
key_text catalog key = listed (codes ", ") (λ n. shown (key_type catalog key.table n)) key.pk
