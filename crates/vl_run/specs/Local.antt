-- The result sets of the statements that read no table.
use Rattle.std.specs.Prelude.{◌≡◌, ℕ, Bool, true, false, List, [], ◌∷◌, map, filter, codes, IsPermutation, Option, Some, None, slice_get}
use Rattle.std.specs.Cmp.Lexicographic.{slice_cmp}
use Rattle.std.specs.List.Sorted.{IsSorted}
use Rattle.std.specs.Option.{option_map_or}
use Rattle.std.specs.Ordering.{nat_cmp}
use Rattle.std.specs.Str.{bytes_eq}
use Rattle.vl_values.specs.declared.col_type.ColType.TheVariants as types
use Rattle.vl_values.specs.declared.reply_column.ReplyColumn.{ReplyColumn}
use Rattle.vl_values.specs.declared.value.Value.{Value}
use Rattle.vl_values.specs.declared.value.Value.TheVariants.{Null, Uint, Bytes}
use Rattle.vl_values.specs.declared.warning.Warning.{Warning}
use Rattle.vl_values.specs.Warning.{warning_code, warning_text}
use Rattle.vl_sql.specs.declared.stmt.Stmt.{Stmt}
use Rattle.vl_sql.specs.declared.stmt.Stmt.TheVariants as stmts
use Rattle.vl_catalog.specs.declared.catalog.Catalog.{Catalog}
use Rattle.vl_catalog.specs.declared.keyspace.Keyspace.{Keyspace}
use Rattle.vl_catalog.specs.declared.table.Table.{Table}

-- a text that stands in no table, and a number that isn't NULL
abbrev pub text_column : List ℕ → ReplyColumn
text_column name = record { schema = []; table = []; name = name; ty = types.VarChar 255; flags = 0 }

abbrev pub number_column : List ℕ → ReplyColumn
number_column name = record { schema = []; table = []; name = name; ty = types.BigUint; flags = 33 }

-- one text a row
abbrev pub text_rows : List (List ℕ) → List (List Value)
text_rows texts = map (λ text. Bytes text ∷ []) texts

-- whether a table is of the chosen keyspace; without one each is
abbrev pub is_chosen : Catalog → Option (List ℕ) → Table → Bool
is_chosen catalog None table = true
is_chosen catalog (Some name) table = option_map_or (λ (keyspace : Keyspace). bytes_eq keyspace.name name) (slice_get catalog.keyspaces table.keyspace) false

abbrev pub tables_in : Catalog → Option (List ℕ) → List (List ℕ)
tables_in catalog chosen = map (λ (table : Table). table.name) (filter (is_chosen catalog chosen) catalog.tables)

-- the names by their bytes
pub record AreByBytes (names sorted : List (List ℕ)) : Type 0 where
  pub same : IsPermutation names sorted
  pub ordered : IsSorted (slice_cmp nat_cmp) sorted

abbrev pub warning_row : Warning → List Value
warning_row warning = Bytes (codes "Warning") ∷ Uint (warning_code warning) ∷ Bytes (warning_text warning) ∷ []

abbrev pub chosen_value : Option (List ℕ) → Value
chosen_value None = Null
chosen_value (Some name) = Bytes name

-- the columns and the rows of a statement that reads no table, where it has a result set
pub data IsLocal (catalog : Catalog) (chosen : Option (List ℕ)) (warnings : List Warning) : Stmt → List ReplyColumn → List (List Value) → Type 0 where
  Tables : (names : List (List ℕ)) (columns : List ReplyColumn) (rows : List (List Value)) → AreByBytes (tables_in catalog chosen) names → columns ≡ text_column (codes "Tables") ∷ [] → rows ≡ text_rows names
      → IsLocal catalog chosen warnings stmts.ShowTables columns rows
  Databases : (columns : List ReplyColumn) (rows : List (List Value)) → columns ≡ text_column (codes "Database") ∷ [] → rows ≡ text_rows (map (λ (keyspace : Keyspace). keyspace.name) catalog.keyspaces)
      → IsLocal catalog chosen warnings stmts.ShowDatabases columns rows
  Warnings : (columns : List ReplyColumn) (rows : List (List Value)) → columns ≡ text_column (codes "Level") ∷ number_column (codes "Code") ∷ text_column (codes "Message") ∷ [] → rows ≡ map warning_row warnings
      → IsLocal catalog chosen warnings stmts.ShowWarnings columns rows
  Version : (columns : List ReplyColumn) (rows : List (List Value)) → columns ≡ text_column (codes "@@version_comment") ∷ [] → rows ≡ text_rows (codes "vtgate_cl" ∷ [])
      → IsLocal catalog chosen warnings stmts.SelectVersionComment columns rows
  Database : (columns : List ReplyColumn) (rows : List (List Value)) → columns ≡ text_column (codes "DATABASE()") ∷ [] → rows ≡ (chosen_value chosen ∷ []) ∷ []
      → IsLocal catalog chosen warnings stmts.SelectDatabase columns rows
