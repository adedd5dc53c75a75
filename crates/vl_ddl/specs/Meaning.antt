-- What a CREATE TABLE statement means.
use Rattle.std.specs.Prelude.{ℕ, Bool, true, false, not, ◌&&◌, ◌||◌, if◌then◌else◌, List, [], ◌∷◌, ◌++◌, Option, Some, None}
use Rattle.std.specs.List.{list_any, flat_map}
use Rattle.std.specs.Str.{bytes_eq}
use Rattle.vl_values.specs.declared.col_type.ColType.{ColType}
use Rattle.vl_values.specs.declared.col_type.ColType.TheVariants as cols
use Rattle.vl_catalog.specs.declared.column.Column.{Column as ACol}
use Rattle.vl_catalog.specs.declared.table_def.TableDef.{TableDef}
use Rattle.vl_ddl.specs.declared.number_type.NumberType.TheVariants as numbers
use Rattle.vl_ddl.specs.declared.text_type.TextType.TheVariants as texts
use Rattle.vl_ddl.specs.declared.declared_type.DeclaredType.{DeclaredType}
use Rattle.vl_ddl.specs.declared.declared_type.DeclaredType.TheVariants as types
use Rattle.vl_ddl.specs.declared.column_options.ColumnOptions.{ColumnOptions}
use Rattle.vl_ddl.specs.declared.column_part.ColumnPart.{ColumnPart}
use Rattle.vl_ddl.specs.declared.part.Part.{Part}
use Rattle.vl_ddl.specs.declared.part.Part.TheVariants.{Column, PrimaryKey, Index}
use Rattle.vl_ddl.specs.declared.statement.Statement.{Statement}
use Rattle.vl_ddl.specs.Grammar.{Piece, Table}

-- a type of the wider language means nothing
abbrev pub type_of : DeclaredType → ColType
type_of (types.Number numbers.BigInt width false) = cols.BigInt
type_of (types.Number numbers.BigInt width true) = cols.BigUint
type_of (types.Number numbers.Int width false) = cols.Int
type_of (types.Number numbers.Int width true) = cols.Uint32
type_of (types.Number numbers.Other width unsigned) = cols.BigInt
type_of (types.Text texts.VarChar n) = cols.VarChar n
type_of (types.Text texts.VarBinary n) = cols.VarBinary n

-- the names of the primary key's columns, in its order
abbrev pub key_in : Part → List (List ℕ)
key_in (Column c) = if c.options.primary then c.name ∷ [] else []
key_in (PrimaryKey ns) = ns
key_in _ = []

abbrev pub key_of : List Part → List (List ℕ)
key_of ps = flat_map key_in ps

abbrev pub may_be_null : Option Bool → Bool
may_be_null None = true
may_be_null (Some b) = b

-- a column of the primary key is NOT NULL, whatever stands there
abbrev pub column_of : List (List ℕ) → ColumnPart → ACol
column_of key c = record { name = c.name; ty = type_of c.ty; nullable = may_be_null c.options.nullable && not (list_any (bytes_eq c.name) key) }

abbrev pub column_in : List (List ℕ) → Part → List ACol
column_in key (Column c) = column_of key c ∷ []
column_in key _ = []

-- TABLE/NAME
abbrev pub path : List ℕ → List ℕ → List ℕ
path table name = table ++ 47 ∷ name

-- AUTO_INCREMENT, a character set or a collation
abbrev pub is_noted : ColumnOptions → Bool
is_noted o = o.auto_increment || (o.charset || o.collation)

abbrev pub ignored_in : List ℕ → Part → List (List ℕ)
ignored_in table (Column c) = if is_noted c.options then path table c.name ∷ [] else []
ignored_in table (Index n ns) = path table n ∷ []
ignored_in table _ = []

-- what is ignored, in the order of the text, and then the table where it has options
abbrev pub ignored_of : Statement → List (List ℕ)
ignored_of s = flat_map (ignored_in s.name) s.parts ++ (if s.options then s.name ∷ [] else [])

unfoldable pub defined : Statement → TableDef
defined s = record { name = s.name; columns = flat_map (column_in (key_of s.parts)) s.parts; key = key_of s.parts; ignored = ignored_of s }

abbrev pub has_pieces : List Piece → Bool
has_pieces [] = false
has_pieces (p ∷ ps) = true

-- a statement without what means nothing
abbrev pub statement_of : Table → Statement
statement_of t = record { name = t.name; parts = t.parts; options = has_pieces t.options }

abbrev pub meaning : Table → TableDef
meaning t = defined (statement_of t)
