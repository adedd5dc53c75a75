-- The grammar of a schema file: the items that each statement is spelled with.
--
-- Two languages share it: that of schema files, and a wider one that has more types, defaults and keys.
use Rattle.std.specs.Prelude.{◌≡◌, ℕ, zero, suc, Bool, true, false, not, ◌&&◌, List, [], ◌∷◌, ◌++◌, Option, Some, None, codes}
use Rattle.std.specs.List.{AllByRecursion, list_any, flat_map}
use Rattle.std.specs.Str.{bytes_eq}
use Rattle.vl_token.specs.Tok.{Tok}
use Rattle.vl_grammar.specs.Item.{Item, Spells, joined, in_brackets}
use Rattle.vl_grammar.specs.Item.Item.{Key, Name, Sign, Which}
use Rattle.vl_grammar.specs.Lists.{HasSome, AllInTurn}
use Rattle.vl_ddl.specs.Words.{is_word, is_index, is_other_key, is_other_type, is_label, is_number, is_length, is_other_default, is_option}
use Rattle.vl_ddl.specs.declared.number_type.NumberType.{NumberType}
use Rattle.vl_ddl.specs.declared.number_type.NumberType.TheVariants as numbers
use Rattle.vl_ddl.specs.declared.text_type.TextType.{TextType}
use Rattle.vl_ddl.specs.declared.text_type.TextType.TheVariants as texts
use Rattle.vl_ddl.specs.declared.declared_type.DeclaredType.{DeclaredType}
use Rattle.vl_ddl.specs.declared.declared_type.DeclaredType.TheVariants as types
use Rattle.vl_ddl.specs.declared.default_value.DefaultValue.{DefaultValue}
use Rattle.vl_ddl.specs.declared.default_value.DefaultValue.TheVariants as defaults
use Rattle.vl_ddl.specs.declared.column_options.ColumnOptions.{ColumnOptions}
use Rattle.vl_ddl.specs.declared.part.Part.{Part}
use Rattle.vl_ddl.specs.declared.part.Part.TheVariants.{Column, PrimaryKey, Index, OtherKey}

-- what may be missing
abbrev pub given : Bool → List Item → List Item
given false is = []
given true is = is

-- ---- types

abbrev pub number_word : NumberType → Item
number_word numbers.BigInt = Key (codes "BIGINT")
number_word numbers.Int = Key (codes "INT")
number_word numbers.Other = Which is_other_type

abbrev pub text_word : TextType → Item
text_word texts.VarChar = Key (codes "VARCHAR")
text_word texts.VarBinary = Key (codes "VARBINARY")

-- BIGINT [(width)] [UNSIGNED], VARCHAR (length)
abbrev pub type : DeclaredType → List Item
type (types.Number k width unsigned) = number_word k ∷ (given width (Sign 40 ∷ Which is_number ∷ Sign 41 ∷ []) ++ given unsigned (Key (codes "UNSIGNED") ∷ []))
type (types.Text k n) = text_word k ∷ Sign 40 ∷ Which (is_length n) ∷ Sign 41 ∷ []

-- ---- columns

abbrev pub nullable : Option Bool → List Item
nullable None = []
nullable (Some true) = Key (codes "NULL") ∷ []
nullable (Some false) = Key (codes "NOT") ∷ Key (codes "NULL") ∷ []

abbrev pub default_value : DefaultValue → Item
default_value defaults.Null = Key (codes "NULL")
default_value defaults.Other = Which is_other_default

abbrev pub default : Option DefaultValue → List Item
default None = []
default (Some d) = Key (codes "DEFAULT") ∷ default_value d ∷ []

abbrev pub auto_increment : Bool → List Item
auto_increment b = given b (Key (codes "AUTO_INCREMENT") ∷ [])

abbrev pub primary : Bool → List Item
primary b = given b (Key (codes "PRIMARY") ∷ Key (codes "KEY") ∷ [])

abbrev pub charset : Bool → List Item
charset b = given b (Key (codes "CHARACTER") ∷ Key (codes "SET") ∷ Which is_word ∷ [])

abbrev pub collation : Bool → List Item
collation b = given b (Key (codes "COLLATE") ∷ Which is_word ∷ [])

abbrev pub unique : Bool → List Item
unique b = given b (Key (codes "UNIQUE") ∷ [])

-- in this order; UNIQUE ends them, in the wider language
abbrev pub options : ColumnOptions → List Item
options o =
    nullable o.nullable ++ (default o.default ++ (auto_increment o.auto_increment ++ (primary o.primary ++ (charset o.charset ++ (collation o.collation ++ unique o.unique)))))

-- ---- parts of a table

abbrev pub comma : Item
comma = Sign 44

abbrev pub name : List ℕ → List Item
name n = Name n ∷ []

-- (name, ..)
abbrev pub columns : List (List ℕ) → List Item
columns ns = in_brackets (joined comma name ns)

abbrev pub part : Part → List Item
part (Column c) = Which (is_label c.name) ∷ (type c.ty ++ options c.options)
part (PrimaryKey ns) = Key (codes "PRIMARY") ∷ Key (codes "KEY") ∷ columns ns
part (Index n ns) = Which is_index ∷ Name n ∷ columns ns
part OtherKey = Which is_other_key ∷ []

-- the columns' names, and whether there is a primary key
abbrev pub names_in : Part → List (List ℕ)
names_in (Column c) = c.name ∷ []
names_in _ = []

abbrev pub column_names : List Part → List (List ℕ)
column_names ps = flat_map names_in ps

abbrev pub is_primary : Part → Bool
is_primary (Column c) = c.options.primary
is_primary (PrimaryKey ns) = true
is_primary _ = false

abbrev pub has_key : List Part → Bool
has_key ps = list_any is_primary ps

abbrev pub AreDistinct : List (List ℕ) → Type 0
AreDistinct ns = AllInTurn (λ before n. list_any (bytes_eq n) before ≡ false) [] ns

abbrev pub FitsType : Bool → DeclaredType → Type 0
FitsType wide (types.Number numbers.Other width unsigned) = wide ≡ true
FitsType wide _ = Unit {0}

abbrev pub FitsDefault : Bool → Option DefaultValue → Type 0
FitsDefault wide (Some defaults.Other) = wide ≡ true
FitsDefault wide _ = Unit {0}

abbrev pub FitsUnique : Bool → Bool → Type 0
FitsUnique wide unique = (not wide && unique) ≡ false

-- behind these names of columns, and behind a primary key or not
abbrev pub Fits : Bool → List (List ℕ) → Bool → Part → Type 0
Fits wide names has (Column c) = (list_any (bytes_eq c.name) names ≡ false) × FitsType wide c.ty × FitsDefault wide c.options.default × ((has && c.options.primary) ≡ false) × FitsUnique wide c.options.unique
Fits wide names has (PrimaryKey ns) = (has ≡ false) × HasSome ns × AreDistinct ns
Fits wide names has (Index n ns) = HasSome ns
Fits wide names has OtherKey = wide ≡ true

-- no column twice, and one primary key at most
abbrev pub FitsPart : Bool → List Part → Part → Type 0
FitsPart wide before p = Fits wide (column_names before) (has_key before) p

-- ---- tables

-- a token of the table's options
pub data Piece : Type 0 where
  Open : Piece
  Shut : Piece
  Plain : Piece

abbrev pub piece : Piece → Item
piece Piece.Open = Sign 40
piece Piece.Shut = Sign 41
piece Piece.Plain = Which is_option

abbrev pub pieces : List Piece → List Item
pieces [] = []
pieces (p ∷ ps) = piece p ∷ pieces ps

-- with so many brackets open
abbrev pub are_matched : ℕ → List Piece → Bool
are_matched zero [] = true
are_matched (suc n) [] = false
are_matched n (Piece.Open ∷ ps) = are_matched (suc n) ps
are_matched zero (Piece.Shut ∷ ps) = false
are_matched (suc n) (Piece.Shut ∷ ps) = are_matched n ps
are_matched n (Piece.Plain ∷ ps) = are_matched n ps

pub record Table : Type 0 where
  pub if_not_exists : Bool
  pub name : List ℕ
  pub parts : List Part
  pub options : List Piece

-- CREATE TABLE [IF NOT EXISTS] name (part, ..) [options] ;
abbrev pub table : Table → List Item
table t =
    Key (codes "CREATE") ∷ Key (codes "TABLE") ∷ (given t.if_not_exists (Key (codes "IF") ∷ Key (codes "NOT") ∷ Key (codes "EXISTS") ∷ [])
    ++ Name t.name ∷ (in_brackets (joined comma part t.parts) ++ (pieces t.options ++ Sign 59 ∷ [])))

abbrev pub FitsTable : Bool → Table → Type 0
FitsTable wide t = (HasSome t.parts × AllInTurn (FitsPart wide) [] t.parts) × (are_matched 0 t.options ≡ true)

-- these tokens are these statements
abbrev pub IsSchema : Bool → List Table → List Tok → Type 0
IsSchema wide ss ts = AllByRecursion (FitsTable wide) ss × Spells (flat_map table ss) ts
