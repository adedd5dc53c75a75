-- Reading a schema file from the front on, rule by rule, as the program does. `wide` is the wider language.
use Rattle.std.specs.Prelude.{ℕ, zero, suc, nat_lt, Bool, true, false, ◌&&◌, if◌then◌else◌, List, [], ◌∷◌, ◌++◌, length, Option, Some, None, Result, Ok, Err, codes}
use Rattle.std.specs.List.{list_any}
use Rattle.std.specs.Option.{option_and_then}
use Rattle.std.specs.Str.{bytes_eq}
use Rattle.vl_token.specs.Tok.{Tok}
use Rattle.vl_grammar.specs.Terminal.{is_key, is_mark, key, mark, name_of, new_name, when}
use Rattle.vl_grammar.specs.Reading.{Read, ◌>>=◌, one, starts, behind, either_way, items}
use Rattle.vl_ddl.specs.Words.{is_comma, is_word, is_index, is_other_key, is_text_type, is_other_type, is_number, length_of, is_other_default, is_option}
use Rattle.vl_ddl.specs.Grammar.{column_names, has_key}
use Rattle.vl_ddl.specs.declared.number_type.NumberType.{NumberType}
use Rattle.vl_ddl.specs.declared.number_type.NumberType.TheVariants as numbers
use Rattle.vl_ddl.specs.declared.text_type.TextType.{TextType}
use Rattle.vl_ddl.specs.declared.text_type.TextType.TheVariants as texts
use Rattle.vl_ddl.specs.declared.declared_type.DeclaredType.{DeclaredType}
use Rattle.vl_ddl.specs.declared.declared_type.DeclaredType.TheVariants as types
use Rattle.vl_ddl.specs.declared.default_value.DefaultValue.{DefaultValue}
use Rattle.vl_ddl.specs.declared.default_value.DefaultValue.TheVariants as defaults
use Rattle.vl_ddl.specs.declared.column_options.ColumnOptions.{ColumnOptions}
use Rattle.vl_ddl.specs.declared.opening.Opening.{Opening}
use Rattle.vl_ddl.specs.declared.opening.Opening.TheVariants as openings
use Rattle.vl_ddl.specs.declared.part.Part.{Part}
use Rattle.vl_ddl.specs.declared.part.Part.TheVariants.{Column, PrimaryKey, Index, OtherKey}
use Rattle.vl_ddl.specs.declared.statement.Statement.{Statement}

-- ---- lists of names

unfoldable pub names_at : List Tok → Read (List (List ℕ))
names_at ts = items is_comma (λ _ rest. one name_of rest) (length ts) [] ts

unfoldable pub new_names_at : List Tok → Read (List (List ℕ))
new_names_at ts = items is_comma (λ before rest. one (new_name before) rest) (length ts) [] ts

-- (name, ..)
unfoldable pub columns_at : List Tok → Read (List (List ℕ))
columns_at ts = do
  open_ ← one (mark 40) ts
  ns ← names_at open_.1
  shut ← one (mark 41) ns.1
  Ok (ns.0, shut.1)

-- (name, ..), no name twice
unfoldable pub key_columns_at : List Tok → Read (List (List ℕ))
key_columns_at ts = do
  open_ ← one (mark 40) ts
  ns ← new_names_at open_.1
  shut ← one (mark 41) ns.1
  Ok (ns.0, shut.1)

-- ---- types

abbrev pub number_type_of : Bool → Tok → Option NumberType
number_type_of wide t =
    if is_key (codes "BIGINT") t then Some numbers.BigInt
    else if is_key (codes "INT") t then Some numbers.Int
    else if wide && is_other_type t then Some numbers.Other
    else None

abbrev pub text_type_of : Tok → Option TextType
text_type_of t =
    if is_key (codes "VARCHAR") t then Some texts.VarChar
    else if is_key (codes "VARBINARY") t then Some texts.VarBinary
    else None

abbrev pub number : Tok → Option (Unit {0})
number t = when (is_number t)

abbrev pub word : Tok → Option (Unit {0})
word t = when (is_word t)

unfoldable pub width_at : List Tok → Read Bool
width_at ts =
    if starts (is_mark 40) ts
    then (do
      open_ ← one (mark 40) ts
      n ← one number open_.1
      shut ← one (mark 41) n.1
      Ok (true, shut.1))
    else Ok (false, ts)

unfoldable pub unsigned_at : List Tok → Read Bool
unsigned_at ts =
    if starts (is_key (codes "UNSIGNED")) ts
    then (do
      u ← one (key (codes "UNSIGNED")) ts
      Ok (true, u.1))
    else Ok (false, ts)

unfoldable pub number_type_at : Bool → List Tok → Read DeclaredType
number_type_at wide ts = do
  k ← one (number_type_of wide) ts
  width ← width_at k.1
  unsigned ← unsigned_at width.1
  Ok (types.Number k.0 width.0 unsigned.0, unsigned.1)

unfoldable pub text_type_at : List Tok → Read DeclaredType
text_type_at ts = do
  k ← one text_type_of ts
  open_ ← one (mark 40) k.1
  n ← one length_of open_.1
  shut ← one (mark 41) n.1
  Ok (types.Text k.0 n.0, shut.1)

unfoldable pub type_at : Bool → List Tok → Read DeclaredType
type_at wide ts = if starts is_text_type ts then text_type_at ts else number_type_at wide ts

-- ---- options of a column

unfoldable pub nullable_at : List Tok → Read (Option Bool)
nullable_at ts =
    if starts (is_key (codes "NULL")) ts
    then (do
      null ← one (key (codes "NULL")) ts
      Ok (Some true, null.1))
    else if starts (is_key (codes "NOT")) ts
    then (do
      not_ ← one (key (codes "NOT")) ts
      null ← one (key (codes "NULL")) not_.1
      Ok (Some false, null.1))
    else Ok (None, ts)

abbrev pub default_of : Bool → Tok → Option DefaultValue
default_of wide t =
    if is_key (codes "NULL") t then Some defaults.Null
    else if wide && is_other_default t then Some defaults.Other
    else None

unfoldable pub default_at : Bool → List Tok → Read (Option DefaultValue)
default_at wide ts =
    if starts (is_key (codes "DEFAULT")) ts
    then (do
      d ← one (key (codes "DEFAULT")) ts
      v ← one (default_of wide) d.1
      Ok (Some v.0, v.1))
    else Ok (None, ts)

unfoldable pub auto_increment_at : List Tok → Read Bool
auto_increment_at ts =
    if starts (is_key (codes "AUTO_INCREMENT")) ts
    then (do
      a ← one (key (codes "AUTO_INCREMENT")) ts
      Ok (true, a.1))
    else Ok (false, ts)

-- none behind another primary key
unfoldable pub primary_at : Bool → List Tok → Read Bool
primary_at true ts = Ok (false, ts)
primary_at false ts =
    if starts (is_key (codes "PRIMARY")) ts
    then (do
      p ← one (key (codes "PRIMARY")) ts
      k ← one (key (codes "KEY")) p.1
      Ok (true, k.1))
    else Ok (false, ts)

unfoldable pub charset_at : List Tok → Read Bool
charset_at ts =
    if starts (is_key (codes "CHARACTER")) ts
    then (do
      c ← one (key (codes "CHARACTER")) ts
      s ← one (key (codes "SET")) c.1
      w ← one word s.1
      Ok (true, w.1))
    else Ok (false, ts)

unfoldable pub collation_at : List Tok → Read Bool
collation_at ts =
    if starts (is_key (codes "COLLATE")) ts
    then (do
      c ← one (key (codes "COLLATE")) ts
      w ← one word c.1
      Ok (true, w.1))
    else Ok (false, ts)

-- in the wider language
unfoldable pub unique_at : Bool → List Tok → Read Bool
unique_at false ts = Ok (false, ts)
unique_at true ts =
    if starts (is_key (codes "UNIQUE")) ts
    then (do
      u ← one (key (codes "UNIQUE")) ts
      Ok (true, u.1))
    else Ok (false, ts)

unfoldable pub options_at : Bool → Bool → List Tok → Read ColumnOptions
options_at wide has ts = do
  n ← nullable_at ts
  d ← default_at wide n.1
  a ← auto_increment_at d.1
  p ← primary_at has a.1
  c ← charset_at p.1
  o ← collation_at c.1
  u ← unique_at wide o.1
  Ok (record { nullable = n.0; default = d.0; auto_increment = a.0; primary = p.0; charset = c.0; collation = o.0; unique = u.0 }, u.1)

-- ---- parts of a table

-- a column's name isn't among these, and a second primary key doesn't begin
abbrev pub column_opening : List (List ℕ) → Option (List ℕ) → Option Opening
column_opening names o = option_and_then (λ n. if list_any (bytes_eq n) names then None else Some (openings.Column n)) o

abbrev pub opening_of : Bool → List (List ℕ) → Bool → Tok → Option Opening
opening_of wide names has t =
    if is_index t then Some openings.Index
    else if is_key (codes "PRIMARY") t then (if has then None else Some openings.Primary)
    else if is_other_key t then (if wide then Some openings.OtherKey else None)
    else column_opening names (name_of t)

abbrev pub opened_names : Opening → List (List ℕ)
opened_names (openings.Column n) = n ∷ []
opened_names _ = []

unfoldable pub index_at : List Tok → Read Part
index_at ts = do
  n ← one name_of ts
  ns ← columns_at n.1
  Ok (Index n.0 ns.0, ns.1)

unfoldable pub primary_key_at : List Tok → Read Part
primary_key_at ts = do
  k ← one (key (codes "KEY")) ts
  ns ← key_columns_at k.1
  Ok (PrimaryKey ns.0, ns.1)

unfoldable pub column_at : Bool → Bool → List ℕ → List Tok → Read Part
column_at wide has n ts = do
  t ← type_at wide ts
  o ← options_at wide has t.1
  Ok (Column (record { name = n; ty = t.0; options = o.0 }), o.1)

abbrev pub body_at : Bool → Bool → Opening → List Tok → Read Part
body_at wide has openings.Index ts = index_at ts
body_at wide has openings.Primary ts = primary_key_at ts
body_at wide has openings.OtherKey ts = Ok (OtherKey, ts)
body_at wide has (openings.Column n) ts = column_at wide has n ts

unfoldable pub part_at : Bool → List (List ℕ) → Bool → List Tok → Read Part
part_at wide names has ts = do
  o ← one (opening_of wide names has) ts
  body_at wide has o.0 o.1

unfoldable pub parts_at : Bool → List Tok → Read (List Part)
parts_at wide ts = items is_comma (λ before rest. part_at wide (column_names before) (has_key before) rest) (length ts) [] ts

-- ---- tables

-- the options and the `;`, with so many brackets open, and whether there are options
unfoldable pub trailer_at : ℕ → Bool → List Tok → Read Bool
trailer_at depth some [] = Err 0
trailer_at zero some (t ∷ ts) =
    if is_mark 40 t then trailer_at 1 true ts
    else if is_mark 41 t then Err (length (t ∷ ts))
    else if is_option t then trailer_at zero true ts
    else if is_mark 59 t then Ok (some, ts)
    else Err (length (t ∷ ts))
trailer_at (suc n) some (t ∷ ts) =
    if is_mark 40 t then trailer_at (suc (suc n)) true ts
    else if is_mark 41 t then trailer_at n true ts
    else if is_option t then trailer_at (suc n) true ts
    else Err (length (t ∷ ts))

-- behind CREATE TABLE [IF NOT EXISTS]
unfoldable pub created_at : Bool → List Tok → Read Statement
created_at wide ts = do
  n ← one name_of ts
  open_ ← one (mark 40) n.1
  ps ← parts_at wide open_.1
  shut ← one (mark 41) ps.1
  o ← trailer_at 0 false shut.1
  Ok (record { name = n.0; parts = ps.0; options = o.0 }, o.1)

-- behind IF NOT
unfoldable pub missing_at : Bool → List Tok → Read Statement
missing_at wide ts = do
  e ← one (key (codes "EXISTS")) ts
  created_at wide e.1

unfoldable pub named_at : Bool → List Tok → Read Statement
named_at wide ts = either_way (behind (is_key (codes "IF")) (is_key (codes "NOT")) ts) (λ rest. missing_at wide rest) (created_at wide ts)

unfoldable pub table_at : Bool → List Tok → Read Statement
table_at wide ts = do
  c ← one (key (codes "CREATE")) ts
  t ← one (key (codes "TABLE")) c.1
  named_at wide t.1

-- all statements, behind those before; each takes a token at least, so as many turns as tokens are enough
unfoldable pub schema_at : Bool → ℕ → List Statement → List Tok → Result (List Statement) ℕ
schema_at wide zero before ts = Ok before
schema_at wide (suc n) before [] = Ok before
schema_at wide (suc n) before (t ∷ ts) = do
  s ← table_at wide (t ∷ ts)
  schema_at wide n (before ++ s.0 ∷ []) s.1

-- reading on gets further than where so many tokens are left
abbrev pub is_further : ℕ → Result (List Statement) ℕ → Bool
is_further left (Ok ss) = nat_lt 0 left
is_further left (Err n) = nat_lt n left
