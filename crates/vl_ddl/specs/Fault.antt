-- Where a text stops being a schema file, and whether the wider language goes on there.
use Rattle.std.specs.Prelude.{◌≡◌, ℕ, Bool, true, false, List, ◌∷◌, ◌++◌, length, map, ◌-◌, slice_index_or, Result, Ok, Err}
use Rattle.std.specs.List.{AllByRecursion}
use Rattle.vl_token.specs.Tok.{Tok}
use Rattle.vl_token.specs.Lexical.{IsToken, tokens_in, lefts_in}
use Rattle.vl_catalog.specs.declared.table_def.TableDef.{TableDef}
use Rattle.vl_grammar.specs.Lists.{HasSome}
use Rattle.vl_ddl.specs.Told.{told}
use Rattle.vl_ddl.specs.Grammar.{Table, IsSchema}
use Rattle.vl_ddl.specs.Meaning.{meaning}
use Rattle.vl_ddl.specs.declared.schema.DdlFault.{DdlFault}
use Rattle.vl_ddl.specs.declared.schema.DdlFault.TheVariants.{Syntax, Unsupported, Memory}

-- the tokens of a text, with the words that begin a key told from names
abbrev pub words_in : List ℕ → List Tok
words_in text = told (tokens_in text)

-- what the text defines
abbrev pub Defines : List ℕ → List TableDef → Type 0
Defines text tables = (ss : List Table) × IsSchema false ss (words_in text) × (tables ≡ map meaning ss)

-- the tokens begin a file of the language; tokens that a text can have go on with it
pub record Begins (wide : Bool) (before : List Tok) : Type 0 where
  pub statements : List Table
  pub behind : List Tok
  pub real : AllByRecursion IsToken behind
  pub is : IsSchema wide statements (before ++ behind)

-- no file of the language goes on with the next token
abbrev pub IsDead : Bool → List Tok → List Tok → Type 0
IsDead wide before rest = (t : Tok) (behind other : List Tok) (ss : List Table) → rest ≡ t ∷ behind → IsSchema wide ss (before ++ t ∷ other) → ⊥

-- the wider language goes on with the next token, and maybe with some of those behind it
pub record GoesOn (before rest : List Tok) : Type 0 where
  pub front : List Tok
  pub back : List Tok
  pub parts : rest ≡ front ++ back
  pub some : HasSome front
  pub begun : Begins true (before ++ front)

-- n tokens are left where the tokens stop being a schema file
pub record IsFault (ts : List Tok) (n : ℕ) : Type 0 where
  pub before : List Tok
  pub rest : List Tok
  pub parts : ts ≡ before ++ rest
  pub left : length rest ≡ n
  pub begun : Begins false before
  pub dead : IsDead false before rest

-- the first byte of the token from which on n are left; the text's length where none is
abbrev pub place_of : List ℕ → ℕ → ℕ
place_of text n = length text - slice_index_or (lefts_in text) (length (lefts_in text) - n) 0

-- the place is that of the fault, and unsupported is what the wider language goes on with
abbrev pub IsAt : DdlFault → List ℕ → Type 0
IsAt (Syntax at) text = (n : ℕ) × (fault : IsFault (words_in text) n) × IsDead true fault.before fault.rest × (at ≡ place_of text n)
IsAt (Unsupported at) text = (n : ℕ) × (fault : IsFault (words_in text) n) × GoesOn fault.before fault.rest × (at ≡ place_of text n)
IsAt Memory text = Unit {0}

-- these tables, unless memory ran out
abbrev pub IsRead : Result (List TableDef) DdlFault → List TableDef → Type 0
IsRead (Ok q) tables = q ≡ tables
IsRead (Err Memory) tables = Unit {0}
IsRead (Err _) tables = ⊥
