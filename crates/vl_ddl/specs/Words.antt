-- Which tokens stand for what in a CREATE TABLE statement.
use Rattle.std.specs.Prelude.{ℕ, ◌==◌, nat_le, Bool, true, false, not, ◌&&◌, ◌||◌, if◌then◌else◌, is_some, List, Option, Some, None, codes}
use Rattle.std.specs.Str.{bytes_eq}
use Rattle.vl_token.specs.Tok.{Tok}
use Rattle.vl_token.specs.Tok.Tok.{Word, Quoted, Text, Number, Mark, Bad}
use Rattle.vl_token.specs.Lexical.{number_in}
use Rattle.vl_grammar.specs.Terminal.{is_key, is_mark, name_of}

abbrev pub is_comma : Tok → Bool
is_comma t = is_mark 44 t

-- a word that isn't in backquotes
abbrev pub is_word : Tok → Bool
is_word (Word w) = true
is_word _ = false

abbrev pub is_name : Tok → Bool
is_name t = is_some (name_of t)

-- KEY and INDEX, which begin a plain key
abbrev pub is_index : Tok → Bool
is_index t = is_key (codes "KEY") t || is_key (codes "INDEX") t

-- UNIQUE and FOREIGN, which begin a key in the wider language
abbrev pub is_other_key : Tok → Bool
is_other_key t = is_key (codes "UNIQUE") t || is_key (codes "FOREIGN") t

abbrev pub is_key_word : Tok → Bool
is_key_word t = is_index t || (is_key (codes "PRIMARY") t || is_other_key t)

abbrev pub is_number_type : Tok → Bool
is_number_type t = is_key (codes "BIGINT") t || is_key (codes "INT") t

abbrev pub is_text_type : Tok → Bool
is_text_type t = is_key (codes "VARCHAR") t || is_key (codes "VARBINARY") t

-- a type of the wider language alone
abbrev pub is_other_type : Tok → Bool
is_other_type t = is_word t && not (is_number_type t || is_text_type t)

abbrev pub is_same : List ℕ → Option (List ℕ) → Bool
is_same n None = false
is_same n (Some m) = bytes_eq m n

-- a name that begins no key
abbrev pub label_of : Tok → Option (List ℕ)
label_of t = if is_key_word t then None else name_of t

abbrev pub is_label : List ℕ → Tok → Bool
is_label n t = is_same n (label_of t)

-- a number without a sign
abbrev pub is_number : Tok → Bool
is_number (Number minus ds) = not minus
is_number _ = false

-- a greatest length; what no limit allows anyway is 65,535
abbrev pub capped : ℕ → ℕ
capped n = if nat_le n 65535 then n else 65535

abbrev pub length_of : Tok → Option ℕ
length_of (Number false ds) = Some (capped (number_in ds))
length_of _ = None

abbrev pub is_equal : ℕ → Option ℕ → Bool
is_equal n None = false
is_equal n (Some m) = m == n

abbrev pub is_length : ℕ → Tok → Bool
is_length n t = is_equal n (length_of t)

-- a default of the wider language alone: any token but NULL
abbrev pub is_some_token : Tok → Bool
is_some_token Bad = false
is_some_token _ = true

abbrev pub is_other_default : Tok → Bool
is_other_default t = is_some_token t && not (is_key (codes "NULL") t)

-- what table options are made of, besides brackets: words, names, texts, numbers and `= , . + -`
abbrev pub is_option : Tok → Bool
is_option (Word w) = true
is_option (Quoted w) = true
is_option (Text v) = true
is_option (Number minus ds) = true
is_option (Mark b) = b == 61 || b == 44 || b == 46 || b == 43 || b == 45
is_option _ = false
