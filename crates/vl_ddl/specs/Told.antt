-- Which words begin a key, and which are a column's name.
--
-- No keyword is reserved. Where a part of a table may begin, PRIMARY, KEY, INDEX, UNIQUE and FOREIGN
-- begin a key, unless a type follows that isn't itself followed by `(` and a name: then they are the
-- name of a column of this type, as they are in backquotes.
use Rattle.std.specs.Prelude.{Bool, false, not, ◌&&◌, ◌||◌, if◌then◌else◌, List, [], ◌∷◌}
use Rattle.vl_token.specs.Tok.{Tok}
use Rattle.vl_token.specs.Tok.Tok.{Word, Quoted}
use Rattle.vl_grammar.specs.Terminal.{is_mark}
use Rattle.vl_ddl.specs.Words.{is_key_word, is_name, is_number_type, is_text_type}

-- `(` and a name
abbrev pub lists : List Tok → Bool
lists [] = false
lists (t ∷ []) = false
lists (t ∷ u ∷ ts) = is_mark 40 t && is_name u

-- a type, and no list of names
abbrev pub declares : List Tok → Bool
declares [] = false
declares (t ∷ ts) = (is_number_type t || is_text_type t) && not (lists ts)

abbrev pub as_name : Tok → Tok
as_name (Word w) = Quoted w
as_name t = t

-- a part may begin behind these
abbrev pub opens : Tok → Bool
opens t = is_mark 40 t || is_mark 44 t

abbrev pub told_token : Bool → Tok → List Tok → Tok
told_token begins t ts = if begins && (is_key_word t && declares ts) then as_name t else t

abbrev pub told_from : Bool → List Tok → List Tok
told_from begins [] = []
told_from begins (t ∷ ts) = told_token begins t ts ∷ told_from (opens t) ts

-- the tokens, in which a word of these begins a key wherever a part may begin
abbrev pub told : List Tok → List Tok
told ts = told_from false ts
