-- How a text is cut into tokens.
use Rattle.std.specs.Prelude.{◌≡◌, ℕ, zero, suc, ◌+◌, ◌-◌, ◌*◌, ◌%◌, ◌==◌, nat_le, Bool, true, false, not, ◌&&◌, ◌||◌, if◌then◌else◌, List, [], ◌∷◌, ◌++◌, length, take, drop, map, Option, Some, None}
use Rattle.std.specs.List.{prefix_len}
use Rattle.std.specs.Char.{is_ascii_digit, is_ascii_alphabetic, is_ascii_hexdigit}
use Rattle.vl_token.specs.Tok.{Tok}
use Rattle.vl_token.specs.Tok.Tok.{Word, Quoted, Text, Hex, Number, Variable, Mark, Bad}

-- ---- bytes

-- space, tab, LF, CR
abbrev pub is_blank : ℕ → Bool
is_blank b = b == 32 || b == 9 || b == 10 || b == 13

-- what a word begins with, and what it goes on with
abbrev pub is_start : ℕ → Bool
is_start b = is_ascii_alphabetic b || b == 95

abbrev pub is_part : ℕ → Bool
is_part b = is_ascii_alphabetic b || is_ascii_digit b || b == 95 || b == 36

-- ( ) * + , . ; = ; a `-` is one too, where it begins no number and no comment
abbrev pub is_mark : ℕ → Bool
is_mark b = b == 40 || b == 41 || b == 42 || b == 43 || b == 44 || b == 46 || b == 59 || b == 61

abbrev pub begins : ℕ → List ℕ → Bool
begins c [] = false
begins c (b ∷ bs) = b == c

-- ---- texts in quotes

-- the byte behind a backslash: 0 b n r t Z stand for a byte of their own, % and _ keep the backslash
abbrev pub escaped : ℕ → List ℕ
escaped c =
    if c == 48 then 0 ∷ []
    else if c == 98 then 8 ∷ []
    else if c == 110 then 10 ∷ []
    else if c == 114 then 13 ∷ []
    else if c == 116 then 9 ∷ []
    else if c == 90 then 26 ∷ []
    else if c == 37 || c == 95 then 92 ∷ c ∷ []
    else c ∷ []

abbrev pub later : ℕ → Option ℕ → Option ℕ
later n None = None
later n (Some i) = Some (n + i)

-- where the quote q closes the text: not behind a backslash, and not doubled
abbrev pub closing : ℕ → List ℕ → Option ℕ
closing q [] = None
closing q (b ∷ []) = if b == q then Some 0 else None
closing q (b ∷ c ∷ bs) =
    if b == q then (if c == q then later 2 (closing q bs) else Some 0)
    else if b == 92 then later 2 (closing q bs)
    else later 1 (closing q (c ∷ bs))

-- what the bytes between the quotes stand for
abbrev pub unescaped : ℕ → List ℕ → List ℕ
unescaped q [] = []
unescaped q (b ∷ []) = b ∷ []
unescaped q (b ∷ c ∷ bs) =
    if b == q then b ∷ unescaped q bs
    else if b == 92 then escaped c ++ unescaped q bs
    else b ∷ unescaped q (c ∷ bs)

-- a hexadecimal digit in either case
abbrev pub hex_value : ℕ → ℕ
hex_value c = (if is_ascii_digit c then c - 48 else if nat_le 97 c then c - 87 else c - 55) % 16

-- two digits a byte
abbrev pub unhexed : List ℕ → List ℕ
unhexed [] = []
unhexed (b ∷ []) = []
unhexed (b ∷ c ∷ bs) = (16 * hex_value b + hex_value c) ∷ unhexed bs

-- the number that decimal digits spell, behind those that spell n
abbrev pub number_after : ℕ → List ℕ → ℕ
number_after n [] = n
number_after n (c ∷ cs) = number_after (10 * n + (c - 48)) cs

abbrev pub number_in : List ℕ → ℕ
number_in ds = number_after 0 ds

-- ---- lexemes

-- what begins a text: white space or a comment, a token, or neither; and the bytes behind it
pub data Lexeme : Type 0 where
  Gap : List ℕ → Lexeme
  Piece : Tok → List ℕ → Lexeme
  Wrong : Lexeme

-- behind `/*`: up to the first `*/`
abbrev pub comment_at : List ℕ → Lexeme
comment_at [] = Wrong
comment_at (b ∷ bs) = if b == 42 && begins 47 bs then Gap (drop 1 bs) else comment_at bs

abbrev pub closed_at : ℕ → List ℕ → Option ℕ → Lexeme
closed_at q bs None = Wrong
closed_at q bs (Some n) = Piece (Text (unescaped q (take n bs))) (drop 1 (drop n bs))

-- behind a quote
abbrev pub text_at : ℕ → List ℕ → Lexeme
text_at q bs = closed_at q bs (closing q bs)

-- behind a backquote
abbrev pub quoted_at : List ℕ → Lexeme
quoted_at bs =
    let n = prefix_len (λ b. not (b == 96)) bs in
    if begins 96 (drop n bs) then Piece (Quoted (take n bs)) (drop 1 (drop n bs)) else Wrong

-- behind x and a quote
abbrev pub hex_at : List ℕ → Lexeme
hex_at bs =
    let n = prefix_len is_ascii_hexdigit bs in
    if n % 2 == 0 && begins 39 (drop n bs) then Piece (Hex (unhexed (take n bs))) (drop 1 (drop n bs)) else Wrong

-- all of the bytes that pass, from the first on
abbrev pub run_at : (List ℕ → Tok) → (ℕ → Bool) → List ℕ → Lexeme
run_at f p bs = Piece (f (take (prefix_len p bs) bs)) (drop (prefix_len p bs) bs)

-- `-- ` begins a comment up to the end of the line, and a `-` before a digit a number; else it is a mark
abbrev pub dash_at : List ℕ → Lexeme
dash_at [] = Piece (Mark 45) []
dash_at (c ∷ bs) =
    if is_ascii_digit c then run_at (Number true) is_ascii_digit (c ∷ bs)
    else if c == 45 && begins 32 bs then Gap (drop (prefix_len (λ b. not (b == 10)) bs) bs)
    else Piece (Mark 45) (c ∷ bs)

abbrev pub slash_at : List ℕ → Lexeme
slash_at [] = Wrong
slash_at (c ∷ bs) = if c == 42 then comment_at bs else Wrong

-- `@@` and a word
abbrev pub at_at : List ℕ → Lexeme
at_at [] = Wrong
at_at (c ∷ []) = Wrong
at_at (c ∷ d ∷ bs) = if c == 64 && is_start d then run_at Variable is_part (d ∷ bs) else Wrong

-- what begins with none of the bytes of white space, words and numbers
abbrev pub symbol_at : ℕ → List ℕ → Lexeme
symbol_at b bs =
    if b == 39 || b == 34 then text_at b bs
    else if b == 96 then quoted_at bs
    else if b == 45 then dash_at bs
    else if b == 47 then slash_at bs
    else if b == 64 then at_at bs
    else if is_mark b then Piece (Mark b) bs
    else Wrong

abbrev pub lexeme_at : List ℕ → Lexeme
lexeme_at [] = Wrong
lexeme_at (b ∷ bs) =
    if is_blank b then Gap bs
    else if (b == 120 || b == 88) && begins 39 bs then hex_at (drop 1 bs)
    else if is_start b then run_at Word is_part (b ∷ bs)
    else if is_ascii_digit b then run_at (Number false) is_ascii_digit (b ∷ bs)
    else symbol_at b bs

-- ---- texts

-- a token and how many bytes are left where it begins, and then those of the bytes behind it
abbrev pub cut_on : ℕ → Lexeme → (List ℕ → List (Tok × ℕ)) → List (Tok × ℕ)
cut_on left (Gap rest) next = next rest
cut_on left (Piece t rest) next = (t, left) ∷ next rest
cut_on left Wrong next = (Bad, left) ∷ []

-- each lexeme takes a byte at least, so as many turns as bytes are enough
abbrev pub cut_within : ℕ → List ℕ → List (Tok × ℕ)
cut_within zero bytes = []
cut_within (suc n) [] = []
cut_within (suc n) (b ∷ bs) = cut_on (length (b ∷ bs)) (lexeme_at (b ∷ bs)) (λ rest. cut_within n rest)

-- the tokens of a text
unfoldable pub cut : List ℕ → List (Tok × ℕ)
cut text = cut_within (length text) text

abbrev pub tokens_in : List ℕ → List Tok
tokens_in text = map (λ p. p.0) (cut text)

-- how many bytes of the text are left where each begins
abbrev pub lefts_in : List ℕ → List ℕ
lefts_in text = map (λ p. p.1) (cut text)

-- a token that a text can have
abbrev pub IsToken : Tok → Type 0
IsToken t = (text : List ℕ) × (tokens_in text ≡ t ∷ [])
