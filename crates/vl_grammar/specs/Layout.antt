-- How a list of items is written: one space between two, none before a `,` and inside brackets.
use Rattle.std.specs.Prelude.{ℕ, ◌==◌, Bool, true, false, ◌&&◌, ◌||◌, if◌then◌else◌, List, [], ◌∷◌, ◌++◌, codes}
use Rattle.std.specs.List.{list_all, flat_map}
use Rattle.std.specs.Fmt.{decimal, signed_decimal}
use Rattle.vl_token.specs.Lexical.{is_start, is_part}
use Rattle.vl_values.specs.declared.value.Value.{Value}
use Rattle.vl_values.specs.declared.value.Value.TheVariants.{Null, Int, Uint, Bytes}
use Rattle.vl_grammar.specs.Item.{Item}

-- a name that needs no backquotes
abbrev pub is_plain : List ℕ → Bool
is_plain [] = false
is_plain (b ∷ bs) = is_start b && list_all is_part bs

abbrev pub in_backquotes : List ℕ → List ℕ
in_backquotes n = 96 ∷ (n ++ 96 ∷ [])

-- the byte that stands for another behind a backslash, or 0 where a byte needs no backslash
abbrev pub letter_for : ℕ → ℕ
letter_for b =
    if b == 0 then 48
    else if b == 8 then 98
    else if b == 10 then 110
    else if b == 13 then 114
    else if b == 9 then 116
    else if b == 26 then 90
    else if b == 92 || b == 39 || b == 34 then b
    else 0

abbrev pub escape : ℕ → List ℕ
escape b = if letter_for b == 0 then b ∷ [] else 92 ∷ letter_for b ∷ []

abbrev pub in_quotes : List ℕ → List ℕ
in_quotes s = 39 ∷ (flat_map escape s ++ 39 ∷ [])

abbrev pub literal_text : Value → List ℕ
literal_text Null = codes "NULL"
literal_text (Int n) = signed_decimal n
literal_text (Uint n) = decimal n
literal_text (Bytes s) = in_quotes s

abbrev pub written : Item → List ℕ
written (Item.Key k) = k
written (Item.Name n) = if is_plain n then n else in_backquotes n
written (Item.Literal v) = literal_text v
written (Item.Sign c) = c ∷ []
written (Item.Count n) = decimal n
written (Item.Digits ds) = ds
written (Item.Variable w) = 64 ∷ 64 ∷ w
written (Item.Charset w) = in_quotes w
-- no statement that is written has one
written (Item.Which f) = []

-- `(`, behind which no space stands
abbrev pub opens : Item → Bool
opens (Item.Sign c) = c == 40
opens _ = false

-- `)` and `,`, before which none stands
abbrev pub is_tight : Item → Bool
is_tight (Item.Sign c) = c == 41 || c == 44
is_tight _ = false

abbrev pub space : Bool → Item → List ℕ
space true i = []
space false i = if is_tight i then [] else 32 ∷ []

-- what is written at the start or behind a `(`, or elsewhere
abbrev pub laid : Bool → List Item → List ℕ
laid unspaced [] = []
laid unspaced (i ∷ is) = space unspaced i ++ (written i ++ laid (opens i) is)

abbrev pub left_open : Bool → List Item → Bool
left_open unspaced [] = unspaced
left_open unspaced (i ∷ is) = left_open (opens i) is

-- what was written, and whether it ends where no space stands
pub record Page : Type 0 where
  pub text : List ℕ
  pub unspaced : Bool

unfoldable pub added : Page → List Item → Page
added p is = record { text = p.text ++ laid p.unspaced is; unspaced = left_open p.unspaced is }
