-- What a token can stand for in a statement.
use Rattle.std.specs.Prelude.{ℕ, ◌-◌, ◌==◌, ◌^◌, nat_lt, nat_le, Bool, true, false, if◌then◌else◌, List, Option, Some, None, negsuc, codes}
use Rattle.std.specs.List.{list_any}
use Rattle.std.specs.Option.{option_and_then}
use Rattle.std.specs.Str.{str_eq_ignore_ascii_case, bytes_eq}
use Rattle.vl_token.specs.Lexical.{number_in}
use Rattle.vl_token.specs.Tok.{Tok}
use Rattle.vl_token.specs.Tok.Tok.{Word, Quoted, Text, Hex, Number, Variable, Mark}
use Rattle.vl_values.specs.declared.value.Value.{Value}
use Rattle.vl_values.specs.declared.value.Value.TheVariants.{Null, Int, Uint, Bytes}

-- a test as a terminal with no value
abbrev pub when : Bool → Option (Unit {0})
when true = Some tt
when false = None

-- a word, in any case; a word in backquotes is no keyword
abbrev pub is_key : List ℕ → Tok → Bool
is_key k (Word w) = str_eq_ignore_ascii_case w k
is_key k _ = false

abbrev pub is_mark : ℕ → Tok → Bool
is_mark c (Mark b) = b == c
is_mark c _ = false

-- `@@` and a word, in any case
abbrev pub is_variable : List ℕ → Tok → Bool
is_variable k (Variable w) = str_eq_ignore_ascii_case w k
is_variable k _ = false

abbrev pub key : List ℕ → Tok → Option (Unit {0})
key k t = when (is_key k t)

abbrev pub mark : ℕ → Tok → Option (Unit {0})
mark c t = when (is_mark c t)

abbrev pub variable : List ℕ → Tok → Option (Unit {0})
variable k t = when (is_variable k t)

-- no keyword is reserved
abbrev pub name_of : Tok → Option (List ℕ)
name_of (Word w) = Some w
name_of (Quoted w) = Some w
name_of _ = None

-- from -9223372036854775808 to 18446744073709551615
abbrev pub number_of : Bool → ℕ → Option Value
number_of false n = if nat_lt n (2 ^ 64) then Some (Uint n) else None
number_of true n =
    if n == 0 then Some (Uint 0)
    else if nat_le n (2 ^ 63) then Some (Int (negsuc (n - 1)))
    else None

abbrev pub literal_of : Tok → Option Value
literal_of (Word w) = if str_eq_ignore_ascii_case w (codes "NULL") then Some Null else None
literal_of (Text v) = Some (Bytes v)
literal_of (Hex v) = Some (Bytes v)
literal_of (Number minus ds) = number_of minus (number_in ds)
literal_of _ = None

-- a number with no sign, as LIMIT takes it
abbrev pub count_of : Tok → Option ℕ
count_of (Number false ds) = if nat_lt (number_in ds) (2 ^ 64) then Some (number_in ds) else None
count_of _ = None

-- just these digits
abbrev pub is_digits : List ℕ → Tok → Bool
is_digits k (Number false ds) = bytes_eq ds k
is_digits k _ = false

abbrev pub digits : List ℕ → Tok → Option (Unit {0})
digits k t = when (is_digits k t)

-- 0 or 1
abbrev pub bit_of : Tok → Option Bool
bit_of t = if is_digits (codes "0") t then Some false else if is_digits (codes "1") t then Some true else None

-- a word or a text
abbrev pub charset_of : Tok → Option (List ℕ)
charset_of (Word w) = Some w
charset_of (Text v) = Some v
charset_of _ = None

-- a name that isn't among these
abbrev pub new_name : List (List ℕ) → Tok → Option (List ℕ)
new_name before t = option_and_then (λ n. if list_any (bytes_eq n) before then None else Some n) (name_of t)
