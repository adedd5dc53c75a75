-- Key ranges: the order of keyspace ids, which of them a range holds, and how a range is written.
use Rattle.std.specs.Prelude.{◌≡◌, ℕ, ◌+◌, ◌*◌, ◌<◌, ◌≤◌, ◌⊎◌, List, [], ◌∷◌, ◌++◌, length, take, Bool, true, false, not, ◌&&◌, IsTrue, codes, Ok}
use Rattle.std.specs.Cmp.Lexicographic.{slice_cmp}
use Rattle.std.specs.Ordering.{is_lt, nat_cmp}
use Rattle.hex.specs.Hex.{decode_of, encode_lower}

-- a key range begins at its start and ends before its end; an empty end leaves it open
pub record Range : Type 0 where
  pub start : List ℕ
  pub end : List ℕ

-- whether byte string a stands before byte string b: by their first bytes that differ, and a
-- beginning of a byte string before the whole
abbrev pub comes_before : List ℕ → List ℕ → Bool
comes_before a b = is_lt (slice_cmp nat_cmp a b)

-- whether a range's end leaves room for keyspace id k
abbrev pub is_above : List ℕ → List ℕ → Bool
is_above [] k = true
is_above (b ∷ end) k = comes_before k (b ∷ end)

-- whether the range holds keyspace id k
abbrev pub is_in : Range → List ℕ → Bool
is_in range k = not (comes_before k range.start) && is_above range.end k

-- the text of a range: `start-end`, each side in lower case hexadecimal
abbrev pub text_of : Range → List ℕ
text_of range = encode_lower range.start ++ (45 ∷ encode_lower range.end)

-- ---- the grammar

-- a side is written with two hexadecimal digits for each byte, in either case, and at most 32
abbrev pub IsSide : List ℕ → List ℕ → Type 0
IsSide digits bytes = (decode_of digits ≡ Ok bytes) × (length digits ≤ 32)

-- the text names these two sides, as `start-end`; `0` names the range of all keyspace ids
abbrev pub Spells : List ℕ → Range → Type 0
Spells text range =
    ((text ≡ codes "0") × (range.start ≡ []) × (range.end ≡ []))
    ⊎ ((start end : List ℕ) × (text ≡ start ++ (45 ∷ end)) × IsSide start range.start × IsSide end range.end)

-- the text is in the grammar
abbrev pub IsSpelled : List ℕ → Type 0
IsSpelled text = (range : Range) × Spells text range

-- a text in the grammar begins with these bytes
abbrev pub Begins : List ℕ → Type 0
Begins front = (rest : List ℕ) × IsSpelled (front ++ rest)

-- whether the end is open or stands above the start
abbrev pub is_ordered : Range → Bool
is_ordered range = is_above range.end range.start

-- the text is a key range, and this is the one
abbrev pub IsRead : List ℕ → Range → Type 0
IsRead text range = Spells text range × IsTrue (is_ordered range)

-- the byte at this place is the first with which no text in the grammar goes on; the place is the
-- text's length where the text ends too early
pub record IsOutside (text : List ℕ) (at : ℕ) : Type 0 where
  pub within : at ≤ length text
  pub begun : Begins (take at text)
  pub dead : at < length text → Begins (take (at + 1) text) → ⊥
  pub short : at ≡ length text → IsSpelled text → ⊥

-- the text is in the grammar, and its end isn't above its start; the end is written at this place
pub record IsUpsideDown (text : List ℕ) (at : ℕ) : Type 0 where
  pub range : Range
  pub spelled : Spells text range
  pub unordered : is_ordered range ≡ false
  pub place : at ≡ 2 * length range.start + 1

-- why the text is no key range, and where
abbrev pub IsFault : List ℕ → ℕ → Type 0
IsFault text at = IsOutside text at ⊎ IsUpsideDown text at
