-- A file at a moment: what a read gives, and what a crash may leave.
use Rattle.std.specs.Prelude.{◌≡◌, ◌<◌, ◌≤◌, ◌+◌, ◌⊎◌, ◌++◌, [], ◌∷◌, ℕ, List, length, take, drop, max, slice_index}

pub record Moment : Type 0 where
  -- the bytes that a read gives
  pub seen : List ℕ
  -- the least and the greatest length that the file had since the last sync
  pub least : ℕ
  pub most : ℕ
  -- offset and length of each write since the last sync
  pub ranges : List (ℕ × ℕ)

-- the offset is in none of the ranges
abbrev pub IsOutside : List (ℕ × ℕ) → ℕ → Type 0
IsOutside [] offset = Unit {0}
IsOutside (range ∷ ranges) offset = ((offset < range.0) ⊎ (range.0 + range.1 ≤ offset)) × IsOutside ranges offset

-- A crash at this moment may leave this image: any bytes in the written ranges and past the old end, the
-- same bytes elsewhere.
pub record IsLeft (m : Moment) (image : List ℕ) : Type 0 where
  pub no_shorter : m.least ≤ length image
  pub no_longer : length image ≤ m.most
  pub same : (offset : ℕ) → offset < m.least → IsOutside m.ranges offset → slice_index image offset ≡ slice_index m.seen offset

-- each image that a crash may leave has Q
abbrev pub EachLeft : (List ℕ → Type 0) → Moment → Type 0
EachLeft Q m = (image : List ℕ) → IsLeft m image → Q image

-- the first may leave nothing but what the second may leave
abbrev pub Narrows : Moment → Moment → Type 0
Narrows m n = (image : List ℕ) → IsLeft m image → IsLeft n image

-- all of the file is on the disk
abbrev pub at_rest : List ℕ → Moment
at_rest bytes = record { seen = bytes; least = length bytes; most = length bytes; ranges = [] }

-- the file with these bytes at this offset
abbrev pub put : List ℕ → ℕ → List ℕ → List ℕ
put file offset bytes = take offset file ++ (bytes ++ drop (offset + length bytes) file)

-- what a crash may leave once n bytes at this offset are written, or began to be; what a read gives isn't said
abbrev pub touched : ℕ → ℕ → Moment → Moment
touched offset n m = record m { most = max m.most (offset + n); ranges = (offset, n) ∷ m.ranges }

-- The second file is the first but for n bytes at this offset, and what is past the first one's end.
pub record Torn (offset n : ℕ) (old new : List ℕ) : Type 0 where
  pub before : take offset new ≡ take offset old
  pub after : drop (offset + n) new ≡ drop (offset + n) old
  pub no_shorter : length old ≤ length new
  pub no_longer : length new ≤ max (length old) (offset + n)
