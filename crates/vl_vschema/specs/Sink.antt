-- What becomes of the paths that a look finds.
use Rattle.std.specs.Prelude.{ℕ, List, [], ◌∷◌, ◌++◌, Option, Some, None, if◌then◌else◌, Contains, ◌↔◌}
use Rattle.std.specs.Cmp.Lexicographic.{slice_cmp}
use Rattle.std.specs.List.Sorted.{IsStrictlySortedBy}
use Rattle.std.specs.Ordering.{nat_cmp, is_lt}

-- the lesser, by bytes
abbrev pub lesser : Option (List ℕ) → List ℕ → Option (List ℕ)
lesser None path = Some path
lesser (Some least) path = if is_lt (slice_cmp nat_cmp path least) then Some path else Some least

abbrev pub listed : List (List ℕ) → List ℕ → List (List ℕ)
listed paths path = paths ++ path ∷ []

-- each of the paths once, by bytes
pub record IsListing (paths listing : List (List ℕ)) : Type 0 where
  pub once : IsStrictlySortedBy (slice_cmp nat_cmp) listing
  pub each : (path : List ℕ) → Contains listing path ↔ Contains paths path
