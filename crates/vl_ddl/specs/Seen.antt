-- A set of names against the list of names that were seen.
use Rattle.std.specs.Prelude.{◌≡◌, ℕ, List}
use Rattle.std.specs.List.{list_any}
use Rattle.std.specs.Str.{bytes_eq}
use Rattle.std.specs.HashSet.{HashSet, contains_by}
use Rattle.std.specs.Borrow.{Bor}

-- the set has just these names
abbrev pub Holds : {H : Type 0} → HashSet (Bor (List ℕ)) H → List (List ℕ) → Type 0
Holds seen names = (q : List ℕ) → contains_by (λ k. bytes_eq q k.now) seen ≡ list_any (bytes_eq q) names
