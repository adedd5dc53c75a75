-- Which of the columns that a SELECT names stand there again behind, so that their values have to be copied.
use Rattle.std.specs.Prelude.{ℕ, Bool, ◌==◌, List, [], ◌∷◌}
use Rattle.std.specs.List.{list_any}

abbrev pub named_again : List ℕ → List Bool
named_again [] = []
named_again (column ∷ columns) = list_any (λ other. other == column) columns ∷ named_again columns
