-- Paths: the names of members, and positions in lists, joined by `/`.
use Rattle.std.specs.Prelude.{ℕ, List, [], ◌∷◌, ◌++◌}

-- what has this name within what has the path; the file's object has the empty path, and nothing
-- stands before the names of its members
abbrev pub child : List ℕ → List ℕ → List ℕ
child [] name = name
child (byte ∷ path) name = (byte ∷ path) ++ 47 ∷ name
