-- The names of files, and of what stands in them.
use Rattle.std.specs.Prelude.{ℕ, ◌==◌, ◌||◌, List, [], ◌∷◌, ◌++◌, if◌then◌else◌}
use Rattle.std.specs.List.{list_any}

-- a file's folder: its name up to and with the last `/`
abbrev pub folder_of : List ℕ → List ℕ
folder_of [] = []
folder_of (byte ∷ rest) = if list_any (λ b. b == 47) (byte ∷ rest) then byte ∷ folder_of rest else []

-- what has this path in a file
abbrev pub path_in : List ℕ → List ℕ → List ℕ
path_in file path = file ++ 47 ∷ path

-- the same, where the empty path is that of the file's object
abbrev pub place_in : List ℕ → List ℕ → List ℕ
place_in file [] = file
place_in file (byte ∷ path) = path_in file (byte ∷ path)
