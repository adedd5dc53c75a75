-- Lists of a statement.
use Rattle.std.specs.Prelude.{◌≤◌, ℕ, List, [], ◌∷◌, ◌++◌, length}

-- at least one
abbrev pub HasSome : {A : Type 0} → List A → Type 0
HasSome [] = ⊥
HasSome (a ∷ xs) = Unit {0}

-- at least one, and at most so many
abbrev pub UpTo : {A : Type 0} → ℕ → List A → Type 0
UpTo most xs = HasSome xs × (length xs ≤ most)

-- P holds of each, against those before it
abbrev pub AllInTurn : {A : Type 0} → (List A → A → Type 0) → List A → List A → Type 0
AllInTurn P before [] = Unit {0}
AllInTurn P before (a ∷ xs) = P before a × AllInTurn P (before ++ a ∷ []) xs
