-- The two sides of what a cut of a text says.
use Rattle.std.specs.declared.option.Option.{Option}
use Rattle.std.proofs.Common.{◌≡◌, ◌≢◌, ℕ, List, ◌++◌, Some, None, IfSome, IfNone, MatchOption, Bor}

-- behind a front of the text
pub front_sides : (text front : List ℕ) (r : Option (Bor (List ℕ))) → MatchOption r ((rest : List ℕ) → text ≢ front ++ rest) (λ x. text ≡ front ++ x.now)
    → IfSome r (λ x. text ≡ front ++ x.now) × IfNone r ((rest : List ℕ) → text ≡ front ++ rest → ⊥)
front_sides text front None h = (tt, h)
front_sides text front (Some x) h = (h, tt)
