-- What a step of the lexer adds to its tokens.
use Rattle.std.specs.Prelude.{◌≡◌, ℕ, List, ◌++◌, map}
use Rattle.vl_token.specs.Tok.{Tok}
use Rattle.vl_token.specs.View.{tokens_of}
use Rattle.vl_token.specs.declared.lexer.Lexed.{Lexed}

-- what was still to come is there
abbrev pub Ends : Lexed → Lexed → List (Tok × ℕ) → Type 0
Ends old new was =
    (tokens_of new.tokens.items ≡ tokens_of old.tokens.items ++ map (λ p. p.0) was)
    × (new.left.items ≡ old.left.items ++ map (λ p. p.1) was)

-- with what is still to come now it is what it was
abbrev pub GoesOn : Lexed → Lexed → List (Tok × ℕ) → List (Tok × ℕ) → Type 0
GoesOn old new was is =
    (tokens_of new.tokens.items ++ map (λ p. p.0) is ≡ tokens_of old.tokens.items ++ map (λ p. p.0) was)
    × (new.left.items ++ map (λ p. p.1) is ≡ old.left.items ++ map (λ p. p.1) was)
