-- Texts that are put together.
use Rattle.std.specs.Prelude.{ℕ, List}
use Rattle.std.specs.List.{flat_map}
use denote.Ref.{Bor}

abbrev pub joined : List (Bor (List ℕ)) → List ℕ
joined parts = flat_map (λ (part : Bor (List ℕ)). part.now) parts
