-- The code and the text of each warning.
use Rattle.std.specs.Prelude.{ℕ, List, [], ◌∷◌, codes, take}
use Rattle.vl_values.specs.declared.warning.Warning.{Warning}
use Rattle.vl_values.specs.declared.warning.Warning.TheVariants.{PostLost, PostDevice}
use Rattle.vl_values.specs.LostWhy.{why_text}
use Rattle.vl_values.specs.Piece.{flatten}

abbrev pub warning_code : Warning → ℕ
warning_code (PostLost _ _) = 1105
warning_code (PostDevice _) = 1105

-- the parts of the text, in order
abbrev pub warning_message : Warning → List (List ℕ)
warning_message (PostLost shard why) = codes "Post commit failed: lost " ∷ shard ∷ codes " (" ∷ why_text why ∷ codes ")" ∷ []
warning_message (PostDevice shard) = codes "Post commit failed: device of " ∷ shard ∷ []

-- the text, cut after 512 bytes
abbrev pub warning_text : Warning → List ℕ
warning_text warning = take 512 (flatten (warning_message warning))
