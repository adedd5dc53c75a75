-- A text as its parts, in order.
use Rattle.std.specs.Prelude.{ℕ, List, [], ◌∷◌, ◌++◌}
use Rattle.std.specs.Fmt.{decimal}
use Rattle.std.specs.List.{flat_map}
use Rattle.vl_values.specs.declared.piece.Piece.{Piece}
use Rattle.vl_values.specs.declared.piece.Piece.TheVariants.{Text, Number, Why}
use Rattle.vl_values.specs.LostWhy.{why_text}

-- the lists, one after another
abbrev pub flatten : List (List ℕ) → List ℕ
flatten [] = []
flatten (part ∷ parts) = part ++ flatten parts

abbrev pub piece_text : Piece → List ℕ
piece_text (Text bytes) = bytes.now
piece_text (Number n) = decimal n
piece_text (Why why) = why_text why

abbrev pub pieces_text : List Piece → List ℕ
pieces_text = flat_map piece_text
