use Rattle.std.proofs.Common.{◌≡◌, take}
use Rattle.vl_values.specs.Piece.{pieces_text}
use Rattle.vl_values.proofs.piece.joined.Given as goal

abbrev pub invariant-loop-piece : goal.invariant-loop-piece
invariant-loop-piece l = l.text ≡ take 512 (pieces_text (take l.piece-index l.pieces))
