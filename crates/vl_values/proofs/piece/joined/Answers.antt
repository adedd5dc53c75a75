use Rattle.std.proofs.Common.{◌∙◌, ap, sym, take}
use Rattle.vl_values.specs.Piece.{piece_text}
use Rattle.vl_values.proofs.Cutting.{cut_more, flat_map-take-more}
use Rattle.vl_values.proofs.piece.joined.Goals as goal

pub loop-piece-preserved : goal.loop-piece-preserved
loop-piece-preserved c =
    c.push_piece.ensures ∙ cut_more 512 _ _ _ c.loop-piece.invariant ∙ ap (take 512) (sym (flat_map-take-more piece_text c.args.pieces.now c.loop-piece.piece-index _ c.loop-piece-test.true))
