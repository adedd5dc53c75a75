use Rattle.std.proofs.Common.{◌≡◌, ◌+◌, ℕ, List, length, take, drop, sym, ◌∙◌, ap, subst, arith, slice_index_or, length-take}
use Rattle.vl_disk.specs.Moment.{put}
use Rattle.vl_disk.specs.Content.{all_picked, cut_up, laid, picked}
use Rattle.vl_disk.specs.Images.{picked_size}
use Rattle.vl_disk.proofs.Laying.{IsLaying, laid_next, next_fits}
use Rattle.vl_disk.specs.declared.piece.Piece.{Piece}
use Rattle.vl_disk.proofs.content.lay.Goals as goal

pub overwrite-requires-clause-room : goal.overwrite-requires-clause-room
overwrite-requires-clause-room c =
    let none : Piece = record { offset = 0; len = 0 } in
    let piece : Piece = slice_index_or c.args.pieces.now c.loop-piece.piece-index none in
    let wanted : List ℕ = laid c.args.file.now.items (all_picked c.args.pick (cut_up c.args.pieces.now c.args.log.now)) in
    let fits = next_fits c.args.pick wanted c.args.pieces.now c.loop-piece.piece-index none c.loop-piece.file.items c.loop-piece.rest.now
    c.loop-piece-test.true c.loop-piece.invariant.0 in
    omega (
      arith,
      fits.2,
      fits.0,
      ap length c.spoil.ensures,
      picked_size c.args.pick c.split_at_mut-bytes.result.0.now,
      ap length c.split_at_mut-bytes.ensures.front,
      length-take piece.len c.loop-piece.rest.now,
      c.requires.room,
      c.loop-piece.invariant.1,
    )

pub loop-piece-preserved : goal.loop-piece-preserved
loop-piece-preserved c =
    let none : Piece = record { offset = 0; len = 0 } in
    let piece : Piece = slice_index_or c.args.pieces.now c.loop-piece.piece-index none in
    let wanted : List ℕ = laid c.args.file.now.items (all_picked c.args.pick (cut_up c.args.pieces.now c.args.log.now)) in
    let next = laid_next c.args.pick wanted c.args.pieces.now c.loop-piece.piece-index none c.loop-piece.file.items c.loop-piece.rest.now
    c.loop-piece-test.true c.loop-piece.invariant.0 in
    let bytes : c.spoil.new.bytes ≡ picked c.args.pick (take piece.len c.loop-piece.rest.now) =
    c.spoil.ensures ∙ ap (picked c.args.pick) c.split_at_mut-bytes.ensures.front in
    let file : c.overwrite.new.file.items ≡ put c.loop-piece.file.items piece.offset (picked c.args.pick (take piece.len c.loop-piece.rest.now)) =
    c.overwrite.ensures.items ∙ ap (put c.loop-piece.file.items piece.offset) bytes in
    let P : List ℕ → Type 0 = λ f. IsLaying c.args.pick wanted (drop (c.loop-piece.piece-index + 1) c.args.pieces.now) f (drop piece.len c.loop-piece.rest.now) in
    let Q : List ℕ → Type 0 = λ rest. IsLaying c.args.pick wanted (drop (c.loop-piece.piece-index + 1) c.args.pieces.now) c.overwrite.new.file.items rest in
    (subst Q (sym c.split_at_mut-bytes.ensures.back) (subst P (sym file) next), omega (arith, c.loop-piece.invariant.1, c.overwrite.ensures.capacity))
