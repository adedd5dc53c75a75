use Rattle.std.proofs.Common.{◌≡◌, ◌-◌, [], ◌∷◌, ℕ, List, length, vec_capacity, refl, ◌∙◌, ap, arith, length-append}
use Rattle.vl_disk.specs.Content.{ContentState, shown, written}
use Rattle.vl_disk.specs.Images.{put_length}
use Rattle.vl_disk.proofs.Written.{less_room, written_more}
use Rattle.vl_disk.specs.declared.piece.Piece.{Piece}
use Rattle.vl_disk.proofs.content.Content.write.Goals as goal

pub invariant_of-self : goal.invariant_of-self
invariant_of-self c =
    let a = c.self.inside in
    let inv = c.self.invariant in
    let size : length a.bytes.items ≡ length (shown c.args.self.now.file) =
    ap length inv.bytes ∙ ap (λ (s : ContentState). length (shown s.file)) c.self.view_is in
    let piece : Piece = record { offset = c.args.offset; len = length c.args.bytes.now } in
    let more = written_more a.base.items a.bytes.items a.log.items a.pieces.items c.args.bytes.now piece inv.bytes inv.placed inv.sized
    (omega (arith, c.requires.place, size)) refl
    c.overwrite.new.file.items c.push.new.self.items c.extend_from_slice.new.self.items
    c.overwrite.ensures.items c.in-Ok.ensures.items c.in-Ok-extend_from_slice.ensures.items in
    let room : a.room ≡ c.args.self.now.room = ap (λ (s : ContentState). s.room) c.self.view_is in
    let spare : a.spare ≡ c.args.self.now.spare = ap (λ (s : ContentState). s.spare) c.self.view_is in
    let long = put_length a.bytes.items c.args.offset c.args.bytes.now (omega (arith, c.requires.place, size)) in
    record {
      bytes = more.shows;
      placed = more.placed;
      sized = more.sized;
      room = omega (arith, ap length c.overwrite.ensures.items, long, inv.room, c.requires.room, room);
      base_capacity = inv.base_capacity;
      bytes_capacity = omega (arith, inv.bytes_capacity, c.overwrite.ensures.capacity);
      pieces_capacity = omega (arith, ap length c.in-Ok.ensures.items, length-append a.pieces.items (piece ∷ []), inv.pieces_capacity, c.in-Ok.ensures.capacity, c.requires.spare, spare);
      log_capacity =
          omega (
            arith,
            ap length c.in-Ok-extend_from_slice.ensures.items,
            length-append a.log.items c.args.bytes.now,
            c.in-Ok-extend_from_slice.ensures.capacity,
            less_room (length a.log.items) a.spare a.room (vec_capacity a.log) (length c.args.bytes.now) inv.log_capacity
                (omega (arith, c.requires.room, room)) (omega (arith, c.requires.spare, spare)),
          );
    }

pub returns : goal.returns
returns c =
    let a = c.self.inside in
    let inv = c.self.invariant in
    let size : length a.bytes.items ≡ length (shown c.args.self.now.file) =
    ap length inv.bytes ∙ ap (λ (s : ContentState). length (shown s.file)) c.self.view_is in
    let piece : Piece = record { offset = c.args.offset; len = length c.args.bytes.now } in
    let more = written_more a.base.items a.bytes.items a.log.items a.pieces.items c.args.bytes.now piece inv.bytes inv.placed inv.sized
    (omega (arith, c.requires.place, size)) refl
    c.overwrite.new.file.items c.push.new.self.items c.extend_from_slice.new.self.items
    c.overwrite.ensures.items c.in-Ok.ensures.items c.in-Ok-extend_from_slice.ensures.items in
    let state : List (ℕ × List ℕ) → ContentState = λ ws. record { file = record { synced = a.base.items; writes = ws }; room = a.room; spare = a.spare - 1 } in
    let next : ContentState → ContentState = λ s. record { file = written c.args.offset c.args.bytes.now s.file; room = s.room; spare = s.spare - 1 } in
    ap state more.same ∙ ap next c.self.view_is
