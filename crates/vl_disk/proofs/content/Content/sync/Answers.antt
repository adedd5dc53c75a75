use Rattle.std.proofs.Common.{◌≡◌, [], ℕ, List, length, vec_capacity, refl, sym, ◌∙◌, ap, arith}
use Rattle.vl_disk.specs.Content.{ContentState, rested, shown}
use Rattle.vl_disk.specs.Images.{image_all}
use Rattle.vl_disk.proofs.Restored.{file_of, image_same, none_left, pick_fits}
use Rattle.vl_disk.specs.declared.pick.Pick.TheVariants as picks
use Rattle.vl_disk.proofs.content.Content.sync.Goals as goal

pub restore-requires-clause-room : goal.restore-requires-clause-room
restore-requires-clause-room c =
    let a = c.self.inside in
    let inv = c.self.invariant in
    pick_fits picks.All a.base.items a.bytes.items a.pieces.items a.log.items (vec_capacity a.base) inv.bytes (omega (arith, inv.room, inv.base_capacity))
    c.as_slice.result.now c.as_mut_slice.result.now c.as_slice.ensures.value c.as_mut_slice.ensures.value

pub invariant_of-self : goal.invariant_of-self
invariant_of-self c =
    let a = c.self.inside in
    let inv = c.self.invariant in
    let file : c.restore.new.file.items ≡ shown (file_of a.base.items a.pieces.items a.log.items) =
    image_same picks.All a.base.items c.restore.new.file.items a.pieces.items c.as_slice.result.now a.log.items c.as_mut_slice.result.now
    c.restore.ensures.items c.as_slice.ensures.value c.as_mut_slice.ensures.value
    ∙ image_all (file_of a.base.items a.pieces.items a.log.items) in
    let none = none_left c.restore.new.file.items a.bytes.items c.clear.new.self.items c.clear-2.new.self.items
    (inv.bytes ∙ sym file) c.clear.ensures.items c.clear-2.ensures.items in
    record {
      bytes = none.shows;
      placed = none.placed;
      sized = none.sized;
      room = inv.room;
      base_capacity = omega (arith, inv.base_capacity, c.restore.ensures.capacity);
      bytes_capacity = inv.bytes_capacity;
      pieces_capacity = omega (arith, ap length c.clear.ensures.items, inv.pieces_capacity, c.clear.ensures.capacity);
      log_capacity = omega (arith, ap length c.clear-2.ensures.items, inv.log_capacity, c.clear-2.ensures.capacity);
    }

pub returns : goal.returns
returns c =
    let a = c.self.inside in
    let file : c.restore.new.file.items ≡ shown (file_of a.base.items a.pieces.items a.log.items) =
    image_same picks.All a.base.items c.restore.new.file.items a.pieces.items c.as_slice.result.now a.log.items c.as_mut_slice.result.now
    c.restore.ensures.items c.as_slice.ensures.value c.as_mut_slice.ensures.value
    ∙ image_all (file_of a.base.items a.pieces.items a.log.items) in
    let none = none_left c.restore.new.file.items c.restore.new.file.items c.clear.new.self.items c.clear-2.new.self.items
    refl c.clear.ensures.items c.clear-2.ensures.items in
    let state : List ℕ → List (ℕ × List ℕ) → ContentState = λ base writes. record { file = record { synced = base; writes = writes }; room = a.room; spare = a.spare } in
    let next : ContentState → ContentState = λ s. record { file = rested (shown s.file); room = s.room; spare = s.spare } in
    ap (λ (writes : List (ℕ × List ℕ)). state c.restore.new.file.items writes) none.same
    ∙ (ap (λ (base : List ℕ). state base []) file ∙ ap next c.self.view_is)
