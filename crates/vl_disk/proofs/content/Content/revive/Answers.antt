use Rattle.std.proofs.Common.{◌≡◌, ◌++◌, ℕ, List, length, vec_capacity, ◌∙◌, ap, arith}
use Rattle.std.proofs.lemmas.Bool.{false≢true}
use Rattle.vl_disk.proofs.Restored.{none_left, pick_fits}
use Rattle.vl_disk.proofs.content.Content.revive.Goals as goal

pub restore-requires-clause-room : goal.restore-requires-clause-room
restore-requires-clause-room c =
    let a = c.self.inside in
    let inv = c.self.invariant in
    pick_fits c.args.pick a.base.items a.bytes.items a.pieces.items a.log.items (vec_capacity a.base) inv.bytes (omega (arith, inv.room, inv.base_capacity))
    c.as_slice.result.now c.as_mut_slice.result.now c.as_slice.ensures.value c.as_mut_slice.ensures.value

pub unreachable-requires : goal.unreachable-requires
unreachable-requires c =
    let a = c.self.inside in
    let inv = c.self.invariant in
    let fits = pick_fits c.args.pick a.base.items a.bytes.items a.pieces.items a.log.items a.room inv.bytes inv.room
    c.as_slice.result.now c.as_mut_slice.result.now c.as_slice.ensures.value c.as_mut_slice.ensures.value in
    false≢true
    (c.in_default.ensures.succeeds
    (omega (arith, c.clear-3.ensures.len, ap length c.as_slice-2.ensures.value, ap length c.restore.ensures.items, fits, inv.bytes_capacity, c.clear-3.ensures.capacity)))

pub invariant_of-self : goal.invariant_of-self
invariant_of-self c =
    let a = c.self.inside in
    let inv = c.self.invariant in
    let fits = pick_fits c.args.pick a.base.items a.bytes.items a.pieces.items a.log.items a.room inv.bytes inv.room
    c.as_slice.result.now c.as_mut_slice.result.now c.as_slice.ensures.value c.as_mut_slice.ensures.value in
    let bytes : c.extend_from_slice.new.self.items ≡ c.restore.new.file.items =
    c.in-Ok.ensures.items ∙ (ap (λ (l : List ℕ). l ++ c.as_slice-2.result.now) c.clear-3.ensures.items ∙ c.as_slice-2.ensures.value) in
    let none = none_left c.restore.new.file.items c.extend_from_slice.new.self.items c.clear.new.self.items c.clear-2.new.self.items
    bytes c.clear.ensures.items c.clear-2.ensures.items in
    record {
      bytes = none.shows;
      placed = none.placed;
      sized = none.sized;
      room = omega (arith, ap length bytes, ap length c.restore.ensures.items, fits);
      base_capacity = omega (arith, inv.base_capacity, c.restore.ensures.capacity);
      bytes_capacity = omega (arith, inv.bytes_capacity, c.clear-3.ensures.capacity, c.in-Ok.ensures.capacity);
      pieces_capacity = omega (arith, ap length c.clear.ensures.items, inv.pieces_capacity, c.clear.ensures.capacity);
      log_capacity = omega (arith, ap length c.clear-2.ensures.items, inv.log_capacity, c.clear-2.ensures.capacity);
    }
