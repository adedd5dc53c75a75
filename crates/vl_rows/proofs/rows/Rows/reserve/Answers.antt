use Rattle.std.proofs.Common.{◌≡◌, ap, ◌∙◌}
use Rattle.std.specs.List.{insert}
use Rattle.std.specs.Option.{is_some}
use Rattle.vl_values.specs.declared.key.Key.{Key}
use Rattle.vl_values.specs.Keyed.{IsGap}
use Rattle.vl_values.proofs.Keying.{in_order-insert, value_at-place}
use Rattle.vl_rows.specs.declared.slot.Slot.{Slot}
use Rattle.vl_rows.specs.Slots.{empty_slot}
use Rattle.vl_rows.proofs.Versioning.{gap_in, place_in, in_order, room_made, room_stays, with_empty, room_is}
use Rattle.vl_rows.proofs.rows.Rows.reserve.Goals as goal
use Rattle.vl_rows.proofs.rows.Rows.reserve.Goals.{In_ok-insert}

pub returns-in_err-key-clause-order : goal.returns-in_err-key-clause-order
returns-in_err-key-clause-order c = rw (← c.self.view_is) (in_order c.self.inside.slots.items c.self.invariant)

gap : (c : In_ok-insert) → IsGap c.args.key.now c.self.inside.slots.items c.in-Err.place
gap c = gap_in c.as_slice.result.now c.self.inside.slots.items c.in-Err.place c.args.key.now c.as_slice.ensures.value c.in-Err.ensures.absent

after : (c : In_ok-insert) → c.insert.new.self.items ≡ insert c.self.inside.slots.items c.in-Err.place (c.args.key.now, empty_slot)
after c =
    c.in_ok-insert.ensures.items
    ∙ ap (λ (k : Key). insert c.self.inside.slots.items c.in-Err.place (k, c.empty.result)) c.in_ok-key.ensures
    ∙ ap (λ (slot : Slot). insert c.self.inside.slots.items c.in-Err.place (c.args.key.now, slot)) c.empty.ensures

pub invariant_of-self : goal.invariant_of-self
invariant_of-self c = rw (after c) (in_order-insert c.self.inside.slots.items c.in-Err.place c.args.key.now empty_slot c.self.invariant (gap c))

pub returns-in_ok-insert-clause-order : goal.returns-in_ok-insert-clause-order
returns-in_ok-insert-clause-order c = in_order _ (invariant_of-self c)

pub returns-in_ok-insert-clause-same : goal.returns-in_ok-insert-clause-same
returns-in_ok-insert-clause-same c = rw (← c.self.view_is, after c) (with_empty c.self.inside.slots.items c.in-Err.place c.args.key.now)

pub returns-in_ok-insert-clause-room : goal.returns-in_ok-insert-clause-room
returns-in_ok-insert-clause-room c = rw (after c) (room_made c.self.inside.slots.items c.in-Err.place c.args.key.now empty_slot c.self.invariant (gap c))

pub returns-in_err-insert-clause-order : goal.returns-in_err-insert-clause-order
returns-in_err-insert-clause-order c = in_order _ (rw c.in_err-insert.ensures.items c.self.invariant)

pub returns-in_default-clause-order : goal.returns-in_default-clause-order
returns-in_default-clause-order c = rw (← c.self.view_is) (in_order c.self.inside.slots.items c.self.invariant)

pub returns-in_default-clause-room : goal.returns-in_default-clause-room
returns-in_default-clause-room c =
    let at = place_in c.as_slice.result.now c.self.inside.slots.items c.in_default.field-0 c.args.key.now c.as_slice.ensures.value c.in_default.ensures.found in
    rw (← c.self.view_is)
    (room_is c.self.inside.slots.items c.args.key.now
    ∙ ap is_some (value_at-place c.self.inside.slots.items c.in_default.field-0 c.args.key.now (c.args.key.now, empty_slot) c.self.invariant at))

pub returns-in_ok-insert-clause-stays : goal.returns-in_ok-insert-clause-stays
returns-in_ok-insert-clause-stays c other =
    rw (after c, ← c.self.view_is) (λ has. room_stays c.self.inside.slots.items c.in-Err.place c.args.key.now empty_slot other c.self.invariant (gap c) has)
