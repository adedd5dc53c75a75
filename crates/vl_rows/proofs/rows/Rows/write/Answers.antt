use Rattle.std.proofs.Common.{ap, sym, ◌∙◌, true≢false}
use Rattle.vl_rows.specs.Versions.{Versions, has_room}
use Rattle.vl_rows.proofs.Versioning.{place_in, gap_in, in_order, committed_kept, room_kept, written_in_order, pending_written, no_room}
use Rattle.vl_rows.proofs.rows.Rows.write.Goals as goal
use Rattle.vl_rows.proofs.rows.Rows.write.Goals.{Joined-row}

pub invariant_of-self : goal.invariant_of-self
invariant_of-self c =
    written_in_order c.self.inside.slots.items c.in-Ok.place c.args.key.now c.args.conn c.args.row c.index_mut.result.now c.write_entry.new.entry c.self.invariant (place_in c.as_slice.result.now c.self.inside.slots.items c.in-Ok.place c.args.key.now c.as_slice.ensures.value c.in-Ok.ensures.found) c.index_mut.ensures.value c.write_entry.ensures

pub returns-in-Ok-clause-order : goal.returns-in-Ok-clause-order
returns-in-Ok-clause-order c =
    in_order _ (written_in_order c.self.inside.slots.items c.in-Ok.place c.args.key.now c.args.conn c.args.row c.index_mut.result.now c.write_entry.new.entry c.self.invariant (place_in c.as_slice.result.now c.self.inside.slots.items c.in-Ok.place c.args.key.now c.as_slice.ensures.value c.in-Ok.ensures.found) c.index_mut.ensures.value c.write_entry.ensures)

pub returns-in-Ok-clause-committed : goal.returns-in-Ok-clause-committed
returns-in-Ok-clause-committed c =
    rw (← c.self.view_is) (committed_kept c.self.inside.slots.items c.in-Ok.place c.args.key.now c.args.conn c.args.row c.index_mut.result.now c.write_entry.new.entry c.self.invariant (place_in c.as_slice.result.now c.self.inside.slots.items c.in-Ok.place c.args.key.now c.as_slice.ensures.value c.in-Ok.ensures.found) c.index_mut.ensures.value c.write_entry.ensures)

pub returns-in-Ok-clause-room : goal.returns-in-Ok-clause-room
returns-in-Ok-clause-room c =
    rw (← c.self.view_is) (room_kept c.self.inside.slots.items c.in-Ok.place c.args.key.now c.args.conn c.args.row c.index_mut.result.now c.write_entry.new.entry c.self.invariant (place_in c.as_slice.result.now c.self.inside.slots.items c.in-Ok.place c.args.key.now c.as_slice.ensures.value c.in-Ok.ensures.found) c.index_mut.ensures.value c.write_entry.ensures)

pub returns-in-Ok-clause-pending : goal.returns-in-Ok-clause-pending
returns-in-Ok-clause-pending c other =
    rw (← c.self.view_is) (pending_written c.self.inside.slots.items c.in-Ok.place c.args.key.now c.args.conn c.args.row c.index_mut.result.now c.write_entry.new.entry c.self.invariant (place_in c.as_slice.result.now c.self.inside.slots.items c.in-Ok.place c.args.key.now c.as_slice.ensures.value c.in-Ok.ensures.found) c.index_mut.ensures.value c.write_entry.ensures other)

unreachable : (c : Joined-row) → ⊥
unreachable c =
    let gap = gap_in c.as_slice.result.now c.self.inside.slots.items c.in_default.field-0 c.args.key.now c.as_slice.ensures.value c.in_default.ensures.absent in
    let none = no_room c.self.inside.slots.items c.in_default.field-0 c.args.key.now c.self.invariant gap in
    true≢false (sym c.requires.room ∙ ap (λ (v : Versions). has_room v c.args.key.now) (sym c.self.view_is) ∙ none)

pub returns-in_default-clause-pending : goal.returns-in_default-clause-pending
returns-in_default-clause-pending c = absurd (unreachable c)

pub returns-in_default-clause-order : goal.returns-in_default-clause-order
returns-in_default-clause-order c = absurd (unreachable c)
