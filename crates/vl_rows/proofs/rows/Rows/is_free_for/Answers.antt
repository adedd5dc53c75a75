use Rattle.std.proofs.Common.{◌≡◌, ◌↔◌, IsTrue, Option, Some, None, refl, sym, subst, ap, ◌∙◌}
use Rattle.vl_values.specs.declared.key.Key.{Key}
use Rattle.vl_values.proofs.Keying.{value_at-place, value_at-gap}
use Rattle.vl_rows.specs.declared.change.Change.{Change}
use Rattle.vl_rows.specs.declared.slot.Slot.{Slot}
use Rattle.vl_rows.specs.Versions.{other_than}
use Rattle.vl_rows.proofs.Versioning.{place_in, gap_in, pending_slot, pending_none}
use Rattle.vl_rows.proofs.rows.Rows.is_free_for.Goals as goal

pub returns-in-Ok : goal.returns-in-Ok
returns-in-Ok c =
    let slots = c.self.inside.slots.items in
    let at = place_in c.as_slice.result.now slots c.in-Ok.place c.args.key.now c.as_slice.ensures.value c.in-Ok.ensures.found in
    let has = value_at-place slots c.in-Ok.place c.args.key.now c.index.result.now c.self.invariant at ∙ ap (λ (e : Key × Slot). Some e.1) (sym c.index.ensures) in
    let pending = pending_slot slots c.args.key.now c.index.result.now.1 c.self.invariant has in
    rw (← c.self.view_is) (subst (λ (p : Option Change). IsTrue c.is_free_for.result ↔ (other_than c.args.conn p ≡ None)) (sym pending) c.is_free_for.ensures)

pub returns-in-Err : goal.returns-in-Err
returns-in-Err c =
    let slots = c.self.inside.slots.items in
    let gap = gap_in c.as_slice.result.now slots c.in-Err.field-0 c.args.key.now c.as_slice.ensures.value c.in-Err.ensures.absent in
    let pending = pending_none slots c.args.key.now c.self.invariant (value_at-gap slots c.in-Err.field-0 c.args.key.now c.self.invariant gap) in
    rw (← c.self.view_is) (λ _. ap (other_than c.args.conn) pending, λ _. refl)
