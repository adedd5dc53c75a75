use Rattle.std.proofs.Common.{Some, sym, ap, ◌∙◌}
use Rattle.std.proofs.lemmas.Result.{IfOk-weaker}
use Rattle.vl_values.specs.declared.key.Key.{Key}
use Rattle.vl_values.proofs.Keying.{value_at-place, value_at-gap}
use Rattle.vl_rows.specs.declared.slot.Slot.{Slot}
use Rattle.vl_rows.proofs.Versioning.{place_in, gap_in, standing_in, standing_none}
use Rattle.vl_rows.proofs.rows.Rows.get.Goals as goal

pub returns-in-Ok : goal.returns-in-Ok
returns-in-Ok c =
    let slots = c.self.inside.slots.items in
    let at = place_in c.as_slice.result.now slots c.in-Ok.place c.args.key.now c.as_slice.ensures.value c.in-Ok.ensures.found in
    let has = value_at-place slots c.in-Ok.place c.args.key.now c.index.result.now c.self.invariant at ∙ ap (λ (e : Key × Slot). Some e.1) (sym c.index.ensures) in
    let stands = standing_in slots c.args.reader c.args.key.now c.index.result.now.1 c.self.invariant has in
    rw (← c.self.view_is) (IfOk-weaker c.copy_of.result _ _ (λ row is. is ∙ c.standing.ensures ∙ sym stands) c.copy_of.ensures)

pub returns-in-Err : goal.returns-in-Err
returns-in-Err c =
    let slots = c.self.inside.slots.items in
    let gap = gap_in c.as_slice.result.now slots c.in-Err.field-0 c.args.key.now c.as_slice.ensures.value c.in-Err.ensures.absent in
    rw (← c.self.view_is) (sym (standing_none slots c.args.reader c.args.key.now c.self.invariant (value_at-gap slots c.in-Err.field-0 c.args.key.now c.self.invariant gap)))
