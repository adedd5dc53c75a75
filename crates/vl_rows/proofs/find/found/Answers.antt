use Rattle.std.proofs.Common.{◌<◌, ◌∷◌, ◌++◌, [], List, take, length, arith, ap, sym, ◌∙◌}
use Rattle.std.proofs.lemmas.List.{take_more}
use Rattle.vl_values.specs.declared.key.Key.{Key}
use Rattle.vl_values.specs.declared.value.Value.{Value}
use Rattle.vl_values.specs.Keyed.{select}
use Rattle.vl_values.proofs.Keying.{select-append}
use Rattle.vl_rows.specs.declared.slot.Slot.{Slot}
use Rattle.vl_rows.specs.Slots.{found_in}
use Rattle.vl_rows.proofs.find.found.Goals as goal

pub loop-entry-preserved : goal.loop-entry-preserved
loop-entry-preserved c =
    let given = found_in c.args.pred.now c.args.reader in
    let item = c.entry-item.result in
    let within : c.loop-entry.entry-index < length c.args.slots.now = omega arith in
    c.in_ok-push_found.ensures
    ∙ ap (λ (l : List (Key × List Value)). l ++ select given (item ∷ [])) c.loop-entry.invariant
    ∙ sym (select-append given (take c.loop-entry.entry-index c.args.slots.now) (item ∷ []))
    ∙ ap (λ (e : Key × Slot). select given (take c.loop-entry.entry-index c.args.slots.now ++ e ∷ [])) c.entry-item.is
    ∙ ap (select given) (sym (take_more c.args.slots.now c.loop-entry.entry-index item within))
