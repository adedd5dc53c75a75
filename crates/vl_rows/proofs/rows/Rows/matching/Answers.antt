use Rattle.std.proofs.Common.{◌≡◌, List, subst, sym, ap, ◌∙◌}
use Rattle.std.specs.List.{filter}
use Rattle.std.specs.Map.{keys_of}
use Rattle.std.proofs.lemmas.Result.{IfOk-weaker}
use Rattle.vl_values.specs.declared.key.Key.{Key}
use Rattle.vl_values.specs.Keyed.{AreInOrder}
use Rattle.vl_rows.specs.declared.slot.Slot.{Slot}
use Rattle.vl_rows.specs.Slots.{is_match_in}
use Rattle.vl_rows.proofs.Finding.{matched_in_order, matched_iff}
use Rattle.vl_rows.proofs.rows.Rows.matching.Goals as goal
use Rattle.vl_rows.proofs.rows.Rows.matching.Goals.{After-matching}

listed : (c : After-matching) (l : List Key) → l ≡ keys_of (filter (is_match_in c.args.pred.now) c.as_slice.result.now) → l ≡ keys_of (filter (is_match_in c.args.pred.now) c.self.inside.slots.items)
listed c l is = is ∙ ap (λ (s : List (Key × Slot)). keys_of (filter (is_match_in c.args.pred.now) s)) c.as_slice.ensures.value

pub returns-clause-order : goal.returns-clause-order
returns-clause-order c =
    IfOk-weaker c.matching.result _ _ (λ keys is. subst AreInOrder (sym (listed c keys.items is)) (matched_in_order c.self.inside.slots.items c.self.invariant c.args.pred.now)) c.matching.ensures

pub returns-clause-exact : goal.returns-clause-exact
returns-clause-exact c =
    IfOk-weaker c.matching.result _ _ (λ keys is key. rw (listed c keys.items is, ← c.self.view_is) (matched_iff c.self.inside.slots.items c.self.invariant c.args.pred.now key)) c.matching.ensures
