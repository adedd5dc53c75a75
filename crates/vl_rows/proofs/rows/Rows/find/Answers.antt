use Rattle.std.proofs.Common.{◌≡◌, List, subst, sym, ap, ◌∙◌}
use Rattle.std.proofs.lemmas.Result.{IfOk-weaker}
use Rattle.vl_values.specs.declared.key.Key.{Key}
use Rattle.vl_values.specs.declared.value.Value.{Value}
use Rattle.vl_values.specs.Keyed.{InKeyOrder, select}
use Rattle.vl_rows.specs.Slots.{found_in}
use Rattle.vl_rows.proofs.Finding.{found_in_order, found_iff}
use Rattle.vl_rows.proofs.rows.Rows.find.Goals as goal
use Rattle.vl_rows.proofs.rows.Rows.find.Goals.{After-found}

listed : (c : After-found) (l : List (Key × List Value)) → l ≡ select (found_in c.args.pred.now c.args.reader) c.as_slice.result.now → l ≡ select (found_in c.args.pred.now c.args.reader) c.self.inside.slots.items
listed c l is = is ∙ ap (select (found_in c.args.pred.now c.args.reader)) c.as_slice.ensures.value

pub returns-clause-order : goal.returns-clause-order
returns-clause-order c =
    IfOk-weaker c.found.result _ _ (λ rows is. subst InKeyOrder (sym (listed c rows.items is)) (found_in_order c.self.inside.slots.items c.self.invariant c.args.pred.now c.args.reader)) c.found.ensures

pub returns-clause-exact : goal.returns-clause-exact
returns-clause-exact c =
    IfOk-weaker c.found.result _ _ (λ rows is entry. rw (listed c rows.items is, ← c.self.view_is) (found_iff c.self.inside.slots.items c.self.invariant c.args.pred.now c.args.reader entry)) c.found.ensures
