use Rattle.std.proofs.Common.{rules, ◌≡◌, List, ◌∙◌, ap, map}
use Rattle.std.specs.List.{filter}
use Rattle.std.proofs.lemmas.Fn.{filter_same}
use Rattle.vl_values.specs.declared.key.Key.{Key}
use Rattle.vl_values.specs.Keyed.{value_at}
use Rattle.vl_rows.specs.declared.change.Change.{Change}
use Rattle.vl_rows.specs.Slots.{abandoned_in}
use Rattle.vl_rows.proofs.Versioning.{rewritten, in_order, is_kept, abandoned_in_order, abandoned_pending, abandoned_committed, others_at}
use Rattle.vl_rows.proofs.rows.Rows.abandon.Goals as goal
use Rattle.vl_rows.proofs.rows.Rows.abandon.Goals.{After-retain}

after : (c : After-retain) → c.retain.new.self.items ≡ filter is_kept (map (abandoned_in c.args.conn) c.self.inside.slots.items)
after c =
    filter_same _ is_kept _ (λ x b f' k. search rules) _ _ c.retain.ensures.filtered
    ∙ ap (filter is_kept) (rewritten (abandoned_in c.args.conn) c.self.inside.slots.items c.as_mut_slice.result.now c.abandon_all.new.slots c.self.inside.slots.len c.as_mut_slice.ensures.value c.as_mut_slice.ensures.len c.abandon_all.ensures)

pub invariant_of-self : goal.invariant_of-self
invariant_of-self c = rw (after c) (abandoned_in_order c.args.conn c.self.inside.slots.items c.self.invariant)

pub returns-clause-order : goal.returns-clause-order
returns-clause-order c = in_order _ (invariant_of-self c)

pub returns-clause-pending : goal.returns-clause-pending
returns-clause-pending c = rw (after c, ← c.self.view_is) (abandoned_pending c.args.conn c.self.inside.slots.items c.self.invariant)

pub returns-clause-changes : goal.returns-clause-changes
returns-clause-changes c key =
    rw (after c, ← c.self.view_is)
    (ap (λ (l : List (Key × Change)). value_at l key) (abandoned_pending c.args.conn c.self.inside.slots.items c.self.invariant) ∙ others_at c.args.conn c.self.inside.slots.items c.self.invariant key)

pub returns-clause-committed : goal.returns-clause-committed
returns-clause-committed c = rw (after c, ← c.self.view_is) (abandoned_committed c.args.conn c.self.inside.slots.items c.self.invariant)
