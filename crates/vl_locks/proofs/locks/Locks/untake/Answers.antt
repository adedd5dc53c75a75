use Rattle.std.proofs.Common.{List, ℕ, subst}
use Rattle.vl_values.specs.declared.key.Key.{Key}
use Rattle.vl_values.specs.Keyed.{IsPlace}
use Rattle.vl_values.proofs.Keying.{in_order-remove, value_at-remove}
use Rattle.vl_locks.proofs.Holding.{nobody_at, stays}
use Rattle.vl_locks.proofs.locks.Locks.untake.Goals as goal

pub invariant_of-self : goal.invariant_of-self
invariant_of-self c =
    let at = subst (λ (l : List (Key × ℕ)). IsPlace c.args.key.now l c.in-Ok.place) c.as_slice.ensures.value c.in-Ok.ensures.found in
    rw c.remove.ensures.items (in_order-remove c.self.inside.holds.items c.in-Ok.place c.args.key.now c.remove.result c.self.invariant at)

pub returns-in-Ok-clause-order : goal.returns-in-Ok-clause-order
returns-in-Ok-clause-order c = invariant_of-self c

pub returns-in-Ok-clause-holders : goal.returns-in-Ok-clause-holders
returns-in-Ok-clause-holders c other =
    let at = subst (λ (l : List (Key × ℕ)). IsPlace c.args.key.now l c.in-Ok.place) c.as_slice.ensures.value c.in-Ok.ensures.found in
    rw (c.remove.ensures.items, ← c.self.view_is) (value_at-remove c.self.inside.holds.items c.in-Ok.place c.args.key.now c.remove.result other c.self.invariant at)

pub returns-in_default-clause-holders : goal.returns-in_default-clause-holders
returns-in_default-clause-holders c =
    rw (← c.self.view_is) (stays c.self.inside.holds.items c.args.key.now _
    (nobody_at c.self.inside.holds.items c.as_slice.result.now c.in_default.field-0 c.args.key.now c.self.invariant c.as_slice.ensures.value c.in_default.ensures.absent))
