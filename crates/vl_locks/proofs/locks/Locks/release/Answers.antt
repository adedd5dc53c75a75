use Rattle.std.proofs.Common.{rules, ◌∙◌, ap, ◌≡◌, ◌==◌, not}
use Rattle.std.proofs.lemmas.Fn.{filter_same}
use Rattle.vl_values.proofs.Keying.{in_order-filter}
use Rattle.vl_locks.specs.Locks.{without}
use Rattle.vl_locks.proofs.Holding.{released}
use Rattle.vl_locks.proofs.locks.Locks.release.Goals as goal
use Rattle.vl_locks.proofs.locks.Locks.release.Goals.{After-retain}

left : (c : After-retain) → c.retain.new.self.items ≡ without c.args.conn c.self.inside.holds.items
left c = filter_same _ (λ hold. not (hold.1 == c.args.conn)) _ (λ x b f' k. search rules) _ _ c.retain.ensures.filtered

pub invariant_of-self : goal.invariant_of-self
invariant_of-self c = rw (left c) (in_order-filter _ c.self.inside.holds.items c.self.invariant)

pub returns-clause-order : goal.returns-clause-order
returns-clause-order c = invariant_of-self c

pub returns-clause-holds : goal.returns-clause-holds
returns-clause-holds c = left c ∙ ap (without c.args.conn) c.self.view_is

pub returns-clause-holders : goal.returns-clause-holders
returns-clause-holders c key = rw (left c, ← c.self.view_is) (released c.args.conn c.self.inside.holds.items c.self.invariant key)
