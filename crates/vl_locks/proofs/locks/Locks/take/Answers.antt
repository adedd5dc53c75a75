use Rattle.std.proofs.Common.{List, ℕ, Some, ◌≡◌, refl, ap, subst, ◌∙◌}
use Rattle.std.specs.List.{insert}
use Rattle.vl_values.specs.declared.key.Key.{Key}
use Rattle.vl_values.specs.Keyed.{IsGap}
use Rattle.vl_values.proofs.Keying.{in_order-insert, value_at-insert}
use Rattle.vl_locks.specs.Locks.{holder_of}
use Rattle.vl_locks.proofs.Holding.{holder_at, nobody_at, stays}
use Rattle.vl_locks.proofs.locks.Locks.take.Goals as goal
use Rattle.vl_locks.proofs.locks.Locks.take.Goals.{In_ok-insert-in-Err}

pub returns-then-by-conn-clause-ok : goal.returns-then-by-conn-clause-ok
returns-then-by-conn-clause-ok c = (
  rw (← c.self.view_is) (holder_at c.self.inside.holds.items c.as_slice.result.now c.in-Ok.place c.args.key.now c.index.result.now c.self.invariant c.as_slice.ensures.value c.in-Ok.ensures.found c.index.ensures),
  c.if-by-conn.true,
  refl,
)

pub returns-else-by-conn-clause-ok : goal.returns-else-by-conn-clause-ok
returns-else-by-conn-clause-ok c =
    let held = holder_at c.self.inside.holds.items c.as_slice.result.now c.in-Ok.place c.args.key.now c.index.result.now c.self.invariant c.as_slice.ensures.value c.in-Ok.ensures.found c.index.ensures in
    let mine : holder_of c.self.inside.holds.items c.args.key.now ≡ Some c.args.conn = held ∙ ap Some c.if-by-conn.false in
    rw (← c.self.view_is) (mine, stays c.self.inside.holds.items c.args.key.now (Some c.args.conn) mine)

gap : (c : In_ok-insert-in-Err) → IsGap c.args.key.now c.self.inside.holds.items c.in-Err.place
gap c = subst (λ (l : List (Key × ℕ)). IsGap c.args.key.now l c.in-Err.place) c.as_slice.ensures.value c.in-Err.ensures.absent

after : (c : In_ok-insert-in-Err) → c.insert.new.self.items ≡ insert c.self.inside.holds.items c.in-Err.place (c.args.key.now, c.args.conn)
after c = c.in_ok-insert-in-Err.ensures.items ∙ ap (λ (k : Key). insert c.self.inside.holds.items c.in-Err.place (k, c.args.conn)) c.in_ok-key-in-Err.ensures

pub invariant_of-self-in-Err : goal.invariant_of-self-in-Err
invariant_of-self-in-Err c = rw (after c) (in_order-insert c.self.inside.holds.items c.in-Err.place c.args.key.now c.args.conn c.self.invariant (gap c))

pub returns-in_ok-insert-in-Err-clause-order : goal.returns-in_ok-insert-in-Err-clause-order
returns-in_ok-insert-in-Err-clause-order c = invariant_of-self-in-Err c

pub returns-in_ok-insert-in-Err-clause-ok : goal.returns-in_ok-insert-in-Err-clause-ok
returns-in_ok-insert-in-Err-clause-ok c =
    rw (after c, ← c.self.view_is) (
      nobody_at c.self.inside.holds.items c.as_slice.result.now c.in-Err.place c.args.key.now c.self.invariant c.as_slice.ensures.value c.in-Err.ensures.absent,
      λ other. value_at-insert c.self.inside.holds.items c.in-Err.place c.args.key.now c.args.conn other c.self.invariant (gap c),
    )
