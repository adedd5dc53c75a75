use Rattle.std.proofs.Common.{ℕ, Option, Some, None, IfNone}
use Rattle.vl_shard.specs.Parts.{Parts}
use Rattle.vl_shard.proofs.Leaving.{settled_absent, closed_absent, lost_absent}
use Rattle.vl_shard.proofs.shard.Shard.number.Goals as goal

where_none : (o : Option ℕ) (P Q : Type 0) → (P → Q) → IfNone o P → IfNone o Q
where_none None P Q f h = f h
where_none (Some n) P Q f h = h

pub returns-clause-settled : goal.returns-clause-settled
returns-clause-settled c =
    let parts : Parts = record { rows = c.self.inside.rows; holds = c.self.inside.locks; seats = c.self.inside.seats; incarnation = c.self.inside.incarnation } in
    rw (← c.self.view_is) (where_none c.find.result _ _ (λ absent. settled_absent parts c.args.who.now c.self.invariant absent) c.find.ensures.absent)

pub returns-clause-closed : goal.returns-clause-closed
returns-clause-closed c =
    let parts : Parts = record { rows = c.self.inside.rows; holds = c.self.inside.locks; seats = c.self.inside.seats; incarnation = c.self.inside.incarnation } in
    rw (← c.self.view_is) (where_none c.find.result _ _ (λ absent. closed_absent parts c.args.who.now c.self.invariant absent) c.find.ensures.absent)

pub returns-clause-lost : goal.returns-clause-lost
returns-clause-lost c =
    let parts : Parts = record { rows = c.self.inside.rows; holds = c.self.inside.locks; seats = c.self.inside.seats; incarnation = c.self.inside.incarnation } in
    rw (← c.self.view_is) (where_none c.find.result _ _ (λ absent fate. lost_absent parts c.args.who.now c.self.invariant absent fate) c.find.ensures.absent)
