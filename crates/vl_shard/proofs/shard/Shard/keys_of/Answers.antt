use Rattle.std.proofs.Common.{Bool, sym, ap, ◌∙◌, subst}
use Rattle.std.proofs.lemmas.Result.{IfOk-weaker}
use Rattle.vl_values.specs.Keyed.{AreInOrder}
use Rattle.vl_values.proofs.Keying.{in_order_none}
use Rattle.vl_port.specs.declared.act.Act.TheVariants.{Find}
use Rattle.vl_port.specs.Holding.{needs}
use Rattle.vl_shard.specs.Parts.{Parts, view_of}
use Rattle.vl_shard.proofs.Doing.{keys_needed}
use Rattle.vl_shard.proofs.shard.Shard.keys_of.Goals as goal

pub returns-then-locking-clause-needed : goal.returns-then-locking-clause-needed
returns-then-locking-clause-needed c =
    let parts : Parts = record { rows = c.self.inside.rows; holds = c.self.inside.locks; seats = c.self.inside.seats; incarnation = c.self.inside.incarnation } in
    rw (← c.self.view_is)
    (IfOk-weaker c.matching.result _ _
    (λ keys exact key. keys_needed parts c.self.invariant c.args.pred.now keys.items exact key ∙ ap (λ (b : Bool). needs (view_of parts) (Find c.args.pred.now b) key) (sym c.if-locking.true))
    c.matching.ensures.exact)

pub returns-else-locking-clause-order : goal.returns-else-locking-clause-order
returns-else-locking-clause-order c = subst AreInOrder (sym c.new.ensures.items) in_order_none
