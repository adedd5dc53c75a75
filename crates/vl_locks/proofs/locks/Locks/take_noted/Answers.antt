use Rattle.std.proofs.Common.{Some, refl, sym, ap, inl, ◌∙◌}
use Rattle.std.specs.Option.{is_some}
use Rattle.vl_locks.specs.Locks.{holder_of}
use Rattle.vl_locks.proofs.Holding.{stays}
use Rattle.vl_locks.proofs.Taken.{mine_from}
use Rattle.vl_locks.proofs.locks.Locks.take_noted.Goals as goal

pub returns-then-is_some-clause-ok : goal.returns-then-is_some-clause-ok
returns-then-is_some-clause-ok c =
    let some = ap is_some (sym c.holder.ensures.holder) ∙ sym c.is_some.ensures ∙ c.if-is_some.true in
    let mine = mine_from c.args.conn (holder_of c.args.self.now c.args.key.now) c.requires some in
    record { holders = stays c.args.self.now c.args.key.now (Some c.args.conn) mine; adds = inl (mine, refl) }
