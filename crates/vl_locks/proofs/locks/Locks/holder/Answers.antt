use Rattle.std.proofs.Common.{sym}
use Rattle.vl_locks.proofs.Holding.{holder_at, nobody_at}
use Rattle.vl_locks.proofs.locks.Locks.holder.Goals as goal

pub returns-in-Ok-clause-holder : goal.returns-in-Ok-clause-holder
returns-in-Ok-clause-holder c =
    rw (← c.self.view_is) (sym (holder_at c.self.inside.holds.items c.as_slice.result.now c.in-Ok.place c.args.key.now c.index.result.now c.self.invariant c.as_slice.ensures.value c.in-Ok.ensures.found c.index.ensures))

pub returns-in-Err-clause-holder : goal.returns-in-Err-clause-holder
returns-in-Err-clause-holder c =
    rw (← c.self.view_is) (sym (nobody_at c.self.inside.holds.items c.as_slice.result.now c.in-Err.field-0 c.args.key.now c.self.invariant c.as_slice.ensures.value c.in-Err.ensures.absent))
