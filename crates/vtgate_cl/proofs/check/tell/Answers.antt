use Rattle.vtgate_cl.specs.Check.Tells.{Whole, Cut}
use Rattle.vtgate_cl.proofs.check.tell.Goals as goal

pub returns-in-Ok-clause-told : goal.returns-in-Ok-clause-told
returns-in-Ok-clause-told g c = Whole c.in-Ok.ensures.ok

pub returns-in-Err-clause-told : goal.returns-in-Err-clause-told
returns-in-Err-clause-told g c = Cut c.in-Err.ensures.err
