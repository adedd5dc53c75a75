use Rattle.vl_serve.proofs.Others.{join_ran, join_due}
use Rattle.vl_serve.proofs.own_gate.OwnGateGate.join.Goals as goal

pub returns-clause-ok : goal.returns-clause-ok
returns-clause-ok c = join_ran _ _ _ c.join.result c.play.ensures c.join.ensures.ok

pub returns-clause-due : goal.returns-clause-due
returns-clause-due c = join_due _ _ c.join.result c.join.ensures.ok
