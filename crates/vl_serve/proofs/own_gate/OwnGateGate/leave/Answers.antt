use Rattle.vl_serve.proofs.Others.{leave_ran, leaves_last}
use Rattle.vl_serve.proofs.own_gate.OwnGateGate.leave.Goals as goal

pub returns-clause-left : goal.returns-clause-left
returns-clause-left c = leave_ran _ _ _ c.args.pass c.play.ensures c.leave.ensures.left

pub returns-clause-last : goal.returns-clause-last
returns-clause-last c = λ last. leaves_last _ c.args.pass _ c.leave.ensures.left (c.play.ensures.last last)
