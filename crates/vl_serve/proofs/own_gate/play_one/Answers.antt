use Rattle.vl_serve.proofs.Others.{played_one}
use Rattle.vl_serve.proofs.own_gate.play_one.Goals as goal

pub returns-in-Ok : goal.returns-in-Ok
returns-in-Ok c =
    played_one _ _ _ _ c.in-Ok.pass c.args.stmt _ _ c.in-Ok.ensures.ok c.act-pass.ensures.acted c.leave.ensures.left
