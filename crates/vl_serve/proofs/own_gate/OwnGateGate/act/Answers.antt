use Rattle.vl_serve.proofs.Others.{act_ran, acted_due, stray_last}
use Rattle.vl_serve.proofs.Short.{acted_short}
use Rattle.vl_serve.proofs.own_gate.OwnGateGate.act.Goals as goal

pub returns-clause-said : goal.returns-clause-said
returns-clause-said c = act_ran _ _ _ c.args.pass _ _ _ c.play.ensures c.act.ensures.acted

pub returns-clause-due : goal.returns-clause-due
returns-clause-due c = λ due. acted_due _ c.args.pass _ _ _ _ c.act.ensures.acted (c.play.ensures.kept c.args.pass due)

pub returns-clause-stray : goal.returns-clause-stray
returns-clause-stray c = λ due stray. stray_last _ c.args.pass _ _ _ _ c.act.ensures.acted (c.play.ensures.kept c.args.pass due) stray

pub returns-clause-short : goal.returns-clause-short
returns-clause-short c = acted_short _ c.args.pass _ _ _ _ c.act.ensures.acted
