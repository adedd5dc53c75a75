use Rattle.std.proofs.Common.{subst}
use Rattle.vl_serve.specs.Command.{Means}
use Rattle.vl_serve.specs.Command.IsAnswered.{Refused, NotServed}
use Rattle.vl_serve.proofs.Steps.{means_taken, refused_step, lost_step}
use Rattle.vl_serve.proofs.answer.answer.Goals as goal

pub returns-in_default-clause-step : goal.returns-in_default-clause-step
returns-in_default-clause-step g c = lost_step _ _ _ c.args.payload.now

pub run-requires : goal.run-requires
run-requires g c = means_taken c.args.payload.now c.in-Run.stmt (subst (Means c.args.payload.now) c.in-Run.is c.in-Ok.ensures)

pub returns-in-Run-clause-step : goal.returns-in-Run-clause-step
returns-in-Run-clause-step g c = c.run.ensures.step c.args.payload.now (subst (Means c.args.payload.now) c.in-Run.is c.in-Ok.ensures)

pub returns-in-NoStatement-clause-step : goal.returns-in-NoStatement-clause-step
returns-in-NoStatement-clause-step g c =
    refused_step _ _ _ _ c.args.payload.now _ c.refuse.result (Refused (subst (Means c.args.payload.now) c.in-NoStatement.is c.in-Ok.ensures)) c.refuse.ensures.wrote

pub returns-in-Unknown-clause-step : goal.returns-in-Unknown-clause-step
returns-in-Unknown-clause-step g c =
    refused_step _ _ _ _ c.args.payload.now _ c.refuse-in-Unknown.result (NotServed (subst (Means c.args.payload.now) c.in-Unknown.is c.in-Ok.ensures)) c.refuse-in-Unknown.ensures.wrote
