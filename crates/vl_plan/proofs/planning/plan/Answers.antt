use Rattle.std.proofs.lemmas.Result.{IfOk-weaker}
use Rattle.vl_plan.specs.Fits.{Fits}
use Rattle.vl_plan.proofs.FitsPlanned.{planned_fits}
use Rattle.vl_plan.proofs.planning.plan.Goals as goal

pub returns-clause-fits : goal.returns-clause-fits
returns-clause-fits c =
    IfOk-weaker c.plan_of.result _ (Fits c.args.catalog.now) (λ plan h. planned_fits c.args.catalog.now c.args.stmt.now plan c.requires.checked h.0 h.1) c.plan_of.ensures.planned
