use Rattle.std.proofs.Common.{arith, refl, sym, subst}
use Rattle.vtgate_cl.specs.declared.status.Status.{Status}
use Rattle.vtgate_cl.specs.declared.stop.Stop.{Stop}
use Rattle.vtgate_cl.specs.declared.stop.Stop.TheVariants.{NotScript, Read, Write, Memory}
use Rattle.vtgate_cl.specs.Status.{IsScriptStatus, IsTold, status_of}
use Rattle.vtgate_cl.proofs.Input.{told_done, told_break}
use Rattle.vtgate_cl.proofs.batch.run_script.Goals as goal

pub returns-in-Ok-clause-script : goal.returns-in-Ok-clause-script
returns-in-Ok-clause-script g c bytes known =
    let ran = c.in-Ok.ensures.ok bytes known in
    (ran.0, ran.1, told_done bytes ran.0 (g.S.Source.left c.run.new.src) ran.2)

pub returns-in-Err-clause-script : goal.returns-in-Err-clause-script
returns-in-Err-clause-script g c bytes known =
    let ran = c.in-Err.ensures.err bytes known in
    (ran.0, ran.1, subst (λ (v : Status). IsTold v bytes (g.S.Source.left c.run.new.src) ran.0) (sym c.status.ensures) (told_break c.in-Err.stop bytes ran.0 (g.S.Source.left c.run.new.src) ran.2))

stop_known : (stop : Stop) → IsScriptStatus (status_of stop)
stop_known NotScript = (1, omega arith, refl)
stop_known Read = (2, omega arith, refl)
stop_known Write = (3, omega arith, refl)
stop_known Memory = (4, omega arith, refl)

pub returns-in-Err-clause-status : goal.returns-in-Err-clause-status
returns-in-Err-clause-status g c = subst IsScriptStatus (sym c.status.ensures) (stop_known c.in-Err.stop)
