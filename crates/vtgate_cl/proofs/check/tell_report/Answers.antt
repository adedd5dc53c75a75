use Rattle.std.proofs.Common.{◌∙◌}
use Rattle.vl_load.specs.Report.{report_of}
use Rattle.vtgate_cl.specs.declared.status.Status.TheVariants.{Done}
use Rattle.vtgate_cl.proofs.Checking.{tells_as, unwritten}
use Rattle.vtgate_cl.proofs.check.tell_report.Goals as goal

pub returns-in_default-clause-told : goal.returns-in_default-clause-told
returns-in_default-clause-told g c =
    unwritten (report_of c.args.loaded.now) Done (g.O.Sink.held c.args.out.now)

pub returns-clause-told : goal.returns-clause-told
returns-clause-told g c =
    tells_as c.as_slice.result.now (report_of c.args.loaded.now) Done c.tell.result (g.O.Sink.held c.args.out.now) (g.O.Sink.held c.tell.new.out) (c.as_slice.ensures.value ∙ c.in-Ok.ensures) c.tell.ensures.told
