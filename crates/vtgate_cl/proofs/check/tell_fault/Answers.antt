use Rattle.std.proofs.Common.{◌∙◌, sym}
use Rattle.vl_load.specs.Lines.{fault_line}
use Rattle.vtgate_cl.specs.Check.{status_of_fault}
use Rattle.vtgate_cl.proofs.Checking.{fault_not_cut, fault_not_done, tells_as, tells_due, unwritten}
use Rattle.vtgate_cl.proofs.check.tell_fault.Goals as goal

pub returns-in_default-clause-told : goal.returns-in_default-clause-told
returns-in_default-clause-told g c =
    unwritten (fault_line c.args.fault.now) (status_of_fault c.args.fault.now) (g.O.Sink.held c.args.out.now)

pub tell-requires : goal.tell-requires
tell-requires g c is4 = fault_not_cut c.args.fault.now (sym c.status_of.ensures ∙ is4)

pub returns-clause-told : goal.returns-clause-told
returns-clause-told g c =
    tells_as c.as_slice.result.now (fault_line c.args.fault.now) (status_of_fault c.args.fault.now) c.tell.result (g.O.Sink.held c.args.out.now) (g.O.Sink.held c.tell.new.out) (c.as_slice.ensures.value ∙ c.in-Ok.ensures)
    (tells_due c.as_slice.result.now c.status_of.result (status_of_fault c.args.fault.now) c.tell.result (g.O.Sink.held c.args.out.now) (g.O.Sink.held c.tell.new.out) c.status_of.ensures c.tell.ensures.told)

pub returns-clause-some : goal.returns-clause-some
returns-clause-some g c done =
    fault_not_done c.args.fault.now (sym c.status_of.ensures ∙ (c.tell.ensures.calm done).0)
