use Rattle.std.proofs.Common.{Ok, Err}
use Rattle.vtgate_cl.proofs.check.check.Goals as goal

pub tell_report-requires : goal.tell_report-requires
tell_report-requires g c = c.in-Ok.ensures.ok.2.catalog.1

pub returns-in-Ok-clause-told : goal.returns-in-Ok-clause-told
returns-in-Ok-clause-told g c = record {
  found = Ok c.in-Ok.loaded;
  is = c.in-Ok.ensures.ok;
  cause = c.in-Ok.ensures.cause;
  told = c.tell_report.ensures.told;
}

pub returns-in-Err-clause-told : goal.returns-in-Err-clause-told
returns-in-Err-clause-told g c = record {
  found = Err c.in-Err.fault;
  is = c.in-Err.ensures.err;
  cause = c.in-Err.ensures.cause;
  told = c.tell_fault.ensures.told;
}
