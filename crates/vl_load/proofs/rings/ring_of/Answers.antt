use Rattle.vl_load.proofs.rings.ring_of.Goals as goal

pub returns-in-Err-clause-err : goal.returns-in-Err-clause-err
returns-in-Err-clause-err c = c.ring_fault.ensures c.args.ranges.items c.in-Err.ensures.fault
