use Rattle.vl_vschema.specs.Breaking.{breaks}
use Rattle.vl_load.proofs.reading.vschema_of.Goals as goal

pub returns-in-Err-clause-err : goal.returns-in-Err-clause-err
returns-in-Err-clause-err c = c.json_fault.ensures breaks (rw c.as_slice.ensures at c.in-Err.ensures.err)
