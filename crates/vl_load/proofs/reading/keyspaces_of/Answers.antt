use Rattle.vl_vschema.specs.CatalogFile.{catalog_breaks}
use Rattle.vl_load.proofs.reading.keyspaces_of.Goals as goal

pub returns-in-Err-clause-err : goal.returns-in-Err-clause-err
returns-in-Err-clause-err c = c.json_fault.ensures catalog_breaks (rw c.as_slice.ensures at c.in-Err.ensures.err)
