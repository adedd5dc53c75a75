use Rattle.vl_load.specs.Reading.{RefusesFile, RefusesSchema}
use Rattle.vl_load.specs.Reading.RefusesFile.{BadSchema}
use Rattle.vl_load.proofs.Faults.{unfit}
use Rattle.vl_load.proofs.reading.read_pair.Goals as goal

pub returns-in-Err-tables_of-clause-err : goal.returns-in-Err-tables_of-clause-err
returns-in-Err-tables_of-clause-err c =
    let texts = c.args.texts in
    unfit (RefusesSchema texts.schema) (RefusesFile texts) c.in-Err-tables_of.fault (λ fault is. BadSchema c.in-Ok.vschema c.in-Ok.ensures.ok is) c.in-Err-tables_of.ensures.err
