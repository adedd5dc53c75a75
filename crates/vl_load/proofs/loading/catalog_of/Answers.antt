use Rattle.vl_load.specs.Loading.{RefusesRules, RefusesTexts}
use Rattle.vl_load.specs.Loading.RefusesTexts.{InRings, InRules}
use Rattle.vl_load.specs.Rings.{RefusesRings}
use Rattle.vl_load.proofs.Faults.{unfit}
use Rattle.vl_load.proofs.loading.catalog_of.Goals as goal

pub returns-in-Err-with_rings-clause-err : goal.returns-in-Err-with_rings-clause-err
returns-in-Err-with_rings-clause-err c =
    let reads = c.in-Ok.reads.items in
    unfit (RefusesRings reads) (RefusesTexts c.args.texts.items) c.in-Err-with_rings.fault (λ fault is. InRings reads c.in-Ok.ensures.ok is) c.in-Err-with_rings.ensures.err

pub returns-in-Err-checked-clause-err : goal.returns-in-Err-checked-clause-err
returns-in-Err-checked-clause-err c =
    let reads = c.in-Ok.reads.items in
    let parts = c.in-Ok-with_rings.parts.items in
    unfit (RefusesRules parts) (RefusesTexts c.args.texts.items) c.in-Err-checked.fault (λ fault is. InRules reads parts c.in-Ok.ensures.ok c.in-Ok-with_rings.ensures.ok is) c.in-Err-checked.ensures.err
