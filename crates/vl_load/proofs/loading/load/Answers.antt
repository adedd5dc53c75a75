use Rattle.vl_load.specs.Loading.{RefusesTexts}
use Rattle.vl_load.specs.Loading.IsRefusedFrom.{InOthers}
use Rattle.vl_load.proofs.Faults.{unfit_whole}
use Rattle.vl_load.proofs.loading.load.Goals as goal

pub returns-in-Err-catalog_of-clause-err : goal.returns-in-Err-catalog_of-clause-err
returns-in-Err-catalog_of-clause-err g c =
    let known = g.F.Files.known c.args.files.now in
    let name = c.args.name.now in
    let texts = c.in-Ok.texts.items in
    unfit_whole known name (RefusesTexts texts) c.in-Err-catalog_of.fault (λ refusal is. InOthers texts c.in-Ok.ensures.ok is) c.in-Err-catalog_of.ensures.err
