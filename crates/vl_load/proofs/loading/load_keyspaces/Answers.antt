use Rattle.vl_vschema.specs.CatalogFile.{catalog_breaks}
use Rattle.vl_load.specs.Loading.IsRefusedFrom.{InCatalogFile}
use Rattle.vl_load.specs.Reading.{RefusesJson}
use Rattle.vl_load.proofs.Faults.{unfit_whole}
use Rattle.vl_load.proofs.loading.load_keyspaces.Goals as goal

pub returns-clause-err : goal.returns-clause-err
returns-clause-err g c =
    let known = g.F.Files.known c.args.files.now in
    let name = c.args.name.now in
    let text = c.in-Ok-load_text.file.text in
    let file = rw c.in-Ok.ensures.ok at c.in-Ok-load_text.ensures.ok in
    let refused = rw file.named at c.in-Err-keyspaces_of.ensures.err in
    unfit_whole known name (RefusesJson catalog_breaks name text) c.in-Err-keyspaces_of.fault (λ refusal is. InCatalogFile text file.loaded is) refused
