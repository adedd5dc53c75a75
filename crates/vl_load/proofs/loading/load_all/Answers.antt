use Rattle.vl_load.specs.Files.{IsLongIn}
use Rattle.vl_load.specs.Files.IsLongFile.{LongOther}
use Rattle.vl_load.specs.Names.{folder_of}
use Rattle.vl_load.proofs.Faults.{unloaded_whole}
use Rattle.vl_load.proofs.loading.load_all.Goals as goal

pub returns-clause-err : goal.returns-clause-err
returns-clause-err g c =
    let known = g.F.Files.known c.args.files.now in
    let name = c.args.name.now in
    let long = rw (c.in-Ok.ensures.same, c.as_str.ensures.value, c.in-Ok-folder_of.ensures, c.into_vec.ensures) at c.in-Err-load_texts.ensures.err in
    unloaded_whole known name (IsLongIn known (folder_of name) c.in-Ok.keyspaces) c.in-Err-load_texts.fault (λ file is. LongOther c.in-Ok.keyspaces c.in-Ok.ensures.ok is) long
