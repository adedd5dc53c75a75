use Rattle.std.proofs.Common.{◌++◌}
use Rattle.vl_load.specs.Files.{IsLong, IsLongOf, LongSchema}
use Rattle.vl_load.proofs.Faults.{unloaded}
use Rattle.vl_load.proofs.texts.load_pair.Goals as goal

pub returns-in-Err-load_in-clause-err : goal.returns-in-Err-load_in-clause-err
returns-in-Err-load_in-clause-err g c =
    let known = g.F.Files.known c.args.files.now in
    let folder = c.args.folder.now in
    let keyspace = c.args.keyspace in
    let text = rw c.as_str.ensures at c.in-Ok.ensures.ok in
    let long = rw (c.in-Ok.ensures.same, c.as_str-2.ensures) at c.in-Err-load_in.ensures.err in
    unloaded (IsLong known (folder ++ keyspace.schema)) (IsLongOf known folder keyspace) c.in-Err-load_in.fault (λ file is. LongSchema c.in-Ok.vschema text is) long
