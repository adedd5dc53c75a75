use Rattle.std.proofs.Common.{[], ◌++◌, None, codes, subst}
use Rattle.std.proofs.lemmas.List.Sums.{fold-append}
use Rattle.serde_json.specs.View.{view}
use Rattle.vl_vschema.specs.Breaking.{in_object}
use Rattle.vl_vschema.specs.CatalogFile.{catalog_kinds, taken_names}
use Rattle.vl_vschema.specs.Document.{IsLeastOf}
use Rattle.vl_vschema.specs.Json.{at_member}
use Rattle.vl_vschema.specs.Sink.{lesser}
use Rattle.vl_vschema.proofs.LeastPath.{least_of}
use Rattle.vl_vschema.proofs.catalog_file.least_breaking.Goals as goal

pub returns : goal.returns
returns c =
    let kinds = in_object catalog_kinds [] (view c.args.file.now) in
    let names = at_member (codes "keyspaces") taken_names [] (view c.args.file.now) in
    rw (c.into_path.ensures, c.in_ok-look_at.ensures, c.in_ok-find.ensures, c.new-least.ensures, c.root-root.ensures)
    (subst (IsLeastOf (kinds ++ names)) (fold-append lesser None kinds names) (least_of (kinds ++ names)))
