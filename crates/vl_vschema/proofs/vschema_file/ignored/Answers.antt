use Rattle.std.proofs.Common.{◌≡◌, [], IfOk, subst}
use Rattle.serde_json.specs.View.{view}
use Rattle.vl_vschema.specs.Ignored.{ignored as ignored_paths}
use Rattle.vl_vschema.specs.Sink.{IsListing}
use Rattle.vl_vschema.proofs.Ordering.{all_listed}
use Rattle.vl_vschema.proofs.vschema_file.ignored.Goals as goal

pub returns : goal.returns
returns c =
    let all : c.find-2.new.sink ≡ ignored_paths [] (view c.args.file.now) =
    rw (c.in_ok-find.ensures, c.root.ensures, c.new-listing.ensures) (all_listed (ignored_paths [] (view c.args.file.now)) []) in
    subst (λ paths. IfOk c.into_items.result (IsListing paths)) all c.into_items.ensures
