use Rattle.serde_json.specs.View.{view}
use Rattle.vl_vschema.specs.Breaking.{breaks}
use Rattle.vl_vschema.proofs.LeastPath.{least_of}
use Rattle.vl_vschema.proofs.breaks.least_breaking.Goals as goal

pub returns : goal.returns
returns c = rw (c.into_path.ensures, c.in_ok-find_breaking.ensures, c.new-least.ensures) (least_of (breaks (view c.args.file.now) c.args.rule))
