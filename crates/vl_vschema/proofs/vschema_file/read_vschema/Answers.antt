use Rattle.serde_json.specs.View.{view}
use Rattle.vl_vschema.specs.Breaking.{breaks}
use Rattle.vl_vschema.proofs.Rules.{told_least}
use Rattle.vl_vschema.proofs.vschema_file.read_vschema.Goals as goal

pub returns-in-Ok-Some-clause-err : goal.returns-in-Ok-Some-clause-err
returns-in-Ok-Some-clause-err c =
    (view c.in-Ok.file, c.in-Ok.ensures.ok, rw c.into_bytes.ensures (told_least (breaks (view c.in-Ok.file)) c.in-Ok-Some.field-0 c.in-Ok-Some.rule c.in-Ok-Some.path c.in-Ok-Some.field-0-is c.in-Ok-Some.ensures))
