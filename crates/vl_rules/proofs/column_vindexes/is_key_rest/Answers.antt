use Rattle.std.proofs.Common.{rules}
use Rattle.vl_catalog.specs.Build.{column_number, other_keys}
use Rattle.vl_rules.proofs.KeyRest.{rest_by_name}
use Rattle.vl_rules.proofs.column_vindexes.is_key_rest.Goals as goal

pub returns-in-Some : goal.returns-in-Some
returns-in-Some c =
    let rest = rest_by_name c.in-Some.owner.now.columns c.args.rest.now (other_keys c.in-Some.owner.now.pk (column_number c.in-Some.owner.now.columns c.args.column.now)) in
    search rules
