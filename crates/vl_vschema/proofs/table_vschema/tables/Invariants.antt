use Rattle.std.proofs.Common.{◌≡◌, ◌++◌, codes, map}
use Rattle.serde_json.specs.View.{view, members_view}
use Rattle.vl_vschema.specs.Json.{members}
use Rattle.vl_vschema.specs.Vschema.{table_of, members_named}
use Rattle.vl_vschema.proofs.table_vschema.tables.Given as goal

abbrev pub invariant-loop-name : goal.invariant-loop-name
invariant-loop-name l = l.found.items ++ map table_of (members (members_view l.name-iterator)) ≡ map table_of (members_named (codes "tables") (view l.fn.file))
