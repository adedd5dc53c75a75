use Rattle.std.proofs.Common.{◌≡◌, ◌++◌, codes, map}
use Rattle.serde_json.specs.View.{view, members_view}
use Rattle.vl_vschema.specs.Json.{members}
use Rattle.vl_vschema.specs.Vschema.{vindex_of, members_named}
use Rattle.vl_vschema.proofs.vindex_def.vindexes.Given as goal

abbrev pub invariant-loop-name : goal.invariant-loop-name
invariant-loop-name l = l.defs.items ++ map vindex_of (members (members_view l.name-iterator)) ≡ map vindex_of (members_named (codes "vindexes") (view l.fn.file))
