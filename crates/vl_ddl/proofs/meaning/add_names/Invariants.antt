use Rattle.std.proofs.Common.{◌≡◌, ◌++◌, take}
use Rattle.vl_ddl.proofs.meaning.add_names.Given as goal

abbrev pub invariant-loop-name : goal.invariant-loop-name
invariant-loop-name l = l.key.items ≡ l.initial.key.items ++ take l.name-index l.names
