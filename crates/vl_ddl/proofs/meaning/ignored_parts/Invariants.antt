use Rattle.std.proofs.Common.{◌≡◌, take}
use Rattle.std.specs.List.{flat_map}
use Rattle.vl_ddl.specs.Meaning.{ignored_in}
use Rattle.vl_ddl.proofs.meaning.ignored_parts.Given as goal

abbrev pub invariant-loop-part : goal.invariant-loop-part
invariant-loop-part l = l.ignored.items ≡ flat_map (ignored_in l.table) (take l.part-index l.parts)
