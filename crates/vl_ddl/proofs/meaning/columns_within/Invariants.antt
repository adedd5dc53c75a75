use Rattle.std.proofs.Common.{◌≡◌, ℕ, List, take}
use Rattle.std.specs.List.{flat_map}
use Rattle.vl_ddl.specs.Seen.{Holds}
use Rattle.vl_ddl.specs.Meaning.{column_in}
use Rattle.vl_ddl.proofs.meaning.columns_within.Given as goal

abbrev pub invariant-loop-part : goal.invariant-loop-part
invariant-loop-part l = (names : List (List ℕ)) → Holds l.key names → l.columns.items ≡ flat_map (column_in names) (take l.part-index l.parts)
