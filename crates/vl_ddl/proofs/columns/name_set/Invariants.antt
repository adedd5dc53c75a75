use Rattle.std.proofs.Common.{take}
use Rattle.vl_ddl.specs.Seen.{Holds}
use Rattle.vl_ddl.proofs.columns.name_set.Given as goal

abbrev pub invariant-loop-name : goal.invariant-loop-name
invariant-loop-name l = Holds l.set (take l.name-index l.names)
