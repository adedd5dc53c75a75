use Rattle.std.proofs.Common.{◌≡◌, map, take}
use Rattle.vl_ddl.specs.Meaning.{defined}
use Rattle.vl_ddl.proofs.meaning.tables_of.Given as goal

abbrev pub invariant-loop-statement : goal.invariant-loop-statement
invariant-loop-statement l = l.tables.items ≡ map defined (take l.statement-index l.statements)
