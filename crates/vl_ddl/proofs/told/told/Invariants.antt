use Rattle.std.proofs.Common.{◌≡◌, ◌++◌, drop}
use Rattle.vl_token.specs.View.{tokens_of}
use Rattle.vl_ddl.specs.Told.{told, told_from}
use Rattle.vl_ddl.proofs.told.told.Given as goal

abbrev pub invariant-loop-i : goal.invariant-loop-i
invariant-loop-i l = tokens_of l.list.items ++ told_from l.begins (tokens_of (drop l.i l.tokens)) ≡ told (tokens_of l.tokens)
