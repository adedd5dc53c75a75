use Rattle.std.proofs.Common.{◌≡◌, take}
use Rattle.vl_ddl.specs.Meaning.{key_of}
use Rattle.vl_ddl.proofs.meaning.key_of.Given as goal

abbrev pub invariant-loop-part : goal.invariant-loop-part
invariant-loop-part l = l.key.items ≡ key_of (take l.part-index l.parts)
