use Rattle.std.proofs.Common.{◌≡◌, ◌++◌, take, drop, map}
use Rattle.my_auth.specs.Salt.{salt_byte}
use Rattle.my_auth.proofs.salting.salt_of.Given as goal

abbrev pub invariant-loop-byte : goal.invariant-loop-byte
invariant-loop-byte l = l.byte-items ≡ map salt_byte (take l.byte-index l.fn.random) ++ drop l.byte-index l.fn.random
