use Rattle.std.proofs.Common.{◌≡◌, ◌++◌, take, drop}
use Rattle.my_auth.specs.Token.{xor_bytes}
use Rattle.my_auth.proofs.native_token.xor.Given as goal

abbrev pub invariant-loop-i : goal.invariant-loop-i
invariant-loop-i l = l.bytes ≡ xor_bytes (take l.i l.fn.bytes) l.other ++ drop l.i l.fn.bytes
