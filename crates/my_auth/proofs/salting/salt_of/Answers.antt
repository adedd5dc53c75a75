use Rattle.std.proofs.Common.{◌≡◌, ◌<◌, ◌+◌, ◌++◌, length, map, take, drop, sym, subst, add-one, arith}
use Rattle.std.proofs.Math.ListN.{set}
use Rattle.std.proofs.lemmas.Grind.{common_steps}
use Rattle.my_auth.specs.Salt.{HasNoZero, salt, salt_byte}
use Rattle.my_auth.proofs.Bytes.{mapped}
use Rattle.my_auth.proofs.Salts.{no_zero}
use Rattle.my_auth.proofs.salting.salt_of.Goals as goal

pub loop-byte-preserved : goal.loop-byte-preserved
loop-byte-preserved c =
    let i = c.loop-byte.byte-index in
    let here : i < length c.args.random = omega arith in
    let step : set c.loop-byte.byte-items i c.salt_byte.result ≡ map salt_byte (take (i + 1) c.args.random) ++ drop (i + 1) c.args.random =
    rw (c.salt_byte.ensures, c.loop-byte.invariant, add-one) (mapped salt_byte c.args.random i here) in
    step

pub returns-clause-whole : goal.returns-clause-whole
returns-clause-whole c =
    let is : c.loop-byte.byte-items ≡ salt c.args.random = grind (arith, common_steps) in
    subst HasNoZero (sym is) (no_zero c.args.random)
