use Rattle.std.proofs.Common.{◌<◌, length, add-one, arith}
use Rattle.my_auth.proofs.Bytes.{joined}
use Rattle.my_auth.proofs.native_token.xor.Goals as goal

pub loop-i-preserved : goal.loop-i-preserved
loop-i-preserved c =
    let here : c.loop-i.i < length c.args.bytes = omega arith in
    let there : c.loop-i.i < length c.args.other.now = omega arith in
    rw (c.loop-i.invariant, add-one) (joined c.args.bytes c.args.other.now c.loop-i.i here there)
