use Rattle.std.proofs.Common.{◌/◌, length, arith}
use Rattle.std.proofs.lemmas.List.{length-take-le}
use Rattle.vl_vindex.proofs.Digits.{decoded_front}
use Rattle.vl_vindex.proofs.side.Side.from_digits.Goals as goal

pub returns : goal.returns
returns c =
    decoded_front _ _ c.args.digits.now c.decode_to_slice.new.out _ (length c.args.digits.now / 2) _ (omega arith)
    (length-take-le (length c.args.digits.now / 2) _ (omega arith))
    c.requires.digits c.decode_to_slice.ensures.value
