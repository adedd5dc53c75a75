use Rattle.std.proofs.Common.{◌<◌, ◌+◌, List, ℕ, length, ap, arith}
use Rattle.std.specs.Prelude.{vec_capacity, vec_len}
use Rattle.std.specs.BTreeMap.{values}
use Rattle.std.specs.Map.Iter.{deref}
use Rattle.std.proofs.lemmas.Map.Iter.{rest_more}
use Rattle.vl_record.proofs.Putting.{any_err, no_room_left}
use Rattle.vl_record.proofs.rec.put_changes.Goals as goal

pub returns-in_err-extend_from_slice-clause-full : goal.returns-in_err-extend_from_slice-clause-full
returns-in_err-extend_from_slice-clause-full c =
    let bytes = c.in-Some.bytes.now in
    let is = rest_more deref c.loop-bytes.bytes-iterator c.next.new.self c.next.result c.in-Some.bytes c.in-Some.is c.next.ensures.steps in
    let full : vec_capacity c.loop-bytes.out < vec_len c.loop-bytes.out + length bytes
    = omega (arith, c.in_err-extend_from_slice.ensures.full, ap (λ (t : List ℕ). length t) c.as_slice.ensures) in
    any_err c.from_residual.result
    (no_room_left (λ (t : List ℕ). t) (values c.args.changes.now) bytes c.loop-bytes.bytes-iterator c.next.new.self c.args.out.now c.loop-bytes.out is c.loop-bytes.invariant full)
